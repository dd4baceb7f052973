-- The names of layers in a set.
use Rattle.std.proofs.Common.{arith, ◌≡◌, ℕ, Bool, true, false, ◌||◌, cond, List, [], ◌∷◌, ◌++◌, Some, refl, sym, ap, ◌∙◌, Bor}
use Rattle.std.specs.Prelude.{bytes_eq}
use Rattle.std.specs.Ordering.{is_eq}
use Rattle.std.specs.BTreeSet.{BTreeSet, Updates}
use Rattle.std.proofs.lemmas.Map.Text.{is_eq-slice_cmp}
use Rattle.inputs.specs.Names.{is_among, order, Knows}

-- a name is the last, or among those before it
among_last : (q name : List ℕ) (names : List (List ℕ)) → is_among q (names ++ name ∷ []) ≡ cond (bytes_eq name q) true (is_among q names)
among_last q name [] = on (bytes_eq name q)
  where
    on : (b : Bool) → (b || false) ≡ cond b true false
    on true = refl
    on false = refl
among_last q name (other ∷ names) = rw (among_last q name names) (on (bytes_eq other q) (bytes_eq name q) (is_among q names))
  where
    on : (o n a : Bool) → (o || cond n true a) ≡ cond n true (o || a)
    on o n a = grind arith

pub knows_more : (set after : BTreeSet (Bor (List ℕ))) (key : Bor (List ℕ)) (names : List (List ℕ))
    → Knows (Some set) names → Updates order set after key true → Knows (Some after) (names ++ key.now ∷ [])
knows_more set after key names known updates q =
    updates.0 q ∙ ap (cond (is_eq (order key q)) true) (known q) ∙ ap (λ b. cond b true (is_among q.now names)) (is_eq-slice_cmp key.now q.now) ∙ sym (among_last q.now key.now names)
