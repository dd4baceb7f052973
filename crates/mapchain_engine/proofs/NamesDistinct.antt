-- Names without a fault are distinct.
use Rattle.std.proofs.Common.{◌≡◌, ◌≢◌, ℕ, Bool, true, false, ◌||◌, cond, List, [], ◌∷◌, ◌++◌, length, Option, Some, None, refl, ap, ◌∙◌}
use Rattle.std.specs.Prelude.{bytes_eq}
use Rattle.std.specs.List.{AllByRecursion}
use Rattle.std.proofs.lemmas.Bool.{or_parts}
use Rattle.owned_values.proofs.Tests.{bytes_differ}
use Rattle.topojson_types.specs.Validity.{AreDistinct}
use Rattle.inputs.specs.declared.fault.BuildFault.TheVariants.{DuplicateName}
use Rattle.inputs.specs.Names.{is_among, fault_of_name, or_else, name_fault, name_fault_after}

both_none : {A : Type 0} (a b : Option A) → or_else a b ≡ None → (a ≡ None) × (b ≡ None)
both_none None b h = (refl, h)
both_none (Some x) b h = absurd cc

new_name : (before : List (List ℕ)) (name : List ℕ) → fault_of_name before name ≡ None → is_among name before ≡ false
new_name before [] h = absurd cc
new_name before (c ∷ cs) h = on (is_among (c ∷ cs) before) h
  where
    on : (b : Bool) → cond b (Some (DuplicateName (length before))) None ≡ None → b ≡ false
    on true k = absurd cc
    on false k = refl

other_name : (name n : List ℕ) (before : List (List ℕ)) → is_among n (before ++ name ∷ []) ≡ false → (is_among n before ≡ false) × (bytes_eq name n ≡ false)
other_name name n [] h = (refl, (or_parts (bytes_eq name n) false h).0)
other_name name n (b ∷ bs) h =
    let p = or_parts (bytes_eq b n) (is_among n (bs ++ name ∷ [])) h in
    let q = other_name name n bs p.1 in
    (ap (λ z. z || is_among n bs) p.0 ∙ q.0, q.1)

others : (name : List ℕ) (before names : List (List ℕ)) → AllByRecursion (λ n. is_among n (before ++ name ∷ []) ≡ false) names
    → AllByRecursion (λ n. is_among n before ≡ false) names × AllByRecursion (λ n. name ≢ n) names
others name before [] h = (tt, tt)
others name before (n ∷ names) h =
    let p = other_name name n before h.0 in
    let q = others name before names h.1 in
    ((p.0, q.0), (bytes_differ name n p.1, q.1))

new_names : (before names : List (List ℕ)) → name_fault_after before names ≡ None → AllByRecursion (λ n. is_among n before ≡ false) names × AreDistinct names
unfolding name_fault_after
new_names before [] h = (tt, tt)
new_names before (name ∷ names) h =
    let p = both_none (fault_of_name before name) (name_fault_after (before ++ name ∷ []) names) h in
    let q = new_names (before ++ name ∷ []) names p.1 in
    let r = others name before names q.0 in
    ((new_name before name p.0, r.0), (r.1, q.1))

pub distinct_names : (names : List (List ℕ)) → name_fault names ≡ None → AreDistinct names
distinct_names names h = (new_names [] names h).1
