-- A loop that moves what is left of the parts of something to the front, in order, and lists what is dropped of them. A way may lead into a part.
use Rattle.std.proofs.Common.{arith, ◌≡◌, ℕ, suc, ◌+◌, ◌-◌, ◌<◌, ◌≤◌, Bool, true, false, List, [], ◌∷◌, ◌++◌, map, take, drop, length, get_or, set, append_assoc, append-nil, Option, None, Some, if◌then◌else◌, refl, sym, ap, subst, ◌∙◌, inl, inr}
use Rattle.std.proofs.lemmas.Bool.{cases_lt}
use Rattle.std.proofs.lemmas.List.{drop-set-lt, drop_all, drop_more, get_or-drop, get_or-set_same, length-set, take-set-le, take_more_set}
use Rattle.std.proofs.lemmas.List.Edits.{length-swap, swap_is}
use Rattle.std.proofs.Math.Seq.{take-append_seam}
use Rattle.std.specs.Prelude.{not, swap}
use Rattle.std.specs.Option.{is_some}
use Rattle.geometry.specs.declared.address.Address.{Address}
use Rattle.geometry.specs.declared.address.Cause.{Cause}
use Rattle.geometry.specs.declared.address.Dropped.{Dropped}
use Rattle.geometry.specs.Lists.{some_of, with_some}
use Rattle.geometry.specs.Paths.{Placed, of_parts}
use Rattle.geometry.specs.Addresses.{part_address}
use Rattle.build_meaning.specs.Expected.{unless}
use Rattle.build_meaning.specs.OuterRings.{into_part, along}
use Rattle.topo_model.specs.Places.{dropped_at}
use Rattle.topo_model.proofs.Reported.{first_part}

-- ---- lists

swap_sets : {A : Type 0} (ys : List A) (i kept : ℕ) (d y : A) → kept ≤ i → i < length ys → swap (set ys i y) kept i ≡ set (set (set ys i y) kept y) i (get_or (set ys i y) kept d)
swap_sets ys i kept d y few within =
    sym (swap_is (set ys i y) kept i d (omega (arith, length-set ys i y)) (omega (arith, length-set ys i y)))
    ∙ ap (λ z. set (set (set ys i y) kept z) i (get_or (set ys i y) kept d)) (get_or-set_same ys i y d within)

after_swap : {A : Type 0} (ys : List A) (i kept : ℕ) (y : A) → kept ≤ i → i < length ys → drop (i + 1) (swap (set ys i y) kept i) ≡ drop (i + 1) ys
after_swap ys i kept y few within =
    ap (drop (i + 1)) (swap_sets ys i kept y y few within)
    ∙ drop-set-lt (i + 1) (set (set ys i y) kept y) i (get_or (set ys i y) kept y) (omega arith)
    ∙ drop-set-lt (i + 1) (set ys i y) kept y (omega arith)
    ∙ drop-set-lt (i + 1) ys i y (omega arith)

stored_last : {A : Type 0} (ys : List A) (i : ℕ) (y w : A) → i < length ys → w ≡ y → take (i + 1) (set (set (set ys i y) i y) i w) ≡ take i ys ++ y ∷ []
stored_last ys i y w within same =
    take_more_set (set (set ys i y) i y) i w (omega (arith, length-set (set ys i y) i y, length-set ys i y))
    ∙ ap (λ zs. zs ++ w ∷ []) (take-set-le i (set ys i y) i y (omega arith) ∙ take-set-le i ys i y (omega arith))
    ∙ ap (λ z. take i ys ++ z ∷ []) same

prefix_swap : {A : Type 0} (ys : List A) (i kept : ℕ) (y : A) → kept ≤ i → i < length ys → take (kept + 1) (swap (set ys i y) kept i) ≡ take kept ys ++ y ∷ []
prefix_swap ys i kept y few within =
    ap (take (kept + 1)) (swap_sets ys i kept y y few within)
    ∙ (elim (cases_lt kept i) [
      | inl less ↦ take-set-le (kept + 1) (set (set ys i y) kept y) i (get_or (set ys i y) kept y) (omega arith)
          ∙ take_more_set (set ys i y) kept y (omega (arith, length-set ys i y))
          ∙ ap (λ zs. zs ++ y ∷ []) (take-set-le kept ys i y few)
      | inr more ↦ let e : i ≡ kept = omega arith in
          subst (λ k. take (k + 1) (set (set (set ys i y) k y) i (get_or (set ys i y) k y)) ≡ take k ys ++ y ∷ []) e
          (stored_last ys i y (get_or (set ys i y) i y) within (get_or-set_same ys i y y within))
    ])

-- elements from an index on that are as they were
pub unvisited : {A : Type 0} (xs ys : List A) (i : ℕ) → drop i ys ≡ drop i xs → (k : ℕ) (d : A) → i ≤ k → get_or ys k d ≡ get_or xs k d
unvisited xs ys i following k d h =
    let e : i + (k - i) ≡ k = omega arith in
    ap (λ n. get_or ys n d) (sym e) ∙ sym (get_or-drop i ys (k - i) d) ∙ ap (λ zs. get_or zs (k - i) d) following ∙ get_or-drop i xs (k - i) d ∙ ap (λ n. get_or xs n d) e

-- parts into which no way leads
pub along_alone : {A : Type 0} (i : ℕ) (xs : List A) (way : Option (List ℕ)) → along (λ x w. x) i xs way ≡ xs
along_alone i [] way = refl
along_alone i (x ∷ xs) way = ap (λ ys. x ∷ ys) (along_alone (suc i) xs way)

-- what is left where there is no cause to drop it
pub if_none : {A : Type 0} (cause : Option Cause) (x : A) (none : Bool) → is_some cause ≡ not none → unless cause x ≡ (if none then Some x else None)
if_none None x true e = refl
if_none None x false e = absurd cc
if_none (Some c) x true e = absurd cc
if_none (Some c) x false e = refl

-- ---- the loop

module _ {A B : Type 0} (h : A → Option (List ℕ) → B) (of : B → Option A) (why : B → List (Placed Cause)) (way : Option (List ℕ)) (a : Address) where
  -- what is left of the parts from this number on
  abbrev pub left : ℕ → List A → List A
  left i xs = some_of of (along h i xs way)

  -- what is dropped of them
  abbrev pub gone : ℕ → List A → List Dropped
  gone i xs = dropped_at a (of_parts i (map why (along h i xs way)))

  -- of the parts between the first number and this one what is left lies in front, and the parts from this one on are as they were
  pub record InPrefix (first : ℕ) (xs : List A) (before : List Dropped) (i kept : ℕ) (ys : List A) (now : List Dropped) : Type 0 where
    pub few : kept ≤ i
    pub long : length ys ≡ length xs
    pub following : drop i ys ≡ drop i xs
    pub stay : take kept ys ++ left i (drop i ys) ≡ take first xs ++ left first (drop first xs)
    pub listed : now ++ gone i (drop i ys) ≡ before ++ gone first (drop first xs)

  pub starts : (first : ℕ) (xs : List A) (before : List Dropped) → InPrefix first xs before first first xs before
  starts first xs before = record { few = omega arith; long = refl; following = refl; stay = refl; listed = refl }

  module _ (first : ℕ) (xs : List A) (before : List Dropped) (i kept : ℕ) (ys : List A) (now new : List Dropped) (d y : A) (part : Option (List ℕ)) (within : i < length xs) (so : InPrefix first xs before i kept ys now) (leads : part ≡ into_part i way)
      (is : new ≡ now ++ dropped_at (part_address a i) (why (h (get_or ys i d) part))) where
    in_list : i < length ys
    in_list = omega (arith, so.long)

    at_part : drop i ys ≡ get_or ys i d ∷ drop (i + 1) ys
    at_part = drop_more ys i d in_list

    on : suc i ≡ i + 1
    on = omega arith

    after : drop (i + 1) ys ≡ drop (i + 1) xs
    after = ap (drop 1) (sym at_part ∙ so.following ∙ drop_more xs i d within)

    left_more : with_some (of (h (get_or ys i d) part)) (left (i + 1) (drop (i + 1) ys)) ≡ left i (drop i ys)
    left_more =
        ap (λ w. with_some (of (h (get_or ys i d) w)) (left (i + 1) (drop (i + 1) ys))) leads
        ∙ ap (λ n. with_some (of (h (get_or ys i d) (into_part i way))) (left n (drop (i + 1) ys))) (sym on) ∙ sym (ap (left i) at_part)

    gone_more : new ++ gone (i + 1) (drop (i + 1) ys) ≡ before ++ gone first (drop first xs)
    gone_more =
        ap (λ ds. ds ++ gone (i + 1) (drop (i + 1) ys)) (is ∙ ap (λ w. now ++ dropped_at (part_address a i) (why (h (get_or ys i d) w))) leads)
        ∙ ap (λ n. (now ++ dropped_at (part_address a i) (why (h (get_or ys i d) (into_part i way)))) ++ gone n (drop (i + 1) ys)) (sym on)
        ∙ append_assoc now (dropped_at (part_address a i) (why (h (get_or ys i d) (into_part i way)))) (gone (suc i) (drop (i + 1) ys))
        ∙ ap (λ ds. now ++ ds) (sym (first_part a i (why (h (get_or ys i d) (into_part i way))) (map why (along h (suc i) (drop (i + 1) ys) way))))
        ∙ ap (λ zs. now ++ gone i zs) (sym at_part) ∙ so.listed

    -- what is left of it, if something is, lies after what is left of the others
    pub turns : (b : Bool) → of (h (get_or ys i d) part) ≡ (if b then Some y else None) → (b ≡ true → InPrefix first xs before (i + 1) (kept + 1) (swap (set ys i y) kept i) new) × (b ≡ false → InPrefix first xs before (i + 1) kept (set ys i y) new)
    turns b e =
        let swapped = after_swap ys i kept y so.few in_list in
        let unmoved = drop-set-lt (i + 1) ys i y (omega arith) in (
          λ t. record {
            few = omega (arith, so.few);
            long = length-swap (set ys i y) kept i ∙ length-set ys i y ∙ so.long;
            following = swapped ∙ after;
            stay = ap (λ zs. take (kept + 1) (swap (set ys i y) kept i) ++ left (i + 1) zs) swapped
                ∙ ap (λ zs. zs ++ left (i + 1) (drop (i + 1) ys)) (prefix_swap ys i kept y so.few in_list)
                ∙ append_assoc (take kept ys) (y ∷ []) (left (i + 1) (drop (i + 1) ys))
                ∙ ap (λ zs. take kept ys ++ zs) (sym (ap (λ o. with_some o (left (i + 1) (drop (i + 1) ys))) (e ∙ ap (λ b. if b then Some y else None) t)) ∙ left_more) ∙ so.stay;
            listed = ap (λ zs. new ++ gone (i + 1) zs) swapped ∙ gone_more;
          },
          λ t. record {
            few = omega (arith, so.few);
            long = length-set ys i y ∙ so.long;
            following = unmoved ∙ after;
            stay = ap (λ zs. take kept (set ys i y) ++ left (i + 1) zs) unmoved ∙ ap (λ zs. zs ++ left (i + 1) (drop (i + 1) ys)) (take-set-le kept ys i y so.few)
                ∙ ap (λ zs. take kept ys ++ zs) (sym (ap (λ o. with_some o (left (i + 1) (drop (i + 1) ys))) (e ∙ ap (λ b. if b then Some y else None) t)) ∙ left_more) ∙ so.stay;
            listed = ap (λ zs. new ++ gone (i + 1) zs) unmoved ∙ gone_more;
          },
        )

  -- at the end, where the parts were lent whole
  pub ends : (first : ℕ) (xs whole : List A) (before : List Dropped) (i kept : ℕ) (ys : List A) (now : List Dropped) → xs ≡ whole → length xs ≤ i → InPrefix first xs before i kept ys now
      → (take kept (take (length whole) (ys ++ drop (length ys) whole)) ≡ take first whole ++ left first (drop first whole)) × (now ≡ before ++ gone first (drop first whole))
  ends first xs whole before i kept ys now same h so =
      let none : drop i ys ≡ [] = drop_all i ys (omega (arith, so.long)) in (
        ap (λ n. take kept (take n (ys ++ drop (length ys) whole))) (sym (so.long ∙ ap length same)) ∙ ap (take kept) (take-append_seam ys (drop (length ys) whole))
            ∙ sym (append-nil (take kept ys)) ∙ sym (ap (λ zs. take kept ys ++ left i zs) none) ∙ so.stay ∙ ap (λ zs. take first zs ++ left first (drop first zs)) same,
        sym (append-nil now) ∙ sym (ap (λ zs. now ++ gone i zs) none) ∙ so.listed ∙ ap (λ zs. before ++ gone first (drop first zs)) same,
      )
