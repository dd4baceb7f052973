-- The ends of a line have no weight, and each position between them has one.
use Rattle.std.proofs.Common.{◌≡◌, ℕ, zero, suc, ◌+◌, ◌-◌, ◌<◌, ◌≤◌, max, Bool, true, false, not, cond, if◌then◌else◌, ◌==◌, nat_lt, List, [], ◌∷◌, Option, Some, None, length, map, refl, ap, sym, ◌∙◌, subst, arith, ◌⊎◌, inl, inr}
use Rattle.std.specs.List.{All, AllByRecursion, filter, range_with_len}
use Rattle.std.proofs.lemmas.Bool.Decides.{nat_tests}
use Rattle.std.proofs.lemmas.List.Elements.{recursion_from_All}
use Rattle.geometry.specs.Lists.{In}
use Rattle.geometry.specs.Points.{Point, IsPosition}
use Rattle.geometry.specs.Units.{area_limit}
use Rattle.elimination_meaning.specs.Elimination.{Vertex, Corner, corners, corners_from, least, without, without_under, numbered, remaining, reduce}
use Rattle.elimination_meaning.specs.Rising.{RisesTo, RisesOver}
use Rattle.elimination_meaning.specs.Weights.{weight_from, weight, is_kept_at}
use Rattle.elimination_meaning.proofs.Enough.{none_is_left}
use Rattle.elimination_meaning.proofs.Rising.{indexes_rise}
use Rattle.elimination_meaning.proofs.Steps.{Holds, eliminate_sub, least_holds}
use Rattle.elimination_meaning.proofs.Sublists.{sub_all}
use Rattle.elimination_meaning.proofs.Weights.{kept_by_weight, weigh_on}
use Rattle.effective_area.proofs.LinkedCorners.{no_least}
use Rattle.effective_area.proofs.Turns.{range_in}
use Rattle.effective_area.proofs.Weighed.{area_bound}

-- ---- members of what is chosen of a list

module _ (f : ℕ → Bool) (i : ℕ) where
  pass_on : (x : ℕ) (xs : List ℕ) → (In i (filter f xs) → f i ≡ true) → (b : Bool) → f x ≡ b → In i (cond b (x ∷ filter f xs) (filter f xs)) → f i ≡ true
  pass_on x xs ih true e (inl m) = ap f m ∙ e
  pass_on x xs ih true e (inr m) = ih m
  pass_on x xs ih false e m = ih m

  passes : (xs : List ℕ) → In i (filter f xs) → f i ≡ true
  passes [] k = elim k [ ]
  passes (x ∷ xs) k = pass_on x xs (passes xs) (f x) refl k

  stay_in : (b : Bool) (x : ℕ) (xs : List ℕ) → In i xs → In i (cond b (x ∷ xs) xs)
  stay_in true x xs m = inr m
  stay_in false x xs m = m

  chosen : (xs : List ℕ) → In i xs → f i ≡ true → In i (filter f xs)
  chosen [] k e = k
  chosen (x ∷ xs) (inl m) e = subst (λ b. In i (cond b (x ∷ filter f xs) (filter f xs))) (sym (ap f (sym m) ∙ e)) (inl m)
  chosen (x ∷ xs) (inr m) e = stay_in (f x) x (filter f xs) (chosen xs m e)

-- ---- the ends

last_in : (last i : ℕ) (is : List ℕ) → RisesTo last i is → In last (i ∷ is)
last_in last i [] h = inl (sym h)
last_in last i (j ∷ js) h = inr (last_in last j js h.1)

ends_in : (n : ℕ) (is : List ℕ) → RisesOver n is → In 0 is × In (n - 1) is
ends_in n [] h = elim h [ ]
ends_in n (i ∷ is) h = (inl (sym h.0), last_in (n - 1) i is h.1)

no_weight : (o : Option ℕ) → ((t : ℕ) → is_kept_at t o ≡ true) → o ≡ None
no_weight None h = refl
no_weight (Some w) h = let k : not (nat_lt w (suc w)) ≡ true = h (suc w) in absurd (grind (arith, nat_tests))

-- what stays at each threshold has no weight
staying : (ps : List Point) (i : ℕ) → ((t : ℕ) → In i (reduce t ps)) → weight ps i ≡ None
staying ps i h = no_weight (weight ps i) (λ t. passes (λ j. is_kept_at t (weight ps j)) i (range_with_len 0 (length ps)) (subst (λ is. In i is) (kept_by_weight t ps) (h t)))

pub ends_without : (ps : List Point) (i : ℕ) → 2 ≤ length ps → (i ≡ 0) ⊎ (i + 1 ≡ length ps) → weight ps i ≡ None
ends_without ps i two (inl e) = staying ps i (λ t. subst (λ (j : ℕ). In j (reduce t ps)) (sym e) (ends_in (length ps) (reduce t ps) (indexes_rise t ps two)).0)
ends_without ps i two (inr e) =
    let f : length ps - 1 ≡ i = omega arith in
    staying ps i (λ t. subst (λ (j : ℕ). In j (reduce t ps)) f (ends_in (length ps) (reduce t ps) (indexes_rise t ps two)).1)

-- ---- positions between them

numbered_all : (P : Point → Type 0) (i : ℕ) (ps : List Point) → AllByRecursion P ps → AllByRecursion (λ v. P v.point) (numbered i ps)
numbered_all P i [] h = tt
numbered_all P i (p ∷ ps) h = (h.0, numbered_all P (i + 1) ps h.1)

from_under : (a b : Vertex) (vs : List Vertex) → IsPosition a.point → IsPosition b.point → AllByRecursion (λ v. IsPosition v.point) vs → AllByRecursion (λ c. c.area < area_limit) (corners_from a b vs)
from_under a b [] h k all = tt
from_under a b (c ∷ vs) h k all = (area_bound a.point b.point c.point h k all.0, from_under b c vs k all.0 all.1)

all_under : (vs : List Vertex) → AllByRecursion (λ v. IsPosition v.point) vs → AllByRecursion (λ c. c.area < area_limit) (corners vs)
all_under [] h = tt
all_under (a ∷ []) h = tt
all_under (a ∷ (b ∷ vs)) h = from_under a b vs h.0 h.1.0 h.1.1

none_least : (t : ℕ) (vs : List Vertex) (o : Option Corner) → Holds (λ c. c.area < t) o → without_under t vs o ≡ None → o ≡ None
none_least t vs None h e = refl
none_least t vs (Some c) h e = on (nat_lt c.area t) refl e
  where
    on : (b : Bool) → nat_lt c.area t ≡ b → (if b then Some (without c.index vs) else None) ≡ None → Some c ≡ None
    on true f g = cc
    on false f g = absurd (grind (arith, nat_tests))

-- of two vertices each is an end
two_left : (n i : ℕ) (vs : List Vertex) → corners vs ≡ [] → RisesOver n (map (λ v. v.index) vs) → In i (map (λ v. v.index) vs) → (i ≡ 0) ⊎ (i ≡ n - 1)
two_left n i [] e h k = elim k [ ]
two_left n i (a ∷ []) e h (inl m) = inl (m ∙ h.0)
two_left n i (a ∷ []) e h (inr m) = elim m [ ]
two_left n i (a ∷ (b ∷ [])) e h (inl m) = inl (m ∙ h.0)
two_left n i (a ∷ (b ∷ [])) e h (inr (inl m)) = inr (m ∙ h.1.1)
two_left n i (a ∷ (b ∷ [])) e h (inr (inr m)) = elim m [ ]
two_left n i (a ∷ (b ∷ (c ∷ vs))) e h k = cc

left_over : (ps : List Point) → All IsPosition ps → corners (remaining area_limit ps) ≡ []
left_over ps all =
    let rest = remaining area_limit ps in
    let positions = sub_all (λ v. IsPosition v.point) (eliminate_sub (length ps) area_limit (numbered 0 ps)) (numbered_all IsPosition 0 ps (recursion_from_All IsPosition ps all)) in
    no_least (corners rest) (none_least area_limit rest (least (corners rest)) (least_holds (λ c. c.area < area_limit) (corners rest) (all_under rest positions)) (none_is_left area_limit ps))

ends_stay_alone : (ps : List Point) (i : ℕ) → All IsPosition ps → 2 ≤ length ps → In i (reduce area_limit ps) → (i ≡ 0) ⊎ (i ≡ length ps - 1)
unfolding reduce
ends_stay_alone ps i all two k = two_left (length ps) i (remaining area_limit ps) (left_over ps all) (indexes_rise area_limit ps two) k

pub record HasWeight (ps : List Point) (i : ℕ) : Type 0 where
  pub area : ℕ
  pub is : weight ps i ≡ Some area

pub weight_between : (ps : List Point) (i : ℕ) → All IsPosition ps → 0 < i → i + 1 < length ps → HasWeight ps i
weight_between ps i all later inside = on (weight ps i) refl
  where
    among : In i (range_with_len 0 (length ps))
    among =
        let n : suc (length ps - 1) ≡ length ps = omega arith in
        subst (λ (k : ℕ). In i (range_with_len 0 k)) n (inr (range_in 0 (length ps - 1) i later (omega arith)))

    never : (i ≡ 0) ⊎ (i ≡ length ps - 1) → ⊥
    never (inl e) = omega arith
    never (inr e) = omega arith

    on : (o : Option ℕ) → weight ps i ≡ o → HasWeight ps i
    on (Some area) e = record { area = area; is = e }
    on None e = absurd (never (ends_stay_alone ps i all (omega arith)
        (subst (λ is. In i is) (sym (kept_by_weight area_limit ps)) (chosen (λ j. is_kept_at area_limit (weight ps j)) i (range_with_len 0 (length ps)) among (ap (is_kept_at area_limit) e)))))

-- ---- a weight isn't under the level from which it is sought

on_level : (n level : ℕ) (vs : List Vertex) (i area : ℕ) → ((k : ℕ) (ws : List Vertex) → weight_from n k ws i ≡ Some area → k ≤ area) → (o : Option Corner) → weigh_on n level vs i o ≡ Some area → level ≤ area
on_level n level vs i area ih None e = cc
on_level n level vs i area ih (Some c) e = on (c.index == i) e
  where
    some : (a b : ℕ) → Some a ≡ Some b → a ≡ b
    some a b f = cc

    on : (b : Bool) → (if b then Some (max level c.area) else weight_from n (max level c.area) (without c.index vs) i) ≡ Some area → level ≤ area
    on true f = omega (arith, some (max level c.area) area f)
    on false f = omega (arith, ih (max level c.area) (without c.index vs) f)

pub not_lower : (n level : ℕ) (vs : List Vertex) (i area : ℕ) → weight_from n level vs i ≡ Some area → level ≤ area
not_lower zero level vs i area e = cc
not_lower (suc n) level vs i area e = on_level n level vs i area (λ k ws f. not_lower n k ws i area f) (least (corners vs)) e
