-- The sum over the positions of a ring that is rebuilt of its arcs.
use Rattle.std.proofs.Common.{◌≡◌, ℕ, zero, suc, ◌+◌, ◌-◌, ◌<◌, ◌≤◌, ◌==◌, ◌&&◌, ℤ, ◌+ℤ◌, pos, unsigned_abs, Bool, true, false, List, [], ◌∷◌, ◌++◌, append-nil, drop, get_or, length, map, slice_get, Option, None, Some, ap, refl, subst, sym, ◌∙◌, arith}
use Rattle.std.proofs.lemmas.Bool.{eqb-true}
use Rattle.std.proofs.lemmas.Int.{ints}
use Rattle.geometry.specs.Areas.{Passed, passed, passed_along, shoelace, sum_after, sum_along, turn_after}
use Rattle.geometry.specs.Joins.{arc_at, first_of, last_of, stitched}
use Rattle.geometry.specs.Points.{Point}
use Rattle.geometry.specs.Rings.{same}
use Rattle.geometry.proofs.Points.{same_is}
use Rattle.geometry.proofs.RingAreas.{one_after, none_after, sum_back, sum_over}
use Rattle.topo_model.specs.Passing.{AreSums, directed, goes_on, is_sum, most_of_arc, sum_with, Sums}
use Rattle.topo_model.proofs.Passed.{directed_length}

abbrev pub start : Passed
start = record { last = None; sum = pos 0 }

-- one position is passed
pub sums_one : (s new : Passed) (p : Point) → new ≡ passed s p → Sums (p ∷ []) s new
sums_one s new p e following =
    let one = one_after s.last p following in
    let more : (s.sum +ℤ turn_after s.last p) +ℤ sum_after (Some p) following ≡ s.sum +ℤ sum_after s.last (p ∷ following) = omega (arith, ints, one) in
    ap (λ n. sum_with n following) e ∙ more

-- when all are passed it is that of the whole
pub all_summed : (all : List Point) (now : Passed) → Sums all start now → now.sum ≡ shoelace all
all_summed all now h =
    let none = none_after now.last in
    let sums : now.sum +ℤ sum_after now.last [] ≡ pos 0 +ℤ shoelace all = h [] ∙ ap (λ l. pos 0 +ℤ shoelace l) (append-nil all) in
    omega (arith, ints, none, sums)

-- where there is no arc
pub none_summed : (arcs : List (List Point)) (refs : List ℤ) → length refs ≡ 0 → shoelace (stitched (map (arc_at arcs) refs)) ≡ pos 0
unfolding shoelace
none_summed arcs [] e = refl
none_summed arcs (r ∷ refs) e = absurd (omega (arith, e))

-- the position at the numbers of a cell
pub same_position : (p cell : Point) (x y : ℤ) → x ≡ cell.x → y ≡ cell.y → p ≡ record { x = x; y = y } → p ≡ cell
same_position p cell x y e f is = is ∙ ap (λ z. record { x = z; y = y }) e ∙ ap (λ z. record { x = cell.x; y = z }) f

-- ---- an arc at once

some_same : {X : Type 0} (a b : X) → Some a ≡ Some b → a ≡ b
some_same a b e = cc

and_both : (a b : Bool) → (a && b) ≡ true → (a ≡ true) × (b ≡ true)
and_both true b e = (refl, e)
and_both false b e = grind arith

first_is : (ps : List Point) (p : Point) → 0 < length ps → p ≡ get_or ps 0 p → first_of ps ≡ Some p
first_is [] p lt is = absurd (omega (arith, lt))
first_is (q ∷ ps) p lt is = ap Some (sym is)

last_is : (ps : List Point) (p : Point) → 0 < length ps → p ≡ get_or ps (length ps - 1) p → last_of ps ≡ Some p
last_is [] p lt is = absurd (omega (arith, lt))
last_is (q ∷ []) p lt is = ap Some (sym is)
last_is (q ∷ (r ∷ ps)) p lt is =
    let e : length (q ∷ (r ∷ ps)) - 1 ≡ suc (length (r ∷ ps) - 1) = omega arith in
    last_is (r ∷ ps) p (omega arith) (is ∙ ap (λ k. get_or (q ∷ (r ∷ ps)) k p) e)

along_is : (reversed : Bool) (arc : List Point) → sum_along reversed (shoelace arc) ≡ shoelace (directed reversed arc)
along_is true arc = sym (sum_back arc)
along_is false arc = refl

-- a line that goes on where the ring is, or begins it, is passed at once
pub line_passed : (s new : Passed) (ps : List Point) (from : ℕ) (first end : Point) → first_of ps ≡ Some first → last_of ps ≡ Some end → goes_on s.last first from ≡ true →
    new ≡ record { last = Some end; sum = s.sum +ℤ shoelace ps } → Sums (drop from ps) s new
line_passed s new [] from first end f l g is following = grind arith
line_passed s new (p ∷ ps) from first end f l g is following = on s.last refl g
  where
    over : shoelace (p ∷ (ps ++ following)) ≡ shoelace (p ∷ ps) +ℤ sum_after (Some end) following
    over = sum_over (p ∷ ps) following end l

    new_is : sum_with new following ≡ (s.sum +ℤ shoelace (p ∷ ps)) +ℤ sum_after (Some end) following
    new_is = ap (λ n. sum_with n following) is

    on : (last : Option Point) → s.last ≡ last → goes_on last first from ≡ true → sum_with new following ≡ s.sum +ℤ sum_after s.last (drop from (p ∷ ps) ++ following)
    on None e h =
        let none : from ≡ 0 = eqb-true from 0 h in
        let a : sum_after s.last (drop from (p ∷ ps) ++ following) ≡ shoelace (p ∷ (ps ++ following)) =
        ap (λ x. sum_after x (drop from (p ∷ ps) ++ following)) e ∙ ap (λ k. shoelace (drop k (p ∷ ps) ++ following)) none in
        omega (arith, ints, a, over, new_is)
    on (Some q) e h =
        let both = and_both (from == 1) (same q first) h in
        let one : from ≡ 1 = eqb-true from 1 both.0 in
        let here : q ≡ p = same_is q first both.1 ∙ some_same first p (sym f) in
        let a : sum_after s.last (drop from (p ∷ ps) ++ following) ≡ shoelace (p ∷ (ps ++ following)) =
        ap (λ x. sum_after x (drop from (p ∷ ps) ++ following)) (e ∙ ap Some here) ∙ ap (λ k. shoelace (p ∷ (drop k (p ∷ ps) ++ following))) one in
        omega (arith, ints, a, over, new_is)

-- the same of an arc in one direction or the other
pub arc_passed : (s line new : Passed) (reversed : Bool) (arc : List Point) (from : ℕ) (first end : Point) → 0 < length arc → first ≡ get_or (directed reversed arc) 0 first →
    end ≡ get_or (directed reversed arc) (length arc - 1) end → goes_on s.last first from ≡ true → line.sum ≡ shoelace arc → new ≡ passed_along reversed s line.sum end → Sums (drop from (directed reversed arc)) s new
arc_passed s line new reversed arc from first end some f l g is n =
    let long = directed_length reversed arc in
    let sum : sum_along reversed line.sum ≡ shoelace (directed reversed arc) = ap (sum_along reversed) is ∙ along_is reversed arc in
    line_passed s new (directed reversed arc) from first end (first_is (directed reversed arc) first (omega (arith, some, long)) f)
    (last_is (directed reversed arc) end (omega (arith, some, long)) (l ∙ ap (λ k. get_or (directed reversed arc) (k - 1) end) (sym long)))
    g (n ∙ ap (λ x. record { last = Some end; sum = s.sum +ℤ x }) sum)

-- ---- the sums of arcs

pub sum_is : (arc : List Point) (now : Passed) → Sums (drop 0 (directed false arc)) start now → unsigned_abs now.sum ≤ unsigned_abs (pos 0) + most_of_arc → is_sum arc now
sum_is arc now h bound = (all_summed arc now h, omega (arith, bound))

-- one more
pub more_sums : (arcs : List (List Point)) (sums : List Passed) (arc : List Point) (s : Passed) → AreSums arcs sums → slice_get arcs (length sums) ≡ Some arc → is_sum arc s → AreSums arcs (sums ++ (s ∷ []))
more_sums [] [] arc s h e is = grind arith
more_sums (a ∷ arcs) [] arc s h e is = (subst (λ x. is_sum x s) (sym (some_same a arc e)) is, tt)
more_sums [] (t ∷ sums) arc s h e is = h
more_sums (a ∷ arcs) (t ∷ sums) arc s h e is = (h.0, more_sums arcs sums arc s h.1 e is)

pub sum_at : (arcs : List (List Point)) (sums : List Passed) (i : ℕ) (arc : List Point) (s : Passed) → AreSums arcs sums → slice_get arcs i ≡ Some arc → slice_get sums i ≡ Some s → is_sum arc s
sum_at arcs [] i arc s h e f = grind arith
sum_at [] (t ∷ sums) i arc s h e f = absurd h
sum_at (a ∷ arcs) (t ∷ sums) zero arc s h e f = subst (λ x. is_sum x s) (some_same a arc e) (subst (λ x. is_sum a x) (some_same t s f) h.0)
sum_at (a ∷ arcs) (t ∷ sums) (suc i) arc s h e f = sum_at arcs sums i arc s h.1 e f
