-- How many positions are left of a line where equal neighbours count as one.
use mathlib.Core.List.{reverse_aux}
use Rattle.std.proofs.Common.{◌≡◌, ℕ, suc, ◌+◌, ◌-◌, ◌≤◌, Bool, true, false, List, [], ◌∷◌, ◌++◌, length, reverse, Option, None, Some, refl, ap, if◌then◌else◌, arith}
use Rattle.geometry.specs.Points.{Point}
use Rattle.geometry.specs.Rings.{same}
use Rattle.geometry.proofs.Points.{same_is, same_self}
use Rattle.guarded_meaning.specs.Lists.{last_after}
use Rattle.junctions.specs.Cleaning.{clean, clean_from}
use Rattle.topo_model.specs.Passing.{new_after}

-- those of a position and more of them
abbrev pub left_from : Point → List Point → ℕ
left_from p ps = length (clean_from p ps)

-- at least one is left
pub some_left : (p : Point) (ps : List Point) → 1 ≤ left_from p ps
some_left p [] = omega arith
some_left p (q ∷ ps) = grind (arith, some_left q ps)

-- ---- one line after another

left_on : (p q : Point) (ps : List Point) → suc (left_from p (q ∷ ps)) ≡ left_from p (q ∷ []) + left_from q ps
left_on p q ps = on (same p q)
  where
    on : (b : Bool) → suc (length (if b then clean_from q ps else p ∷ clean_from q ps)) ≡ length (if b then q ∷ [] else p ∷ (q ∷ [])) + length (clean_from q ps)
    on true = omega arith
    on false = omega arith

pub left_after : (p : Point) (ps qs : List Point) → suc (left_from p (ps ++ qs)) ≡ left_from p ps + left_from (last_after p ps) qs
left_after p [] qs = omega arith
left_after p (q ∷ ps) qs =
    let all = left_on p q (ps ++ qs) in let first = left_on p q ps in let later = left_after q ps qs in
    omega (arith, all, first, later)

-- ---- a line backwards

pair_back : (p q : Point) → left_from p (q ∷ []) ≡ left_from q (p ∷ [])
pair_back p q = grind (arith, same_is p q, same_is q p, same_self p)

back_onto : (p : Point) (ps qs : List Point) → suc (length (clean (reverse_aux ps (p ∷ qs)))) ≡ left_from p ps + left_from p qs
back_onto p [] qs = omega arith
back_onto p (q ∷ ps) qs =
    let all = back_onto q ps (p ∷ qs) in let there = left_on q p qs in let here = left_on p q ps in let back = pair_back p q in
    omega (arith, all, there, here, back)

pub as_many_back : (ps : List Point) → length (clean (reverse ps)) ≡ length (clean ps)
as_many_back [] = refl
as_many_back (p ∷ ps) = let all = back_onto p ps [] in omega (arith, all)

-- ---- after the last position

pub nothing_new : (last : Option Point) → new_after last [] ≡ 0
nothing_new last = grind arith

pub first_new : (last : Option Point) (p : Point) → last ≡ None → 1 ≡ new_after last (p ∷ [])
first_new last p e = grind arith

pub same_not_new : (last : Option Point) (q p : Point) → last ≡ Some q → same q p ≡ true → 0 ≡ new_after last (p ∷ [])
same_not_new last q p e s = grind arith

pub other_new : (last : Option Point) (q p : Point) → last ≡ Some q → same q p ≡ false → 1 ≡ new_after last (p ∷ [])
other_new last q p e s = grind arith

-- how many positions one is more after another
abbrev pub step : Point → Point → ℕ
step p q = new_after (Some p) (q ∷ [])

pub step_most : (p q : Point) → step p q ≤ 1
step_most p q = on (same p q)
  where
    on : (b : Bool) → length (if b then q ∷ [] else p ∷ (q ∷ [])) - 1 ≤ 1
    on true = omega arith
    on false = omega arith

pub no_step : (p : Point) → step p p ≡ 0
no_step p = ap (λ (b : Bool). length (if b then p ∷ [] else p ∷ (p ∷ [])) - 1) (same_self p)

pub step_on : (p q : Point) (ps : List Point) → left_from p (q ∷ ps) ≡ step p q + left_from q ps
step_on p q ps = on (same p q)
  where
    on : (b : Bool) → length (if b then clean_from q ps else p ∷ clean_from q ps) ≡ (length (if b then q ∷ [] else p ∷ (q ∷ [])) - 1) + length (clean_from q ps)
    on true = omega arith
    on false = omega arith

pub new_on : (last : Option Point) (p : Point) (ps : List Point) → suc (new_after last (p ∷ ps)) ≡ new_after last (p ∷ []) + left_from p ps
new_on None p ps = omega arith
new_on (Some q) p ps = let all = step_on q p ps in let some = some_left p ps in omega (arith, all, some)
