-- Arcs as differences: the loop that takes them, and sums that give the cells back.
use Rattle.std.proofs.Common.{◌≡◌, ℕ, ◌+◌, ◌<◌, ◌≤◌, false, List, [], ◌∷◌, ◌++◌, length, get_or, drop, refl, ap, ◌∙◌, arith, ℤ, pos, ◌+ℤ◌, ◌-ℤ◌, negsuc, append_assoc, append-nil}
use Rattle.std.proofs.lemmas.Int.{ints}
use Rattle.std.proofs.lemmas.List.{at_drop_all}
use Rattle.std.specs.List.{AllByRecursion, list_all}
use Rattle.owned_values.proofs.Elements.{all_at}
use Rattle.owned_values.proofs.Lists.{drop_here}
use Rattle.geometry.specs.Points.{Point, IsPosition}
use Rattle.topojson_types.specs.Transforms.{is_within, grid_limit, moved, origin, sums_from, sums}
use Rattle.topojson_types.specs.Differences.{difference, deltas_from, deltas, SumsOfDeltas}

-- ---- the loop

-- the differences so far, with those of the other cells, are the arc's
pub record SoFar (cells : List Point) (i : ℕ) (differences : List Point) (before : Point) : Type 0 where
  pub place : IsPosition before
  pub whole : differences ++ deltas_from before (drop i cells) ≡ deltas cells

pub starts : (cells : List Point) → SoFar cells 0 [] origin
starts cells = grind arith

pub next : (cells : List Point) (before : Point) (i : ℕ) (c : Point) → i < length cells → c ≡ get_or cells i c
    → deltas_from before (drop i cells) ≡ difference before c ∷ deltas_from c (drop (i + 1) cells)
unfolding deltas_from
next cells before i c h is = ap (deltas_from before) (drop_here cells i c h is)

pub turns : (cells : List Point) (i : ℕ) (was differences : List Point) (before c d : Point) → i < length cells → c ≡ get_or cells i c
    → AllByRecursion IsPosition cells → SoFar cells i was before → d ≡ difference before c → differences ≡ was ++ d ∷ [] → SoFar cells (i + 1) differences c
turns cells i was differences before c d h is all so e pushed = grind (arith, all_at, append_assoc, next)

pub ends : (cells : List Point) (i : ℕ) (differences : List Point) (before : Point) → length cells ≤ i → SoFar cells i differences before → differences ≡ deltas cells
unfolding deltas_from
ends cells i differences before h so = grind (arith, append-nil differences, at_drop_all (deltas_from before) cells i h)

-- ---- back

abbrev point_of : ℤ → ℤ → Point
point_of x y = record { x = x; y = y }

there : (a b : ℤ) → a +ℤ (b -ℤ a) ≡ b
there a b = omega (arith, ints)

pub moved_there : (p c : Point) → moved p (difference p c) ≡ c
moved_there p c = ap (λ x. point_of x (p.y +ℤ (c.y -ℤ p.y))) (there p.x c.x) ∙ ap (point_of c.x) (there p.y c.y)

back_from : (p : Point) (cs : List Point) → sums_from p (deltas_from p cs) ≡ cs
unfolding sums_from deltas_from
back_from p [] = refl
back_from p (c ∷ cs) = ap (λ q. q ∷ sums_from q (deltas_from c cs)) (moved_there p c) ∙ ap (λ qs. c ∷ qs) (back_from c cs)

pub sums_of_deltas : SumsOfDeltas
sums_of_deltas cs = back_from origin cs

-- ---- rows

-- an arc of three cells
row_deltas : deltas (point_of (pos 0) (pos 0) ∷ (point_of (pos 1) (pos 3) ∷ (point_of (pos 3) (pos 0) ∷ [])))
    ≡ point_of (pos 0) (pos 0) ∷ (point_of (pos 1) (pos 3) ∷ (point_of (pos 2) (negsuc 2) ∷ []))
unfolding deltas_from
row_deltas = refl

-- a sum that is out of bounds
row_far : list_all (is_within grid_limit) (sums (point_of (pos 2147483648) (pos 0) ∷ (point_of (pos 1) (pos 0) ∷ []))) ≡ false
unfolding sums_from is_within
row_far = refl
