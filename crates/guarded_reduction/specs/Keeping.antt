-- Rings that stay while corners go.
use Rattle.std.specs.Prelude.{◌≡◌, ◌⊎◌, ℕ, ℤ, true, false, Bool, List, length, map}
use Rattle.std.specs.List.{AllByRecursion}
use Rattle.geometry.specs.Joins.{Meet, arc_at}
use Rattle.geometry.specs.Points.{Point}
use Rattle.guarded_meaning.specs.Arcs.{ArcCorner, points_of}
use Rattle.guarded_meaning.specs.Guards.{keeps_rings}
use Rattle.guarded_reduction.specs.Linking.{Linked, is_fixed}
use Rattle.guarded_reduction.specs.Moves.{Counted, IsCounted}
use Rattle.guarded_reduction.specs.Numbers.{HasPlace, left_arcs, number}

-- whether the rings stay when the corner at the place goes
abbrev pub IsKept : List (List Point) → List (List ℤ) → List Bool → ℕ → Bool → Type 0
IsKept arcs rings left v b = (d : ArcCorner) → HasPlace arcs d.arc d.corner.index → number arcs d.arc d.corner.index ≡ v → keeps_rings rings (left_arcs arcs left) d ≡ b

-- not all of them stay when a place goes that stays for good
abbrev pub FixedCannotGo : List (List Point) → List (List ℤ) → Linked → Type 0
FixedCannotGo arcs rings s = (v : ℕ) → is_fixed s v ≡ true → IsKept arcs rings s.left v false

-- the arcs of each ring meet
abbrev pub AllMeet : List (List ℤ) → List (List Point) → Type 0
AllMeet rings arcs = AllByRecursion (λ refs. Meet (map (arc_at arcs) refs)) rings

-- these rings are counted over what is left of these arcs
pub record IsKeeping (arcs : List (List Point)) (rings : List (List ℤ)) (s : Linked) (g : Counted) : Type 0 where
  pub rings_are : g.rings ≡ rings
  pub counted : (length rings ≡ 0) ⊎ IsCounted arcs (points_of (left_arcs arcs s.left)) g
  pub meet : AllMeet rings (points_of (left_arcs arcs s.left))
  pub fixed : FixedCannotGo arcs rings s
