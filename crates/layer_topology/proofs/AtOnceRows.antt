-- Shares of arcs that are reduced at once: that they stay, and worked rows in whole units.
use Rattle.std.proofs.Common.{◌≡◌, ℕ, ◌^◌, ◌-◌, leb, pos, negsuc, true, false, cond, List, [], ◌∷◌, Some, refl, subst, sym}
use Rattle.std.specs.Prelude.{◌&&◌}
use Rattle.std.proofs.lemmas.Bool.{and_parts, leb-true}
use Rattle.geometry.specs.Areas.{cross, twice_area}
use Rattle.geometry.specs.Points.{Point}
use Rattle.geometry.specs.Rings.{same}
use Rattle.guarded_meaning.specs.Elimination.{goes_before, reduced_arcs}
use Rattle.guarded_meaning.specs.Guards.{guarded_by, is_free, keeps_rings}
use Rattle.guarded_meaning.specs.Laws as guarded
use Rattle.guarded_meaning.specs.Segments.{is_on, same_ends}
use Rattle.guarded_meaning.specs.Shares.{share}
use Rattle.guarded_meaning.specs.Triangles.{in_triangle}
use Rattle.layer_topology.specs.GuardLaws.{ShareStays}
use Rattle.layer_topology.specs.Levels.{chosen_for, threshold_at, threshold_by, KeepsShare}
use Rattle.layer_topology.specs.declared.level.Level.TheVariants.{Fixed, Share}
use Rattle.build_meaning.specs.ArcPositions.{arc_positions}
use Rattle.build_meaning.specs.Left.{guard_of}

pub share_stays : guarded.ShareStays → ShareStays
share_stays stays guards (Fixed t) y h e = tt
share_stays stays guards (Share p q) y h e =
    let guard = guard_of guards y in
    let arcs = arc_positions y in
    subst (λ b. KeepsShare (Share p q) arcs (reduced_arcs guard (cond b (threshold_by guard (Share p q) arcs) (threshold_at (Share p q) arcs)) arcs)) (sym e)
    (stays p q guard arcs (leb-true p q (and_parts (leb q (10 ^ 9)) (leb p q) (and_parts (leb 1 q) (leb q (10 ^ 9) && leb p q) h).1).1))

-- ---- rows

abbrev at : ℕ → ℕ → Point
at x y = record { x = pos x; y = pos y }

-- as far under zero as the second number says, which is over zero
abbrev below : ℕ → ℕ → Point
below x y = record { x = pos x; y = negsuc (y - 1) }

-- (0,3) is held by (2,2), so (4,0) goes first, with 8; then (0,3) goes, with 0, and has the greatest area so far
abbrev hooked : List (List Point)
hooked = (at 0 4 ∷ (at 0 3 ∷ (at 4 0 ∷ (at 0 1 ∷ [])))) ∷ ((at 2 3 ∷ (at 2 2 ∷ [])) ∷ [])

hooked_half : threshold_by (guarded_by true []) (Share 1 2) hooked ≡ 8
hooked_half = unfold share keeps_rings goes_before twice_area is_free in_triangle same_ends is_on same cross in refl

hooked_whole : chosen_for (Share 1 1) (threshold_by (guarded_by true []) (Share 1 1) hooked) ≡ Some 8
hooked_whole = unfold share keeps_rings goes_before twice_area is_free in_triangle same_ends is_on same cross in refl

-- a given threshold is that one, and none is chosen
hooked_given : threshold_by (guarded_by true []) (Fixed 5) hooked ≡ 5
hooked_given = refl

-- without the guard (0,3) goes first, with 4, then (4,0), with 12
hooked_crossing : threshold_by (guarded_by false []) (Share 1 2) hooked ≡ 12
hooked_crossing = unfold share keeps_rings goes_before twice_area cross in refl

-- the roof's top, with 8, is held by the tower's, with 20, which goes first
abbrev roof_and_tower : List (List Point)
roof_and_tower = (at 0 0 ∷ (at 2 2 ∷ (at 4 0 ∷ []))) ∷ ((below 0 4 ∷ (at 2 1 ∷ (below 4 4 ∷ []))) ∷ [])

roof_and_tower_whole : threshold_by (guarded_by true []) (Share 1 1) roof_and_tower ≡ 20
roof_and_tower_whole = unfold share keeps_rings goes_before twice_area is_free in_triangle same_ends is_on same cross in refl

-- without the guard the roof's top goes at once
roof_and_tower_crossing : threshold_by (guarded_by false []) (Share 1 1) roof_and_tower ≡ 8
roof_and_tower_crossing = unfold share keeps_rings goes_before twice_area cross in refl

-- what never goes stays at any threshold, and has no weight: the top over a line's end
abbrev held_roof : List (List Point)
held_roof = (at 0 0 ∷ (at 2 2 ∷ (at 4 0 ∷ []))) ∷ ((at 2 1 ∷ (below 2 5 ∷ [])) ∷ [])

held_roof_none : threshold_by (guarded_by true []) (Share 0 1) held_roof ≡ 0
held_roof_none = unfold share keeps_rings goes_before twice_area is_free in_triangle same_ends is_on same cross in refl
