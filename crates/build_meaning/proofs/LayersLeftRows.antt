-- Worked rows of what is dropped of layers in which of each feature the ring that encloses most is protected, where small rings go first, computed from
-- the definitions. The fold of a shape is opened by its kind.
use Rattle.std.proofs.Common.{◌≡◌, ◌==◌, ℕ, ℤ, Bool, true, false, cond, List, [], ◌∷◌, ◌++◌, map, Option, None, Some, refl, ap, ◌∙◌}
use Rattle.build_meaning.proofs.Names.{at_kinds, cleaned, list_any, kept_refs, objects_by, lines_and_rings-areas, prune-areas, drop_causes-areas, cross, twice_area, shoelace, number_of, or_empty, first_of, tail, area_drop_causes, drop_causes, dropped_of_layers, map_some, Placed, of_parts, Point, same, Cause, Collapsed, Small, Outer, Shape, Stroke, linework, Contents, is_before, reduced, all_arcs, untrimmed, is_used, marked, greatest_ring, Named, layers_of, left_indexes, retained_arcs, greatest_of_layers, unprotected_cause, all_indexes, drops_in_turn, first_whole, indexes_from_first, judged, layers_dropped_in_turn, left_at_first, paired, paired_step, rings_paired, spread}
use Rattle.geometry.specs.declared.address.Dropped.{Dropped}
use Rattle.build_meaning.proofs.Assembled.{contents}
use Rattle.build_meaning.proofs.LeftRows.{layer}
use Rattle.build_meaning.proofs.Marks.{outer_rings_at, marked-areas, left-areas}
use Rattle.build_meaning.proofs.ProtectedRows.{feature, keeping_shapes, polygons, ring, ring_at, rings_of_polygons, triangle}
use Rattle.build_meaning.proofs.SimplifiedRows.{at}
use Rattle.geometry.specs.declared.shape.Geometry.TheVariants as g

-- ---- three polygons: the outer ring of the first is one position, and it has a hole; the third is greater than the second

abbrev point : List Point
point = at 9 9 ∷ (at 9 9 ∷ (at 9 9 ∷ (at 9 9 ∷ [])))

abbrev hole : List Point
hole = triangle 50 50 4

abbrev areas : List (List (List Point))
areas = (point ∷ (hole ∷ [])) ∷ ((triangle 20 20 1 ∷ []) ∷ ((triangle 10 10 2 ∷ []) ∷ []))

abbrev islands : Shape
islands = g.Areas areas

abbrev layers : Named
layers = ((97 ∷ []), record { features = record { id = None; properties = None; shape = Some islands } ∷ [] }) ∷ []

abbrev lines : List Stroke
lines = cleaned true hole ∷ (cleaned true (triangle 20 20 1) ∷ (cleaned true (triangle 10 10 2) ∷ []))

lines_are : linework (layers_of layers) ≡ lines
unfolding linework same
lines_are = simp (lines_and_rings-areas)

-- the third is protected, at its place in the layer
third_protected : greatest_of_layers layers islands ≡ Some (record { path = 2 ∷ []; part = triangle 10 10 2 })
unfolding greatest_of_layers same shoelace
third_protected = simp (lines_are, (outer_rings_at Point (List Point)).areas)

-- ---- what is built of them at zero has the second and the third, and the hole's arc, which no line uses

abbrev at_zero : Contents
at_zero = contents (layer (feature (polygons 1 2) ∷ [])) (hole ∷ (triangle 20 20 1 ∷ (triangle 10 10 2 ∷ [])))

objects_at_zero : objects_by (kept_refs lines 0 0) layers ≡ at_zero.objects
unfolding same reduced is_before twice_area cross shoelace
objects_at_zero = ap (λ s. layer (record { id = None; properties = None; shape = s } ∷ [])) (prune-areas (λ (p : Point). p) (kept_refs lines 0 0) areas)

arcs_at_zero : map (reduced 0) (all_arcs lines) ≡ at_zero.arcs
unfolding same reduced is_before twice_area cross
arcs_at_zero = refl

built_at_zero : untrimmed 0 0 layers ≡ at_zero
built_at_zero =
    ap (λ ss. contents (objects_by (kept_refs ss 0 0) layers) (map (reduced 0) (all_arcs ss))) lines_are
    ∙ ap (λ os. contents os (map (reduced 0) (all_arcs lines))) objects_at_zero ∙ ap (contents at_zero.objects) arcs_at_zero

third_stays : greatest_ring at_zero.arcs (polygons 1 2) ≡ Some (ring_at (1 ∷ []) 2)
unfolding greatest_ring same shoelace
third_stays = simp (rings_of_polygons)

second_goes : (first_whole keeping_shapes 10 at_zero).objects ≡ layer (feature (g.Areas ((ring 2 ∷ []) ∷ [])) ∷ [])
unfolding same shoelace
second_goes = simp (third_stays, left-areas)

hole_unused : is_used (first_whole keeping_shapes 10 at_zero).objects 0 ≡ false
unfolding number_of
hole_unused =
    ap (λ os. is_used os 0) second_goes
    ∙ ap (λ l. list_any (λ b. list_any (λ r. number_of r == 0) b.1) ((l ++ []) ++ [])) (lines_and_rings-areas Point (List ℤ) ((ring 2 ∷ []) ∷ []))

-- so the hole's arc stays whole at any threshold
module _ (t : ℕ) where
  abbrev kept : List (List ℕ)
  kept = left_indexes keeping_shapes t (left_at_first keeping_shapes 10 at_zero)

  abbrev passes : ℕ → Bool
  passes = is_used (first_whole keeping_shapes 10 at_zero).objects

  abbrev rest : List (List Point)
  rest = triangle 20 20 1 ∷ (triangle 10 10 2 ∷ [])

  abbrev others : List (List Point)
  others = retained_arcs (spread passes 1 kept rest) rest

  hole_stays : retained_arcs (indexes_from_first keeping_shapes t 10 at_zero) at_zero.arcs ≡ hole ∷ others
  hole_stays = ap (λ b. retained_arcs (cond b (or_empty (first_of kept) ∷ spread passes 1 (tail kept) rest) (all_indexes hole ∷ spread passes 1 kept rest)) (hole ∷ rest)) hole_unused

-- ---- what is dropped: the limit is over twice the area of the second and of the third, but not of the hole

paired-areas : {P L : Type 0} (areas : List (List L)) → paired {P = P} (g.Areas areas) ≡ g.Areas (map rings_paired areas)
unfolding paired
paired-areas areas = (at_kinds paired_step).areas areas

abbrev marked_areas : List (List (Bool × List Point))
marked_areas = ((false, point) ∷ ((false, hole) ∷ [])) ∷ (((false, triangle 20 20 1) ∷ []) ∷ (((true, triangle 10 10 2) ∷ []) ∷ []))

islands_marked : marked {P = Point} islands (Some (2 ∷ [])) ≡ g.Areas marked_areas
islands_marked = marked-areas areas (Some (2 ∷ []))

abbrev why : List Stroke → List (List Point) → Bool → Bool × List Point → Option Cause
why ss arcs = unprotected_cause ss arcs 10

abbrev of_feature : List (Placed Cause) → List Dropped
of_feature drops = dropped_of_layers 0 ((drops ∷ []) ∷ [])

abbrev drop : List ℕ → Cause → Dropped
drop path cause = record { address = record { layer = 0; feature = 0; path = path }; cause = cause }

-- where the lines are these, and so are the arcs that are left
abbrev of_areas : List Stroke → List (List Point) → List Dropped
of_areas ss later = of_feature (of_parts 0 (map (area_drop_causes (judged (why ss (all_arcs ss)) (why ss later) true)) (map rings_paired marked_areas)))

row_dropped : (t : ℕ) → layers_dropped_in_turn keeping_shapes t 10 layers ≡ drop (0 ∷ (0 ∷ [])) Collapsed ∷ (drop (0 ∷ (1 ∷ [])) Outer ∷ (drop (1 ∷ (0 ∷ [])) Small ∷ []))
unfolding layers_dropped_in_turn
row_dropped t =
    let ss : List Stroke = linework (layers_of layers) in
    let left : Contents → List (List Point) = λ y. retained_arcs (indexes_from_first keeping_shapes t 10 y) y.arcs in
    let first = why ss (all_arcs ss) in
    let later = why ss (left (untrimmed 0 0 layers)) in
    ap (λ o. of_feature (drops_in_turn first later (marked islands (map_some (λ x. x.path) o)))) third_protected
    ∙ ap (λ s. of_feature (drops_in_turn first later s)) islands_marked
    ∙ ap (λ s. of_feature (drop_causes (judged first later) s)) (paired-areas {P = Point} marked_areas)
    ∙ ap of_feature (drop_causes-areas Point (Option (Bool × List Point) × (Bool × List Point)) (judged first later) (map rings_paired marked_areas))
    ∙ ap (λ y. of_areas ss (left y)) built_at_zero
    ∙ ap (of_areas ss) (hole_stays t)
    ∙ ap (λ ss. of_areas ss (hole ∷ others t)) lines_are
    ∙ (unfold same shoelace in refl)
