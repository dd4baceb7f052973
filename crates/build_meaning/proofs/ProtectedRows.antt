-- Worked rows of topologies in which rings are protected, in whole units, computed from the definitions. The fold of a shape is opened by
-- its kind.
use Rattle.std.proofs.Common.{◌≡◌, ℕ, ◌+◌, ℤ, pos, negsuc, true, false, List, [], ◌∷◌, None, Some, refl, ap, ◌∙◌}
use Rattle.build_meaning.proofs.Names.{drop_causes-area, drop_causes-areas, cross, twice_area, shoelace, number_of, Placed, Point, same, Small, TopoShape, Contents, TopoFeature, reduce_arcs, goes_before, keeps_rings, guarded_by, outer_rings, marked, greatest_ring, protected_rings, sparing, objects_spared, spared_dropped, large_refs, Guards, left_indexes, left_of}
use Rattle.build_meaning.proofs.Assembled.{contents}
use Rattle.build_meaning.proofs.LeftRows.{layer}
use Rattle.build_meaning.proofs.Marks.{outer_rings_at, marked-line, marked-area, marked-areas, marked-group, left-area, left-areas}
use Rattle.build_meaning.proofs.SimplifiedRows.{at}
use Rattle.geometry.specs.declared.shape.Geometry.TheVariants as g

-- a triangle with legs of this length
abbrev pub triangle : ℕ → ℕ → ℕ → List Point
triangle x y side = at x y ∷ (at (x + side) y ∷ (at x (y + side) ∷ (at x y ∷ [])))

abbrev pub feature : TopoShape → TopoFeature
feature s = record { id = None; properties = None; shape = Some s }

-- where shapes stay
abbrev pub keeping_shapes : Guards
keeping_shapes = record { no_crossings = false; keep_shapes = true }

abbrev pub ring : ℕ → List ℤ
ring k = pos k ∷ []

abbrev polygon : ℕ → TopoShape
polygon k = g.Area (ring k ∷ [])

abbrev pub polygons : ℕ → ℕ → TopoShape
polygons k l = g.Areas ((ring k ∷ []) ∷ ((ring l ∷ []) ∷ []))

abbrev pub ring_at : List ℕ → ℕ → Placed (List ℤ)
ring_at way k = record { path = way; part = ring k }

-- ---- a polygon keeps its ring, and of two polygons the greater one stays, which is the second

abbrev islands : Contents
islands = contents (layer (feature (polygon 0) ∷ (feature (polygons 1 2) ∷ []))) (triangle 0 0 1 ∷ (triangle 20 20 1 ∷ (triangle 10 10 2 ∷ [])))

rings_of_polygon : (k : ℕ) → outer_rings (polygon k) ≡ ring_at [] k ∷ []
rings_of_polygon k = (outer_rings_at Point (List ℤ)).area (ring k ∷ [])

pub rings_of_polygons : (k l : ℕ) → outer_rings (polygons k l) ≡ ring_at (0 ∷ []) k ∷ (ring_at (1 ∷ []) l ∷ [])
rings_of_polygons k l = (outer_rings_at Point (List ℤ)).areas ((ring k ∷ []) ∷ ((ring l ∷ []) ∷ []))

first_island : greatest_ring islands.arcs (polygon 0) ≡ Some (ring_at [] 0)
unfolding greatest_ring same shoelace
first_island = simp (rings_of_polygon)

greater_island : greatest_ring islands.arcs (polygons 1 2) ≡ Some (ring_at (1 ∷ []) 2)
unfolding greatest_ring same shoelace
greater_island = simp (rings_of_polygons)

island_rings : protected_rings (greatest_ring islands.arcs) islands.objects ≡ ring 0 ∷ (ring 2 ∷ [])
island_rings = simp (first_island, greater_island)

island_indexes : left_indexes keeping_shapes 200 islands ≡ (0 ∷ (1 ∷ (2 ∷ (3 ∷ [])))) ∷ ((0 ∷ (3 ∷ [])) ∷ ((0 ∷ (1 ∷ (2 ∷ (3 ∷ [])))) ∷ []))
island_indexes = ap (λ rings. reduce_arcs (guarded_by false rings) 200 islands.arcs) island_rings ∙ (unfold reduce_arcs keeps_rings goes_before twice_area cross same number_of in refl)

abbrev islands_left : List (List Point)
islands_left = triangle 0 0 1 ∷ ((at 20 20 ∷ (at 20 20 ∷ [])) ∷ (triangle 10 10 2 ∷ []))

-- the lesser island is small, and dropped
islands_dropped : (left_of keeping_shapes 200 0 islands).dropped
    ≡ record { address = record { layer = 0; feature = 1; path = 0 ∷ (0 ∷ []) }; cause = Small } ∷ []
unfolding left_of
islands_dropped = ap (λ kept. spared_dropped (greatest_ring islands.arcs) kept 0 islands) island_indexes ∙ (unfold spared_dropped same shoelace in simp (first_island, greater_island, marked-area, marked-areas, drop_causes-area, drop_causes-areas))

islands_spared : objects_spared (greatest_ring islands.arcs) (sparing (large_refs 0 islands_left)) islands.objects ≡ layer (feature (polygon 0) ∷ (feature (g.Areas ((ring 2 ∷ []) ∷ [])) ∷ []))
unfolding same shoelace
islands_spared = simp (first_island, greater_island, left-area, left-areas)

-- ---- of two squares with a common border each keeps four positions; of equal corners the least position goes first

abbrev squares : Contents
squares =
    contents (layer (feature (g.Area ((pos 0 ∷ (pos 1 ∷ [])) ∷ [])) ∷ (feature (g.Area ((pos 2 ∷ (negsuc 0 ∷ [])) ∷ [])) ∷ [])))
    ((at 1 0 ∷ (at 1 1 ∷ [])) ∷ ((at 1 1 ∷ (at 0 1 ∷ (at 0 0 ∷ (at 1 0 ∷ [])))) ∷ ((at 1 0 ∷ (at 2 0 ∷ (at 2 1 ∷ (at 1 1 ∷ [])))) ∷ [])))

square_rings : protected_rings (greatest_ring squares.arcs) squares.objects ≡ (pos 0 ∷ (pos 1 ∷ [])) ∷ ((pos 2 ∷ (negsuc 0 ∷ [])) ∷ [])
unfolding greatest_ring same shoelace
square_rings = simp ((outer_rings_at Point (List ℤ)).area)

square_indexes : left_indexes keeping_shapes 200 squares ≡ (0 ∷ (1 ∷ [])) ∷ ((0 ∷ (1 ∷ (3 ∷ []))) ∷ ((0 ∷ (2 ∷ (3 ∷ []))) ∷ []))
square_indexes = ap (λ rings. reduce_arcs (guarded_by false rings) 200 squares.arcs) square_rings ∙ (unfold reduce_arcs keeps_rings goes_before twice_area cross same number_of in refl)

-- ---- a ring under the limit stays where it is protected, but for a second polygon with the same ring, which is dropped

abbrev doubled : Contents
doubled = contents (layer (feature (polygons 0 0) ∷ [])) (triangle 0 0 1 ∷ [])

first_of_two : greatest_ring doubled.arcs (polygons 0 0) ≡ Some (ring_at (0 ∷ []) 0)
unfolding greatest_ring same shoelace
first_of_two = simp (rings_of_polygons)

doubled_spared : objects_spared (greatest_ring doubled.arcs) (sparing (large_refs 10 doubled.arcs)) doubled.objects ≡ layer (feature (g.Areas ((ring 0 ∷ []) ∷ [])) ∷ [])
unfolding same shoelace
doubled_spared = simp (first_of_two, left-areas)

-- ---- a ring that one feature has alone and another beside a greater one stays in the first, and is dropped from the second

abbrev common : Contents
common = contents (layer (feature (polygon 0) ∷ (feature (polygons 0 1) ∷ []))) (triangle 0 0 1 ∷ (triangle 5 0 4 ∷ []))

alone_protected : greatest_ring common.arcs (polygon 0) ≡ Some (ring_at [] 0)
unfolding greatest_ring same shoelace
alone_protected = simp (rings_of_polygon)

beside_protected : greatest_ring common.arcs (polygons 0 1) ≡ Some (ring_at (1 ∷ []) 1)
unfolding greatest_ring same shoelace
beside_protected = simp (rings_of_polygons)

common_dropped : spared_dropped (greatest_ring common.arcs) ((0 ∷ (1 ∷ (2 ∷ (3 ∷ [])))) ∷ ((0 ∷ (1 ∷ (2 ∷ (3 ∷ [])))) ∷ [])) 10 common
    ≡ record { address = record { layer = 0; feature = 1; path = 0 ∷ (0 ∷ []) }; cause = Small } ∷ []
unfolding spared_dropped same shoelace
common_dropped = simp (alone_protected, beside_protected, marked-area, marked-areas, drop_causes-area, drop_causes-areas)

-- ---- in a collection the way leads through its members, and a line has no part in it

abbrev collected : TopoShape
collected = g.Group (g.Line (ring 0) ∷ (polygons 0 1 ∷ []))

way_in_collection : greatest_ring common.arcs collected ≡ Some (ring_at (1 ∷ (1 ∷ [])) 1)
unfolding greatest_ring same shoelace
way_in_collection = simp ((outer_rings_at Point (List ℤ)).group, (outer_rings_at Point (List ℤ)).line, rings_of_polygons)

marked_in_collection : marked {P = Point} collected (Some (1 ∷ (1 ∷ []))) ≡ g.Group (g.Line (false, ring 0) ∷ (g.Areas (((false, ring 0) ∷ []) ∷ (((true, ring 1) ∷ []) ∷ [])) ∷ []))
marked_in_collection = simp (marked-group, marked-line, marked-areas)

-- ---- a ring of three positions isn't protected, whatever stands beside it

too_short : greatest_ring ((at 0 0 ∷ (at 5 5 ∷ (at 0 0 ∷ []))) ∷ []) (polygon 0) ≡ None
unfolding greatest_ring same shoelace
too_short = simp (rings_of_polygon)
