-- The cells and arcs that are written are read back.
use Rattle.std.proofs.Common.{◌≡◌, ℕ, ℤ, ◌≤◌, List, [], ◌∷◌, map, Option, None, Some, Ok, refl, arith, rules}
use Rattle.std.specs.Prelude.{unsigned_abs}
use Rattle.topojson_meaning.proofs.Names.{le-leb, ints, AllByRecursion, Point, IsWithin, IsPosition, position_limit, unit_places, scaled_of-units, units_text, array_of-array, object_of-object, number_of-number, Json, difference, deltas_from, grid_limit, place_on, origin, moved, IsPlace, IsArc, Transform, number_text, units, elements_position, position, grid_number, grid_cell, elements_cell, cell, difference_limit, cells_after, elements_place, place, arc_cells, arc, arc_list, elements, members, each}
use Rattle.json_value.specs.declared.json.Json.TheVariants as j
use Rattle.topojson_types.specs.Values.{Members, number_value, cell_places, cell_value, written_cells, arc_value, arcs_value}
use Rattle.topojson_types.proofs.Grids.{is_within-both}
use Rattle.topojson_types.proofs.SumsBack.{moved_there}
use Rattle.topojson_meaning.proofs.Steps.{Gives, then_gives, pure_gives, each_gives}

-- ---- kinds of values

pub array_elements : (vs : List Json) → elements (j.Array vs) ≡ Ok vs
unfolding elements
array_elements vs = rw (array_of-array vs) refl

pub object_members : (ms : Members) → members (j.Object ms) ≡ Ok ms
unfolding members
object_members ms = rw (object_of-object ms) refl

pub number_is_text : (t : List ℕ) → number_text (j.Number t) ≡ Ok t
unfolding number_text
number_is_text t = rw (number_of-number t) refl

-- the elements of a cell
abbrev pub numbers : Option Transform → Point → List Json
numbers transform p = map (number_value (cell_places transform)) (p.x ∷ (p.y ∷ []))

-- ---- positions

units_back : (u : ℤ) → unsigned_abs u ≤ position_limit → Gives (units (units_text u unit_places)) u
unfolding units
units_back u h c = let e = scaled_of-units u unit_places position_limit (omega arith) h in rw e refl

elements_position_back : (p : Point) → IsPosition p → Gives (elements_position (numbers None p)) p
unfolding elements_position
elements_position_back p h c = rw (number_is_text (units_text p.x unit_places), number_is_text (units_text p.y unit_places), units_back p.x h.0 c, units_back p.y h.1 c) refl

position_back : (p : Point) → IsPosition p → Gives (position (cell_value None p)) p
unfolding position
position_back p h = pure_gives _ elements_position _ p (array_elements (numbers None p)) (elements_position_back p h)

-- ---- cells of a grid

cell_stays : (t : Transform) (c : Point) → IsPlace (Some t) c → grid_cell t c ≡ Ok c
unfolding grid_cell
cell_stays t c h = rw (is_within-both grid_limit c h.0.0 h.0.1, is_within-both position_limit (place_on t c) h.1.0 h.1.1) refl

-- the cell that lies so far from the one before
elements_cell_back : (t : Transform) (bound : ℕ) (before c d : Point) → bound ≤ difference_limit → IsWithin bound d → moved before d ≡ c → IsPlace (Some t) c
    → Gives (elements_cell t bound before (numbers (Some t) d)) c
unfolding elements_cell grid_number
elements_cell_back t bound before c d small h is ok counts = grind (arith, number_is_text, scaled_of-units, cell_stays)

difference_back : (t : Transform) (before p : Point) → IsWithin grid_limit before → IsPlace (Some t) p → Gives (cell t difference_limit before (cell_value (Some t) (difference before p))) p
unfolding cell
difference_back t before p h k =
    let d : Point = difference before p in
    pure_gives _ (elements_cell t difference_limit before) _ p (array_elements (numbers (Some t) d))
    (elements_cell_back t difference_limit before p d (omega arith) (grind (arith, ints)) (moved_there before p) k)

-- cells as differences, the first one from this cell
after_back : (t : Transform) (before : Point) (cs : List Point) → IsWithin grid_limit before → AllByRecursion (IsPlace (Some t)) cs
    → Gives (cells_after t before (map (cell_value (Some t)) (deltas_from before cs))) cs
unfolding cells_after deltas_from
after_back t before [] h all counts = refl
after_back t before (c ∷ cs) h all counts = rw (difference_back t before c h all.0 counts, after_back t c cs all.0.0 all.1 counts) refl

-- ---- places

pub elements_place_back : (transform : Option Transform) (p : Point) → IsPlace transform p → Gives (elements_place transform (numbers transform p)) p
unfolding elements_place
elements_place_back None p h = elements_position_back p h
elements_place_back (Some t) p h = elements_cell_back t grid_limit origin p p (omega arith) h.0 (grind (arith, ints)) h

place_back : (transform : Option Transform) (p : Point) → IsPlace transform p → Gives (place transform (cell_value transform p)) p
unfolding place
place_back transform p h = pure_gives _ (elements_place transform) _ p (array_elements (numbers transform p)) (elements_place_back transform p h)

pub each_place_back : (transform : Option Transform) (ps : List Point) → AllByRecursion (IsPlace transform) ps → Gives (each (place transform) (map (cell_value transform) ps)) ps
each_place_back transform = each_gives (IsPlace transform) (cell_value transform) (place transform) (place_back transform)

-- ---- arcs

arc_cells_back : (transform : Option Transform) (cs : List Point) → AllByRecursion (IsPlace transform) cs
    → Gives (arc_cells transform (map (cell_value transform) (written_cells transform cs))) cs
unfolding arc_cells
arc_cells_back None cs h = each_gives IsPosition (cell_value None) position position_back cs h
arc_cells_back (Some t) cs h = after_back t origin cs (omega arith, omega arith) h

pub arc_back : (transform : Option Transform) (cs : List Point) → IsArc transform cs → Gives (arc transform (arc_value transform cs)) cs
unfolding arc
arc_back transform cs h = search (rules, pure_gives, array_elements, then_gives, arc_cells_back, le-leb)

pub arcs_back : (transform : Option Transform) (arcs : List (List Point)) → AllByRecursion (IsArc transform) arcs → Gives (arc_list transform (arcs_value transform arcs)) arcs
unfolding arc_list
arcs_back transform arcs h = grind (arith, pure_gives, array_elements, each_gives, arc_back)
