-- Worked rows of the definition: small values and the topologies or faults that they are.
use Rattle.std.proofs.Common.{◌≡◌, ℕ, false, List, [], ◌∷◌, map, Option, Some, None, Result, Ok, Err, refl}
use Rattle.std.specs.Prelude.{ℤ, codes, ◌*◌, ◌-◌, ◌^◌, pos, negsuc}
use Rattle.topojson_meaning.proofs.Names.{Point, same, scaled_of, array_of, object_of, text_of, number_of, Json, no_counts, Counts, Contents, TopoObject, One, transform_value, to_units, stands_for, place_on, is_within, Transform, number_text, units, elements_position, position, grid_number, grid_cell, elements_cell, cell, cells_after, elements_place, place, arc_cells, arc, arc_list, feature, geometry_type, type_of, object_type, some_elements, index, indexes_after, indexes, line_in, ring_in, ring, polygon_in, Members, named, need, members, elements, single, object, objects_after, objects, gather, arcs_in, arcs_shape, part, typed_shape, contents, value_contents, topology, texts, transform_number, transform_pair, transform_members, transform_if, TopoFault, NotTopology, Missing, Duplicate, WrongKind, UnknownType, ShortArc, IndexRange, Unjoined, OpenRing, GridNumber, Range}
use Rattle.json_value.specs.declared.json.Json.TheVariants as j
use Rattle.geometry.specs.declared.shape.Geometry.TheVariants as g
use Rattle.topojson_types.specs.Decoding.{decoded_line}
use Rattle.geometry.specs.Joins as joins

-- ---- values

abbrev typed : List ℕ → Members → Json
typed name ms = j.Object ((codes "type", j.Text name) ∷ ms)

-- an array of two numbers
abbrev pair : List ℕ → List ℕ → Json
pair x y = j.Array (j.Number x ∷ (j.Number y ∷ []))

-- an array of one array
abbrev nested : List Json → Json
nested vs = j.Array (j.Array vs ∷ [])

-- a topology with these objects and arcs
abbrev topology_of : Members → Json → Json
topology_of os arcs = typed (codes "Topology") ((codes "objects", j.Object os) ∷ ((codes "arcs", arcs) ∷ []))

abbrev null_object : List ℕ × Json
null_object = (codes "a", j.Object ((codes "type", j.Null) ∷ []))

-- ---- faults of the members and of arcs

abbrev faults : List (Json × TopoFault)
faults =
    (j.Array [], NotTopology)
    ∷ (typed (codes "FeatureCollection") ((codes "features", j.Array []) ∷ []), NotTopology)
    ∷ (typed (codes "Topology") ((codes "objects", j.Object []) ∷ []), Missing)
    -- the transform is looked at before the arcs, which are absent here
    ∷ (typed (codes "Topology") ((codes "transform", j.Array []) ∷ []), WrongKind)
    ∷ (topology_of (null_object ∷ null_object ∷ []) (j.Array []), Duplicate)
    -- an arc of one position, and one that goes too far
    ∷ (topology_of [] (nested (pair (codes "0") (codes "0") ∷ [])), ShortArc)
    ∷ (topology_of [] (nested (pair (codes "0") (codes "0") ∷ pair (codes "400000000") (codes "0") ∷ [])), Range)
    -- both numbers of a position are looked at before either is taken in units
    ∷ (topology_of [] (nested (j.Array (j.Number (codes "1e99") ∷ j.Text (codes "y") ∷ []) ∷ [])), WrongKind)
    ∷ []

row_faults : map (λ r. topology r.0) faults ≡ map (λ r. Err r.1) faults
unfolding topology value_contents contents transform_if object_of text_of need named arc_list arc arc_cells position elements_position units number_text number_of scaled_of elements array_of gather objects objects_after members object object_type type_of single feature typed_shape
row_faults = simp (j.outs-Object, j.outs-Text, j.outs-Array, j.outs-Number, j.outs-Null)

-- ---- objects over the arcs [[[0,0],[1,0]],[[2,0],[3,0]]]

abbrev at : ℤ → ℤ → Point
at x y = record { x = x; y = y }

abbrev at_x : ℕ → Point
at_x x = at (pos x) (pos 0)

abbrev two_arcs : List (List Point)
two_arcs = (at_x 0 ∷ (at_x 1000000000 ∷ [])) ∷ ((at_x 2000000000 ∷ (at_x 3000000000 ∷ [])) ∷ [])

abbrev two_arcs_json : Json
two_arcs_json = j.Array (j.Array (pair (codes "0") (codes "0") ∷ (pair (codes "1") (codes "0") ∷ [])) ∷ (j.Array (pair (codes "2") (codes "0") ∷ (pair (codes "3") (codes "0") ∷ [])) ∷ []))

two_arcs_read : (c : Counts) → arc_list None two_arcs_json c ≡ Ok (two_arcs, c)
unfolding arc_list arc arc_cells position elements_position units number_text number_of scaled_of elements array_of gather
two_arcs_read c = simp (j.outs-Array, j.outs-Number)

-- the topology of one object, and of one with neither identifier nor properties
abbrev with_object : Json → Json
with_object x = topology_of ((codes "a", x) ∷ []) two_arcs_json

abbrev line_string : List Json → Json
line_string vs = with_object (typed (codes "LineString") ((codes "arcs", j.Array vs) ∷ []))

abbrev Read : Type 0
Read = Result (Contents × Counts) TopoFault

abbrev taken : TopoObject → ℕ → Read
taken o empty = Ok (record { objects = (codes "a", o) ∷ []; arcs = two_arcs; transform = None }, record { rounded = 0; extra = 0; empty = empty })

-- an arc that doesn't meet the one before is reported before the next element is looked at
abbrev objects_read : List (Json × Read)
objects_read =
    (with_object (typed (codes "Curve") []), Err UnknownType)
    ∷ (line_string (j.Number (codes "0.5") ∷ []), Err WrongKind)
    ∷ (line_string (j.Number (codes "2") ∷ []), Err IndexRange)
    ∷ (line_string (j.Number (codes "-3") ∷ []), Err IndexRange)
    ∷ (line_string (j.Number (codes "9223372036854775807") ∷ []), Err IndexRange)
    ∷ (line_string (j.Number (codes "-9223372036854775808") ∷ []), Err IndexRange)
    ∷ (line_string (j.Number (codes "1e30") ∷ []), Err IndexRange)
    ∷ (line_string (j.Number (codes "9223372036854775807.5") ∷ []), Err IndexRange)
    ∷ (line_string (j.Number (codes "0") ∷ j.Number (codes "1") ∷ []), Err Unjoined)
    ∷ (line_string (j.Number (codes "0") ∷ j.Number (codes "1") ∷ j.Text (codes "x") ∷ []), Err Unjoined)
    ∷ (line_string (j.Number (codes "0") ∷ j.Text (codes "x") ∷ j.Number (codes "1") ∷ []), Err WrongKind)
    ∷ (with_object (typed (codes "Polygon") ((codes "arcs", nested (j.Number (codes "0") ∷ [])) ∷ [])), Err OpenRing)
    ∷ (line_string [], taken (One (record { id = None; properties = None; shape = None })) 1)
    ∷ (line_string (j.Number (codes "-2") ∷ []), taken (One (record { id = None; properties = None; shape = Some (g.Line (negsuc 1 ∷ [])) })) 0)
    ∷ []

row_objects : map (λ r. topology r.0) objects_read ≡ map (λ r. r.1) objects_read
unfolding topology value_contents contents transform_if object_of text_of need named objects objects_after members object object_type type_of geometry_type single feature typed_shape part arcs_shape some_elements array_of arcs_in line_in polygon_in ring ring_in indexes indexes_after index number_text number_of scaled_of joins.number_of same
row_objects = simp (j.outs-Object, j.outs-Text, j.outs-Array, j.outs-Number, two_arcs_read no_counts)

-- the last of them decodes to [[3,0],[2,0]]
decoded_reversed : decoded_line two_arcs false (negsuc 1 ∷ []) ≡ at_x 3000000000 ∷ (at_x 2000000000 ∷ [])
decoded_reversed = refl

-- ---- transforms

row_values : map transform_value (codes "0.1" ∷ codes "300000000" ∷ codes "300000001" ∷ []) ≡ Some (pos (10 ^ 19)) ∷ Some (pos (3 * 10 ^ 28)) ∷ None ∷ []
unfolding transform_value scaled_of
row_values = refl

-- this scale, and a translate of zeros
abbrev scale_json : List ℕ → List ℕ → Json
scale_json x y = j.Object ((codes "scale", pair x y) ∷ ((codes "translate", pair (codes "0") (codes "0")) ∷ []))

abbrev scaling : List ℕ → List ℕ → Transform
scaling x y = record { scale = (x, y); translate = (codes "0", codes "0") }

abbrev third : List ℕ
third = codes "0.333333334"

-- one arc of two cells whose y is 0
abbrev along : List ℕ → List ℕ → Json
along x y = nested (pair x (codes "0") ∷ pair y (codes "0") ∷ [])

-- the greatest cell of the grid and then the least
abbrev widest : List Point
widest = at (pos (2 ^ 31)) (pos 0) ∷ (at (negsuc (2 ^ 31 - 1)) (pos 0) ∷ [])

abbrev line_cells : List Point
line_cells = at (pos 0) (pos 0) ∷ (at (pos 1) (pos 3) ∷ (at (pos 3) (pos 0) ∷ []))

-- `transform` and `arcs` of a topology without objects, and what they are, or the fault
abbrev transforms : List ((Json × Json) × Result (Option Transform × List (List Point)) TopoFault)
transforms =
    ((j.Null, j.Array []), Ok (None, []))
    ∷ ((scale_json (codes "1") (codes "1"), j.Array []), Ok (Some (scaling (codes "1") (codes "1")), []))
    ∷ ((scale_json (codes "0.1") (codes "0.1"), j.Array []), Ok (Some (scaling (codes "0.1") (codes "0.1")), []))
    ∷ ((scale_json (codes "300000000") (codes "1"), j.Array []), Ok (Some (scaling (codes "300000000") (codes "1")), []))
    ∷ ((scale_json (codes "300000001") (codes "1"), j.Array []), Err Range)
    ∷ ((j.Object ((codes "translate", pair (codes "0") (codes "0")) ∷ []), j.Array []), Err Missing)
    -- both pairs are looked at before any of the four numbers is taken
    ∷ ((j.Object ((codes "scale", pair (codes "300000001") (codes "1")) ∷ ((codes "translate", j.Array (j.Number (codes "0") ∷ [])) ∷ [])), j.Array []), Err WrongKind)
    -- half a cell; a second cell past the grid; the greatest cell and then the least; a difference past its limit
    ∷ ((scale_json (codes "1") (codes "1"), along (codes "0") (codes "0.5")), Err GridNumber)
    ∷ ((scale_json (codes "0.1") (codes "0.1"), along (codes "2147483648") (codes "1")), Err GridNumber)
    ∷ ((scale_json (codes "0.1") (codes "0.1"), along (codes "2147483648") (codes "-4294967296")), Ok (Some (scaling (codes "0.1") (codes "0.1")), widest ∷ []))
    ∷ ((scale_json (codes "0.1") (codes "0.1"), along (codes "2147483648") (codes "-4294967297")), Err GridNumber)
    ∷ ((scale_json third third, nested (pair (codes "0") (codes "0") ∷ pair (codes "1") (codes "3") ∷ pair (codes "2") (codes "-3") ∷ [])), Ok (Some (scaling third third), line_cells ∷ []))
    ∷ []

abbrev bare : Result (Option Transform × List (List Point)) TopoFault → Read
bare (Ok x) = Ok (record { objects = []; arcs = x.1; transform = x.0 }, no_counts)
bare (Err e) = Err e

row_transforms : map (λ r. topology (typed (codes "Topology") ((codes "transform", r.0.0) ∷ ((codes "objects", j.Object []) ∷ ((codes "arcs", r.0.1) ∷ []))))) transforms ≡ map (λ r. bare r.1) transforms
unfolding topology value_contents contents object_of text_of need named objects objects_after members transform_if transform_members texts transform_pair transform_number arc_list arc arc_cells cells_after cell elements_cell grid_number grid_cell elements array_of number_text number_of scaled_of is_within place_on stands_for to_units transform_value gather
row_transforms = simp (j.outs-Object, j.outs-Text, j.outs-Array, j.outs-Number, j.outs-Null)

-- ---- places, which are no differences

abbrev places : List ((Transform × Json) × Result Point TopoFault)
places =
    -- the place [0,0] is taken, and [1,0] lies too far
    ((record { scale = (codes "1", codes "1"); translate = (codes "300000000", codes "0") }, pair (codes "0") (codes "0")), Ok (at_x 0))
    ∷ ((record { scale = (codes "1", codes "1"); translate = (codes "300000000", codes "0") }, pair (codes "1") (codes "0")), Err Range)
    ∷ ((scaling (codes "0.1") (codes "0.1"), pair (codes "2147483649") (codes "0")), Err GridNumber)
    ∷ ((scaling third third, pair (codes "3") (codes "3")), Ok (at (pos 3) (pos 3)))
    ∷ []

abbrev uncounted : Counts → Result Point TopoFault → Result (Point × Counts) TopoFault
uncounted c (Ok p) = Ok (p, c)
uncounted c (Err e) = Err e

row_places : (c : Counts) → map (λ r. place (Some r.0.0) r.0.1 c) places ≡ map (λ r. uncounted c r.1) places
unfolding place elements_place elements_cell grid_number grid_cell elements array_of number_text number_of scaled_of is_within place_on stands_for to_units transform_value
row_places c = simp (j.outs-Array, j.outs-Number)

-- ---- where cells lie: those above, and some on the grid that was written in units of 10^-7, and on one of two scales

abbrev lying : List (Transform × List Point × List Point)
lying =
    (scaling (codes "0.1") (codes "0.1"), widest, at (pos 214748364800000000) (pos 0) ∷ (at (negsuc 214748364799999999) (pos 0) ∷ []))
    ∷ (scaling third third, line_cells, at (pos 0) (pos 0) ∷ (at (pos 333333334) (pos 1000000002) ∷ (at (pos 1000000002) (pos 0) ∷ [])))
    ∷ (scaling third third, at (pos 3) (pos 3) ∷ [], at (pos 1000000002) (pos 1000000002) ∷ [])
    ∷ (scaling (codes "0.3333334") (codes "0.3333334"), line_cells, at (pos 0) (pos 0) ∷ (at (pos 333333400) (pos 1000000200) ∷ (at (pos 1000000200) (pos 0) ∷ [])))
    ∷ (record { scale = (codes "10", codes "0.000000001"); translate = (codes "0", codes "5") }, at (pos 0) (pos 0) ∷ (at (pos 1) (pos 0) ∷ []), at (pos 0) (pos 5000000000) ∷ (at (pos 10000000000) (pos 5000000000) ∷ []))
    ∷ []

row_lying : map (λ r. map (place_on r.0) r.1) lying ≡ map (λ r. r.2) lying
unfolding place_on stands_for to_units transform_value scaled_of
row_lying = refl
