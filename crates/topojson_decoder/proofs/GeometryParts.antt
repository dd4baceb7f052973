-- A geometry by its members.
use Rattle.std.proofs.Common.{◌≡◌, ℕ, List, [], ◌∷◌, Option, Some, None, Result, Ok, Err, refl, ap, ◌∙◌}
use Rattle.std.specs.Prelude.{codes}
use Rattle.std.specs.Borrow.{Bor}
use Rattle.json_value.specs.declared.json.Json.{Json}
use Rattle.json_value.specs.declared.json.Json.TheVariants as j
use Rattle.json_value.specs.declared.json.Json.TheOpen.{Json-F}
use Rattle.json_value.specs.declared.json.Json.TheViews.{out-Json}
use Rattle.json_value.specs.Kinds.{array_of, object_of, text_in, text_of}
use Rattle.json_cursor.specs.Kinds.{kind_in, kind_of}
use Rattle.json_value.proofs.KindsOf.{array_of-array, object_of-object}
use Rattle.json_value.specs.Members.{Members, named}
use Rattle.json_reading.specs.declared.fault.Fault.{Fault}
use Rattle.json_reading.specs.declared.fault.Fault.TheVariants as fault
use Rattle.json_reading.specs.Passes.{Passes}
use Rattle.json_cursor.specs.Arrays.{prefix_value}
use Rattle.geometry.specs.Points.{Point}
use Rattle.geometry.specs.declared.shape.Geometry.TheVariants as g
use Rattle.geojson_types.specs.declared.counts.Counts.{Counts}
use Rattle.topojson_types.specs.declared.transform.Transform.{Transform}
use Rattle.topojson_types.specs.Topologies.{TopoShape}
use Rattle.topojson_meaning.specs.declared.fault.TopoFault.{TopoFault}
use Rattle.topojson_meaning.specs.declared.fault.TopoFault.TheVariants.{Missing, Duplicate, WrongKind}
use Rattle.topojson_meaning.specs.declared.geometry_type.GeometryType.{GeometryType}
use Rattle.topojson_meaning.specs.declared.geometry_type.GeometryType.TheVariants.{Collection}
use Rattle.topojson_meaning.specs.GeometryTypes.{geometry_type, known, object_type, part_name, type_in, type_of}
use Rattle.topojson_meaning.specs.Members.{need}
use Rattle.topojson_meaning.specs.Reader.{Reader, gather, kept}
use Rattle.topojson_meaning.specs.Shapes as shapes
use Rattle.topojson_decoder.proofs.Unrolling as unrolling
use Rattle.json_cursor.specs.Answers.{Reads}
use Rattle.json_cursor.specs.Held.{Finds, FindsValue, IsHeld}
use Rattle.json_cursor.proofs.Steps.{made}
use Rattle.topojson_decoder.specs.Geometries.{ReadsPart, textless_type}
use Rattle.topojson_decoder.specs.declared.geometry_parts.Read.{Read}
use Rattle.topojson_decoder.specs.declared.geometry_parts.Start.{Start}

-- ---- a value that is passed over

pub passed_over : (start : Start) (d : ℕ) (read : Read) (bytes : List ℕ) (answer : Result (Bor (List ℕ)) Fault) → Passes answer (prefix_value d bytes) → ReadsPart start None d read read bytes answer
passed_over start d read bytes (Ok rest) h = (h.0, h.1, refl)
passed_over start d read bytes (Err fault) h = h

-- ---- the type

module _ (ms : Members) where
  pub no_type : named (codes "type") ms ≡ [] → object_type ms ≡ Err Missing
  unfolding object_type need
  no_type h = rw h refl

  pub more_types : (v w : Json) (us : List Json) → named (codes "type") ms ≡ v ∷ w ∷ us → object_type ms ≡ Err Duplicate
  unfolding object_type need
  more_types v w us h = rw h refl

  pub one_type : (v : Json) → named (codes "type") ms ≡ v ∷ [] → object_type ms ≡ type_of v
  unfolding object_type need
  one_type v h = rw h refl

textless_in : (x : Json-F Json) → text_in x ≡ None → textless_type (kind_in x) ≡ type_in x
textless_in Json-F.Null h = refl
textless_in (Json-F.Bool b) h = refl
textless_in (Json-F.Number n) h = refl
textless_in (Json-F.Text t) h = absurd cc
textless_in (Json-F.Array vs) h = refl
textless_in (Json-F.Object ms) h = refl

pub textless : (v : Json) → text_of v ≡ None → textless_type (kind_of v) ≡ type_of v
unfolding text_of type_of
textless v h = textless_in (out-Json v) h

pub type_of_text : (name : List ℕ) → type_of (j.Text name) ≡ known (geometry_type name)
unfolding type_of
type_of_text name = ap type_in (j.outs-Text name)

module _ (t : Option Transform) (arcs : List (List Point)) where
  -- ---- the member that a geometry is made of

  module _ (type : GeometryType) (ms : Members) (c : Counts) where
    pub no_part : named (part_name type) ms ≡ [] → shapes.typed_shape t arcs (Some type) ms c ≡ Err Missing
    unfolding shapes.typed_shape need
    no_part h = rw h refl

    pub more_parts : (v w : Json) (us : List Json) → named (part_name type) ms ≡ v ∷ w ∷ us → shapes.typed_shape t arcs (Some type) ms c ≡ Err Duplicate
    unfolding shapes.typed_shape need
    more_parts v w us h = rw h refl

    pub one_part : (v : Json) → named (part_name type) ms ≡ v ∷ [] → shapes.typed_shape t arcs (Some type) ms c ≡ shapes.part t arcs type v c
    unfolding shapes.typed_shape need
    one_part v h = rw h refl

  -- ---- the geometries of a collection

  module _ (ms : Members) (c : Counts) (v : Json) (one : named (codes "geometries") ms ≡ v ∷ []) where
    pub grouped : (ss : List TopoShape) (d : Counts) → shapes.shapes t arcs v c ≡ Ok (ss, d) → shapes.typed_shape t arcs (Some Collection) ms c ≡ Ok (Some (g.Group ss), d)
    unfolding shapes.part
    grouped ss d h = one_part Collection ms c v one ∙ rw h refl

    pub ungrouped : (e : TopoFault) → shapes.shapes t arcs v c ≡ Err e → shapes.typed_shape t arcs (Some Collection) ms c ≡ Err e
    unfolding shapes.part
    ungrouped e h = one_part Collection ms c v one ∙ rw h refl

  -- ---- the geometry, where its type is named once

  module _ (ms : Members) (c : Counts) where
    pub no_null : shapes.typed_shape t arcs None ms c ≡ Ok (None, c)
    unfolding shapes.typed_shape
    no_null = refl

    pub faulty_type : (e : TopoFault) → object_type ms ≡ Err e → shapes.geometry t arcs ms c ≡ Err e
    unfolding shapes.geometry
    faulty_type e h = rw h refl

    pub known_type : (type : Option GeometryType) → object_type ms ≡ Ok type → shapes.geometry t arcs ms c ≡ shapes.typed_shape t arcs type ms c
    unfolding shapes.geometry
    known_type type h = rw h refl

  -- ---- what stands at the front

  pub object_shape : (ms : Members) (old : Counts) → shapes.shape t arcs (j.Object ms) old ≡ shapes.geometry t arcs ms old
  object_shape ms old = ap (λ (r : Reader (Option TopoShape)). r old) (unrolling.shape_object t arcs (j.Object ms) ms (object_of-object ms))

  pub no_object : (v : Json) (old : Counts) → object_of v ≡ None → shapes.shape t arcs v old ≡ Err WrongKind
  no_object v old h = ap (λ (r : Reader (Option TopoShape)). r old) (unrolling.shape_other t arcs v h)

  pub no_array : (v : Json) (old : Counts) → array_of v ≡ None → shapes.shapes t arcs v old ≡ Err WrongKind
  no_array v old h = ap (λ (r : Reader (List TopoShape)). r old) (unrolling.shapes_other t arcs v h)

  pub array_shapes : (vs : List Json) (old : Counts) → shapes.shapes t arcs (j.Array vs) old ≡ kept (shapes.shape t arcs) vs old
  array_shapes vs old = ap (λ (r : Reader (List TopoShape)). r old) (unrolling.shapes_array t arcs (j.Array vs) vs (array_of-array vs))

  pub no_elements : (prefix : Option (Json × List ℕ)) (rest : List ℕ) (old : Counts) → prefix ≡ Some (j.Array [], rest) → Reads (shapes.shapes t arcs) prefix [] rest old old
  unfolding gather
  no_elements prefix rest old is = record { value = j.Array []; prefix_is = is; means = array_shapes [] old }

  -- what is held of the elements is held of their array
  module _ (found : Option (List Json × List ℕ)) (old new : Counts) (d : ℕ) (bytes : List ℕ) (is : prefix_value d bytes ≡ made j.Array found) where
    pub array_held : (answer : Result (Result (List TopoShape) TopoFault × Bor (List ℕ)) Fault) → Finds (IsHeld (kept (shapes.shape t arcs)) old new) found answer → FindsValue (IsHeld (shapes.shapes t arcs) old new) d bytes answer
    array_held (Ok (Ok ss, rest)) h = (j.Array h.0, is ∙ ap (made j.Array) h.1, array_shapes h.0 old ∙ h.2)
    array_held (Ok (Err e, rest)) h = (j.Array h.0, is ∙ ap (made j.Array) h.1, array_shapes h.0 old ∙ h.2)
    array_held (Err (fault.Malformed why left)) h = is ∙ ap (made j.Array) h
    array_held (Err fault.Memory) h = tt
