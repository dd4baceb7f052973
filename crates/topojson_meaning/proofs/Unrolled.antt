-- What a value is read as, by one level of it.
use Rattle.std.proofs.Common.{◌≡◌, ℕ, List, map, Option, None, Some, refl, sym, ap, ◌∙◌, arith}
use Rattle.std.specs.Prelude.{option_to_list}
use Rattle.topojson_meaning.proofs.Names.{map_back, Point, gather_map, need_map, pure_map, Json, para-Json, para-roll-Json, Json-F, TopoShape, Transform, part_name, object_type, Members, lookup_fault, need, need_as, Reader, ◌>>=◌, give, pure, with_fault, kept, part_with, typed_with, Readings, readings_step, readings, shape, shapes, part, typed_shape, geometry, GeometryType}
use Rattle.json_value.specs.declared.json.Json.TheVariants as j
use Rattle.json_value.specs.Members as members_by

-- ---- reading under a map

need_as_map : {V W B : Type 0} (h : V → W) (g : List ℕ × V → List ℕ × W) → ((m : List ℕ × V) → g m ≡ (m.0, h m.1)) → (name : List ℕ) (read : W → Reader B) (ms : List (List ℕ × V))
    → need_as name read (map g ms) ≡ need_as name (λ v. read (h v)) ms
unfolding need
need_as_map h g e name read ms = ap (λ r. pure (with_fault lookup_fault r) >>= read) (need_map h g e name ms) ∙ pure_map lookup_fault h read (members_by.need name ms)

-- ---- one level

module _ (transform : Option Transform) (arcs : List (List Point)) where
  abbrev beside : Json → Json × Readings
  beside v = (v, readings transform arcs v)

  abbrev member_beside : List ℕ × Json → List ℕ × (Json × Readings)
  member_beside m = (m.0, beside m.1)

  part_beside : (type : GeometryType) (v : Json) → part_with (λ w. w.0) (λ w. w.1.geometries) transform arcs type (beside v) ≡ part transform arcs type v
  unfolding part shapes
  part_beside type v = grind arith

  typed_beside : (type : Option GeometryType) (ms : Members) → typed_with (λ w. w.0) (λ w. w.1.geometries) transform arcs type (map member_beside ms) ≡ typed_shape transform arcs type ms
  unfolding typed_shape
  typed_beside None ms = refl
  typed_beside (Some type) ms = need_as_map beside member_beside (λ m. refl) (part_name type) (part_with (λ w. w.0) (λ w. w.1.geometries) transform arcs type) ms
      ∙ ap (λ (read : Json → Reader (Option TopoShape)). need_as (part_name type) read ms) (λ i v. part_beside type v i)

  -- an object inside a collection is read as the geometry with its members
  pub shape_object : (ms : Members) → shape transform arcs (j.Object ms) ≡ geometry transform arcs ms
  unfolding shape readings geometry
  shape_object ms = ap (λ r. r.geometry) (ap (para-Json Readings (readings_step transform arcs)) (sym (j.rolls-Object ms)) ∙ para-roll-Json Readings (readings_step transform arcs) (Json-F.Object ms))
      ∙ rw (map_back (λ (m : List ℕ × (Json × Readings)). (m.0, m.1.0)) member_beside (λ m. refl) ms)
      (ap (λ (typed : Option GeometryType → Reader (Option TopoShape)). pure (object_type ms) >>= typed) (λ i type. typed_beside type ms i))

  -- the elements of an array are read as geometries in order, those left out that are null
  pub shapes_array : (vs : List Json) → shapes transform arcs (j.Array vs) ≡ kept (shape transform arcs) vs
  unfolding shapes shape readings
  shapes_array vs = ap (λ r. r.geometries) (ap (para-Json Readings (readings_step transform arcs)) (sym (j.rolls-Array vs)) ∙ para-roll-Json Readings (readings_step transform arcs) (Json-F.Array vs))
      ∙ gather_map (λ v. v.1.geometry >>= λ x. give (option_to_list x)) beside vs
