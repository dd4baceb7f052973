-- What a value is read as, by one level of it.
use Rattle.std.proofs.Common.{◌≡◌, ℕ, Bool, List, map, Some, None, refl, sym, ap, ◌∙◌, arith}
use Rattle.std.specs.Prelude.{codes}
use Rattle.geojson_meaning.proofs.Names.{gather_map, need_map, pure_map, array_of, array_in, object_of, object_in, Json, Json-F, out-Json, roll-out-Json, Readings, readings_step, readings, shape, shapes, geometry, geometry_with, typed_geometry, lookup_fault, need, need_as, Reader, ◌>>=◌, fail, pure, with_fault, kept, WrongKind}
use Rattle.json_value.specs.declared.json.Json.TheFolds.{para-Json, para-roll-Json, map-Json}
use Rattle.json_value.specs.Members as members_by
use Rattle.owned_values.proofs.Lists.{map_back}

-- ---- reading under a map

need_as_map : {V W B : Type 0} (h : V → W) (g : List ℕ × V → List ℕ × W) → ((m : List ℕ × V) → g m ≡ (m.0, h m.1)) → (name : List ℕ) (read : W → Reader B) (ms : List (List ℕ × V))
    → need_as name read (map g ms) ≡ need_as name (λ v. read (h v)) ms
unfolding need
need_as_map h g e name read ms = ap (λ r. pure (with_fault lookup_fault r) >>= read) (need_map h g e name ms) ∙ pure_map lookup_fault h read (members_by.need name ms)

-- ---- one level

abbrev beside : Bool → Json → Json × Readings
beside exact v = (v, readings exact v)

abbrev member_beside : Bool → List ℕ × Json → List ℕ × (Json × Readings)
member_beside exact m = (m.0, beside exact m.1)

unrolled : (exact : Bool) (v : Json) → readings exact v ≡ readings_step exact (map-Json Json (Json × Readings) (beside exact) (out-Json v))
unfolding readings
unrolled exact v = ap (para-Json Readings (readings_step exact)) (sym (roll-out-Json v)) ∙ para-roll-Json Readings (readings_step exact) (out-Json v)

plain_members : (exact : Bool) (ms : List (List ℕ × Json)) → geometry_with (need_as (codes "geometries") (λ v. v.1.geometries) (map (member_beside exact) ms)) exact (map (λ m. (m.0, m.1.0)) (map (member_beside exact) ms)) ≡ geometry exact ms
unfolding geometry typed_geometry shapes
plain_members exact ms = rw (map_back (λ m. (m.0, m.1.0)) (member_beside exact) (λ m. refl) ms, need_as_map (beside exact) (member_beside exact) (λ m. refl) (codes "geometries") (λ v. v.1.geometries) ms) refl

object_in_shape : (exact : Bool) (v : Json) (x : Json-F Json) (ms : List (List ℕ × Json)) → out-Json v ≡ x → object_in x ≡ Some ms → shape exact v ≡ geometry exact ms
unfolding shape
object_in_shape exact v (Json-F.Object ws) ms e f = ap (λ r. r.geometry) (unrolled exact v) ∙ rw e (plain_members exact ws ∙ ap (geometry exact) (same_members f))
  where
    same_members : Some ws ≡ Some ms → ws ≡ ms
    same_members h = cc
object_in_shape exact v x ms e f = absurd cc

-- An object is read as the geometry with its members.
pub shape_object : (exact : Bool) (v : Json) (ms : List (List ℕ × Json)) → object_of v ≡ Some ms → shape exact v ≡ geometry exact ms
shape_object exact v ms e = unfold object_of in object_in_shape exact v (out-Json v) ms refl e

object_in_none : (exact : Bool) (v : Json) (x : Json-F Json) → out-Json v ≡ x → object_in x ≡ None → shape exact v ≡ fail WrongKind
object_in_none exact v x h k = unfold shape in grind (arith, unrolled)

-- Nothing else is a geometry.
pub shape_other : (exact : Bool) (v : Json) → object_of v ≡ None → shape exact v ≡ fail WrongKind
shape_other exact v e = unfold object_of in object_in_none exact v (out-Json v) refl e

-- The elements of an array are read as geometries in order, those left out that are null.
pub shapes_array : (exact : Bool) (v : Json) (vs : List Json) → array_of v ≡ Some vs → shapes exact v ≡ kept (shape exact) vs
shapes_array exact v vs e = unfold array_of shapes shape in grind (arith, unrolled, gather_map)

array_in_none : (exact : Bool) (v : Json) (x : Json-F Json) → out-Json v ≡ x → array_in x ≡ None → shapes exact v ≡ fail WrongKind
array_in_none exact v x h k = unfold shapes in grind (arith, unrolled)

-- Nothing else is read as `geometries`.
pub shapes_other : (exact : Bool) (v : Json) → array_of v ≡ None → shapes exact v ≡ fail WrongKind
shapes_other exact v e = unfold array_of in array_in_none exact v (out-Json v) refl e
