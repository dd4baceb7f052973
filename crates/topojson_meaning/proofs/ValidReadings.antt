-- The shapes that are read of values at any depth keep the rules of their kinds.
use Rattle.std.proofs.Common.{◌≡◌, ℕ, false, List, map, Option, Some, None, sym, subst, arith}
use Rattle.topojson_meaning.proofs.Names.{AllByRecursion, all_weaker, all_map, all_of, Point, Json, roll-Json, map-Json, para-Json, para-roll-Json, Json-F, TopoShape, Transform, is_collection, Members, fail, Readings, readings_step, readings, shapes, part, typed_shape, WrongKind, GeometryType}
use Rattle.json_value.specs.declared.json.Json.TheVariants as j
use Rattle.json_value.proofs.ByKind.{by_kinds}
use Rattle.topojson_meaning.proofs.ValidKept.{IsShape, IsSingle}
use Rattle.topojson_meaning.proofs.ValidShapes.{typed_with_yields, single_with_yields}
use Rattle.topojson_meaning.proofs.ValidYields.{Yields, IfThere, fail_yields, pure_then, kept_of_yields}

module _ (transform : Option Transform) (arcs : List (List Point)) where
  abbrev Shape : TopoShape → Type 0
  Shape = IsShape transform arcs

  abbrev Shapes : List TopoShape → Type 0
  Shapes = AllByRecursion Shape

  -- a geometry gives a shape or none, and `geometries` give shapes
  pub record AreShapes (r : Readings) : Type 0 where
    pub geometry : Yields (IfThere Shape) r.geometry
    pub geometries : Yields (AllByRecursion Shape) r.geometries

  failing : AreShapes (record { geometry = fail WrongKind; geometries = fail WrongKind })
  failing = record { geometry = fail_yields (IfThere Shape) WrongKind; geometries = fail_yields Shapes WrongKind }

  -- of a value inside, which stands beside its own readings
  abbrev Inside : Json × Readings → Type 0
  Inside v = AreShapes v.1

  object_shapes : (ms : List (List ℕ × (Json × Readings))) → AllByRecursion (λ m. Inside m.1) ms → AreShapes (readings_step transform arcs (Json-F.Object ms))
  object_shapes ms h = grind (arith, pure_then, typed_with_yields, all_weaker (λ (m : List ℕ × (Json × Readings)). Inside m.1) (λ m. Yields Shapes m.1.1.geometries) (λ m k. k.geometries) ms h, fail_yields)

  array_shapes : (vs : List (Json × Readings)) → AllByRecursion Inside vs → AreShapes (readings_step transform arcs (Json-F.Array vs))
  array_shapes vs h = grind (arith, fail_yields, kept_of_yields)

  abbrev IsRead : Json → Type 0
  IsRead v = AreShapes (readings transform arcs v)

  abbrev run : Json → Readings
  run = para-Json Readings (readings_step transform arcs)

  -- what is read at one level is read of the value
  level : (x : Json-F Json) (v : Json) → roll-Json x ≡ v → AreShapes (readings_step transform arcs (map-Json Json (Json × Readings) (λ w. (w, run w)) x)) → IsRead v
  unfolding readings
  level x v e h = subst IsRead e (subst AreShapes (sym (para-roll-Json Readings (readings_step transform arcs) x)) h)

  all_read : (v : Json) → IsRead v
  unfolding readings
  all_read = by_kinds IsRead (record {
    null = level Json-F.Null j.Null j.rolls-Null failing;
    bool = λ b. level (Json-F.Bool b) (j.Bool b) (j.rolls-Bool b) failing;
    number = λ t. level (Json-F.Number t) (j.Number t) (j.rolls-Number t) failing;
    text = λ t. level (Json-F.Text t) (j.Text t) (j.rolls-Text t) failing;
    array = λ vs h. level (Json-F.Array vs) (j.Array vs) (j.rolls-Array vs) (array_shapes (map (λ v. (v, run v)) vs) (all_map Inside (λ v. (v, run v)) vs h));
    object = λ ms h. level (Json-F.Object ms) (j.Object ms) (j.rolls-Object ms) (object_shapes (map (λ m. (m.0, (m.1, run m.1))) ms) (all_map (λ (m : List ℕ × (Json × Readings)). Inside m.1) (λ m. (m.0, (m.1, run m.1))) ms h));
  })

  -- ---- shapes of features

  all_geometries : (ms : Members) → AllByRecursion (λ m. Yields Shapes (shapes transform arcs m.1)) ms
  unfolding shapes
  all_geometries ms = all_of (λ (m : List ℕ × Json). Yields Shapes (shapes transform arcs m.1)) ms (λ m k. (all_read m.1).geometries)

  pub typed_shape_yields : (type : Option GeometryType) (ms : Members) → Yields (IfThere Shape) (typed_shape transform arcs type ms)
  unfolding typed_shape part
  typed_shape_yields None ms = typed_with_yields transform arcs (λ w. w) (shapes transform arcs) None ms (all_geometries ms)
  typed_shape_yields (Some type) ms = typed_with_yields transform arcs (λ w. w) (shapes transform arcs) (Some type) ms (all_geometries ms)

  -- what is read of a geometry that is no collection is none
  pub single_shape_yields : (type : Option GeometryType) (ms : Members) → is_collection type ≡ false → Yields (IfThere (IsSingle transform arcs)) (typed_shape transform arcs type ms)
  unfolding typed_shape part
  single_shape_yields None ms e = single_with_yields transform arcs (λ w. w) (shapes transform arcs) None ms e
  single_shape_yields (Some type) ms e = single_with_yields transform arcs (λ w. w) (shapes transform arcs) (Some type) ms e
