-- The names that several proofs of this crate cite, passed on from one place.
pub use Rattle.std.specs.List.{AllByRecursion, list_all}
pub use Rattle.owned_values.proofs.Elements.{all_weaker, all_map, list_all_of, all_joined}
pub use Rattle.geometry.proofs.ByKind.{AtKinds, proper_at, points_at, proper-group}
pub use Rattle.geometry.specs.Lists.{map_some, unless_empty, joined}
pub use Rattle.geometry.specs.Points.{Point, IsInput}
pub use Rattle.geometry.specs.Pruning.{option_lines_and_rings}
unfoldable pub use Rattle.geometry.specs.Pruning.{lines_and_rings}
unfoldable pub use Rattle.geometry.specs.Rings.{is_ring}
pub use Rattle.geometry.specs.Units.{input_limit, unit_places}
pub use Rattle.json_value.proofs.KindsOf.{object_of-object, object_of_is, array_of_is, array_of-array, array_kinds, object_kinds, text_kinds, number_kinds}
pub use Rattle.json_value.proofs.Parts.{given, gather_map, need_map, pure_map}
pub use Rattle.json_value.proofs.Yields.{Yields, IfThere, weaker_yields, there_weaker, then_yields, give_yields, count_yields, fail_yields, if_yields, if_some_yields, each_of_yields, kept_of_yields, taken, second_is, pure_yields, first_is, or_fail_is}
pub use Rattle.json_value.specs.Depth.{greatest}
unfoldable pub use Rattle.json_value.specs.Depth.{depth}
pub use Rattle.json_value.specs.Kinds.{object_in, array_in}
unfoldable pub use Rattle.json_value.specs.Kinds.{array_of, object_of}
pub use Rattle.json_value.specs.Numbers.{HasNumbers}
pub use Rattle.json_value.specs.WellFormed.{HasTexts}
pub use Rattle.json_value.specs.declared.json.Json.{Json}
pub use Rattle.json_value.specs.declared.json.Json.TheOpen.{Json-F}
pub use Rattle.json_value.specs.declared.json.Json.TheViews.{out-Json, roll-out-Json}
pub use Rattle.geojson_types.specs.Counting.{count_rounded, count_extra, no_counts}
pub use Rattle.geojson_types.specs.Features.{Shape, is_some_list, is_proper_option, Featured, is_line}
unfoldable pub use Rattle.geojson_types.specs.Features.{is_proper}
pub use Rattle.geojson_types.specs.Nesting.{nesting_step, feature_nesting}
unfoldable pub use Rattle.geojson_types.specs.Nesting.{nesting}
pub use Rattle.geojson_types.specs.Numbers.{IdHasNumbers, PropertiesHaveNumbers, FeatureHasNumbers}
pub use Rattle.geojson_types.specs.Places.{features_points, option_points}
unfoldable pub use Rattle.geojson_types.specs.Places.{shape_points}
pub use Rattle.geojson_types.specs.Texts.{IdHasTexts, PropertiesHaveTexts, FeatureHasTexts}
pub use Rattle.geojson_types.specs.declared.counts.Counts.{Counts}
pub use Rattle.geojson_meaning.specs.Coordinates.{number_in_units, array_position}
unfoldable pub use Rattle.geojson_meaning.specs.Coordinates.{coordinate, elements_position, position}
pub use Rattle.geojson_meaning.specs.Features.{identifier_in, identifier, members_in, members_if}
unfoldable pub use Rattle.geojson_meaning.specs.Features.{feature, feature_element}
pub use Rattle.geojson_meaning.specs.Geometries.{Readings, readings_step, geometry_with}
unfoldable pub use Rattle.geojson_meaning.specs.Geometries.{shape_in, coordinates_shape, shape, shapes, typed_geometry, geometry, readings}
pub use Rattle.geojson_meaning.specs.Laws.{RingCloses, ExactIsStricter, ShapesAreProper, InputsAlone, RingsClose, NothingDeeper, NumbersStay, TextsStay}
pub use Rattle.geojson_meaning.specs.Layers.{bare}
unfoldable pub use Rattle.geojson_meaning.specs.Layers.{layer, features_from, collection_features, single_feature, bare_feature, typed_features, features}
pub use Rattle.geojson_meaning.specs.Lines.{elements_in, as_line}
unfoldable pub use Rattle.geojson_meaning.specs.Lines.{some_elements, line_in, line}
pub use Rattle.geojson_meaning.specs.Members.{need_as, find, lookup_fault}
unfoldable pub use Rattle.geojson_meaning.specs.Members.{need, type_name, named}
pub use Rattle.geojson_meaning.specs.Polygons.{as_ring, with_outer}
unfoldable pub use Rattle.geojson_meaning.specs.Polygons.{ring_in, ring, polygon_in, polygon}
pub use Rattle.geojson_meaning.specs.Reader.{Reader, ◌>>=◌, fail, each, kept, if_some, Counting, give, pure, within, or_fail, with_fault, LayerReader, fault_in}
unfoldable pub use Rattle.geojson_meaning.specs.Reader.{gather}
pub use Rattle.geojson_meaning.specs.declared.fault.GeoFaultKind.{GeoFaultKind}
pub use Rattle.geojson_meaning.specs.declared.fault.GeoFaultKind.TheVariants.{WrongKind, Inexact, NotObject, UnknownType, ShortPosition, Missing, Duplicate, ShortLine, Range}
pub use Rattle.geojson_meaning.specs.declared.types.CoordinatesType.{CoordinatesType}
pub use Rattle.geojson_meaning.specs.declared.types.GeoJsonType.{GeoJsonType}
pub use Rattle.geojson_meaning.specs.declared.types.GeometryType.{GeometryType}
