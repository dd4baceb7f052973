-- The names that several proofs of this crate cite, passed on from one place.
pub use Rattle.std.proofs.lemmas.Bool.{le-leb, lt-ltb, leb-true, and_parts, and_from, or_parts, ltb-true}
pub use Rattle.std.proofs.lemmas.Int.{ints}
pub use Rattle.std.specs.List.{AllByRecursion, list_all}
pub use Rattle.owned_values.proofs.Elements.{all_two, all_append, all_left, all_right, all_of, all_of_map, all_weaker, all_parts, all_map, all_joined, list_all_of}
pub use Rattle.owned_values.proofs.Lists.{map_back, made_of_some}
pub use Rattle.geometry.proofs.Cases.{lines_and_rings-line, lines_and_rings-lines, lines_and_rings-area, lines_and_rings-areas, lines_and_rings-group, lines_and_rings-point, lines_and_rings-points}
pub use Rattle.geometry.proofs.Induction.{by_kinds}
pub use Rattle.geometry.proofs.Points.{same_self, same_is}
pub use Rattle.geometry.specs.Lists.{map_some, joined, then_some, unless_empty}
pub use Rattle.geometry.specs.Points.{Point, IsWithin, IsPosition}
pub use Rattle.geometry.specs.Pruning.{option_lines_and_rings}
unfoldable pub use Rattle.geometry.specs.Pruning.{lines_and_rings}
pub use Rattle.geometry.specs.Rings.{both_same}
unfoldable pub use Rattle.geometry.specs.Rings.{same}
pub use Rattle.geometry.specs.Units.{unit_places, position_limit}
pub use Rattle.decimal_text.proofs.UnitsText.{units_text-number, scaled_of-units}
unfoldable pub use Rattle.decimal_text.specs.Scaling.{units_text, scaled_of}
pub use Rattle.json_value.proofs.KindsOf.{object_of-object, text_of-text, array_of-array, number_of-number}
pub use Rattle.json_value.proofs.Parts.{given, need_part, gather_map, need_map, pure_map, find_part}
pub use Rattle.json_value.proofs.Yields.{Yields, pure_then, each_of_yields}
unfoldable pub use Rattle.json_value.specs.Kinds.{array_of, object_of, text_of, number_of}
pub use Rattle.json_value.specs.declared.json.Json.{Json, roll-Json, map-Json}
pub use Rattle.json_value.specs.declared.json.Json.TheFolds.{para-Json, para-roll-Json}
pub use Rattle.json_value.specs.declared.json.Json.TheOpen.{Json-F}
pub use Rattle.json_value.specs.declared.json.Json.TheViews.{out-Json}
pub use Rattle.geojson_types.specs.Counting.{no_counts}
pub use Rattle.geojson_types.specs.Features.{is_some_list}
pub use Rattle.geojson_types.specs.Numbers.{IdHasNumbers, PropertiesHaveNumbers}
pub use Rattle.geojson_types.specs.Texts.{IdHasTexts, PropertiesHaveTexts}
pub use Rattle.geojson_types.specs.declared.counts.Counts.{Counts}
pub use Rattle.geojson_types.specs.declared.id.Id.{Id}
pub use Rattle.topojson_types.proofs.ByKind.{geometrical_at, places_at, full_at, single_at, full-group}
pub use Rattle.topojson_types.specs.Bounds.{Corners}
unfoldable pub use Rattle.topojson_types.specs.Bounds.{bounds}
pub use Rattle.topojson_types.specs.Differences.{difference}
unfoldable pub use Rattle.topojson_types.specs.Differences.{deltas_from}
pub use Rattle.topojson_types.specs.Topologies.{Contents, features_lines_and_rings, objects_lines_and_rings, TopoShape, object_features}
pub use Rattle.topojson_types.specs.TransformNumbers.{IsTransformNumber}
unfoldable pub use Rattle.topojson_types.specs.TransformNumbers.{transform_value, to_units, stands_for}
pub use Rattle.topojson_types.specs.Transforms.{grid_limit, origin, moved, IsTransform}
unfoldable pub use Rattle.topojson_types.specs.Transforms.{place_on, is_within}
pub use Rattle.topojson_types.specs.Validity.{IsFeature, IsObject, AreInRange, IsJoined, IsClosed, option_places, IsPlace, IsTransformed, IsArc, IsTopology, is_full_option, is_single_option, AreDistinct}
unfoldable pub use Rattle.topojson_types.specs.Validity.{places, is_full, is_single}
pub use Rattle.topojson_types.specs.declared.feature.TopoFeature.{TopoFeature}
pub use Rattle.topojson_types.specs.declared.object.TopoObject.{TopoObject}
pub use Rattle.topojson_types.specs.declared.object.TopoObject.TheVariants.{One, Many}
pub use Rattle.topojson_types.specs.declared.transform.Transform.{Transform}
pub use Rattle.topojson_meaning.specs.Arcs.{difference_limit, as_arc}
unfoldable pub use Rattle.topojson_meaning.specs.Arcs.{number_text, units, elements_position, position, grid_number, grid_cell, elements_cell, cell, cells_after, elements_place, place, arc_cells, arc, arc_list}
pub use Rattle.topojson_meaning.specs.Features.{identifier, identifier_in, members_if, members_in}
unfoldable pub use Rattle.topojson_meaning.specs.Features.{feature, feature_element}
pub use Rattle.topojson_meaning.specs.GeometryTypes.{is_collection, part_name, type_in}
unfoldable pub use Rattle.topojson_meaning.specs.GeometryTypes.{type_of, object_type, geometry_type}
pub use Rattle.topojson_meaning.specs.Laws.{IsStored, ReadsBack, FeaturesHaveNumbers, ValueHasNumbers, ValueNests, ReadsValid}
pub use Rattle.topojson_meaning.specs.Lines.{index_limit, joined_to, as_ring, line_start, line_end, with_outer}
unfoldable pub use Rattle.topojson_meaning.specs.Lines.{some_elements, index, indexes_after, indexes, line_in, line, ring_in, ring, polygon_in, polygon}
pub use Rattle.topojson_meaning.specs.Members.{find, Members, lookup_fault, need_as}
unfoldable pub use Rattle.topojson_meaning.specs.Members.{named, need, elements, members}
pub use Rattle.topojson_meaning.specs.Objects.{is_met, new_name}
unfoldable pub use Rattle.topojson_meaning.specs.Objects.{objects, objects_after, features, collection, single, object}
pub use Rattle.topojson_meaning.specs.Reader.{each, if_some, kept, fail, Reader, with_fault, ◌>>=◌, give, pure, or_fail}
unfoldable pub use Rattle.topojson_meaning.specs.Reader.{gather}
pub use Rattle.topojson_meaning.specs.Shapes.{Readings, readings_step, part_with, typed_with}
unfoldable pub use Rattle.topojson_meaning.specs.Shapes.{readings, shapes, part, typed_shape, shape, geometry, places_in, arcs_in, places_shape, arcs_shape}
pub use Rattle.topojson_meaning.specs.Texts.{FeatureHasTexts, ContentsHaveTexts, NumbersStay, TextsStay}
pub use Rattle.topojson_meaning.specs.Topologies.{topology_type}
unfoldable pub use Rattle.topojson_meaning.specs.Topologies.{contents, value_contents, topology}
pub use Rattle.topojson_meaning.specs.Transforms.{limited, transform_in, texts_in}
unfoldable pub use Rattle.topojson_meaning.specs.Transforms.{texts, transform_number, transform_pair, transform_members, transform_if}
pub use Rattle.topojson_meaning.specs.declared.fault.TopoFault.{TopoFault}
pub use Rattle.topojson_meaning.specs.declared.fault.TopoFault.TheVariants.{Missing, WrongKind, GridNumber, Range, NotTopology, Duplicate, UnknownType, ShortArc, IndexRange, Unjoined, OpenRing}
pub use Rattle.topojson_meaning.specs.declared.geometry_type.GeometryType.{GeometryType}
pub use Rattle.topojson_meaning.specs.declared.geometry_type.GeometryType.TheVariants.{Places, Arcs, Collection}
