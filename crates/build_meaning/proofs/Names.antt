-- The names that several proofs of this crate cite, passed on from one place.
pub use Rattle.std.proofs.Math.Path.{fun_ext}
pub use Rattle.std.proofs.lemmas.Bool.{and_from, and_parts}
pub use Rattle.std.proofs.lemmas.Bool.Decides.{nat_tests}
pub use Rattle.std.proofs.lemmas.List.{length-map, map-append, reverse-append, reverse-reverse}
pub use Rattle.std.proofs.lemmas.Simd.{map-map}
pub use Rattle.std.specs.List.{AllByRecursion, filter, list_all, list_any}
pub use Rattle.std.specs.Prelude.{codes, sum}
pub use Rattle.owned_values.proofs.Elements.{all_append, all_drop, all_left, all_made, all_map, all_of, all_of_map, all_parts, all_right, all_take, all_two, all_weaker, each_of}
pub use Rattle.owned_values.proofs.Lists.{map_agree}
pub use Rattle.owned_values.proofs.Members.{any_from_in, in_append, in_right}
pub use Rattle.geometry.proofs.Agreement.{agreed}
pub use Rattle.geometry.proofs.ByKind.{AtKinds, at_kinds, points_at, proper-group, proper_at}
pub use Rattle.geometry.proofs.Cases.{drop_causes-area, drop_causes-areas, drop_causes-line, drop_causes_at, lines_and_rings-area, lines_and_rings-areas, lines_and_rings-group, lines_and_rings-line, lines_and_rings-lines, lines_and_rings-point, lines_and_rings-points, lines_and_rings_at, prune-area, prune-areas, prune-group, prune-line, prune-lines, prune-point, prune-points, prune_at}
pub use Rattle.geometry.proofs.Composition.{composed}
pub use Rattle.geometry.proofs.Induction.{by_kinds}
pub use Rattle.geometry.proofs.MovedShapes.{moved_at, option_points_moved, some_mapped}
pub use Rattle.geometry.specs.Areas.{twice_ring_area}
unfoldable pub use Rattle.geometry.specs.Areas.{cross, shoelace, twice_area}
pub use Rattle.geometry.specs.DropCauses.{area_drop_causes, dropped_of_layers, here, inner_cause}
unfoldable pub use Rattle.geometry.specs.DropCauses.{drop_causes}
pub use Rattle.geometry.specs.Joins.{Closes, Meet, arc_at, at, first_of, last_of, or_empty, stitched}
unfoldable pub use Rattle.geometry.specs.Joins.{number_of}
pub use Rattle.geometry.specs.Lists.{joined, map_some, some_of, tail, then_some, unless_empty, with_some}
pub use Rattle.geometry.specs.Paths.{Placed, alone, inside_part, of_parts}
pub use Rattle.geometry.specs.Points.{IsPosition, Point}
pub use Rattle.geometry.specs.Pruning.{area_by, option_lines_and_rings}
unfoldable pub use Rattle.geometry.specs.Pruning.{lines_and_rings, prune}
unfoldable pub use Rattle.geometry.specs.Rings.{same}
pub use Rattle.geometry.specs.declared.address.Cause.{Cause}
pub use Rattle.geometry.specs.declared.address.Cause.TheVariants.{Collapsed, Outer, Small}
pub use Rattle.geometry.specs.declared.shape.Geometry.{Geometry}
unfoldable pub use Rattle.decimal_text.specs.Scaling.{scaled_of, units_text}
pub use Rattle.geojson_types.proofs.Nestings.{nesting_at, option_pruned_nests}
pub use Rattle.geojson_types.specs.Features.{Featured, Shape, is_proper_option, is_some_list}
unfoldable pub use Rattle.geojson_types.specs.Features.{is_proper}
pub use Rattle.geojson_types.specs.Moving.{moved_feature}
unfoldable pub use Rattle.geojson_types.specs.Moving.{moved}
pub use Rattle.geojson_types.specs.Nesting.{feature_nesting, option_nesting, properties_nesting}
unfoldable pub use Rattle.geojson_types.specs.Nesting.{nesting}
pub use Rattle.geojson_types.specs.Numbers.{FeatureHasNumbers, IdHasNumbers, PropertiesHaveNumbers}
pub use Rattle.geojson_types.specs.Places.{features_points, option_points}
unfoldable pub use Rattle.geojson_types.specs.Places.{shape_points}
pub use Rattle.geojson_types.specs.Texts.{FeatureHasTexts, IdHasTexts, PropertiesHaveTexts}
pub use Rattle.geojson_types.specs.declared.layer.Layer.{Layer}
pub use Rattle.junctions.proofs.Members.{from_map, in_map}
pub use Rattle.junctions.specs.Cleaning.{AllClean, IsClean, IsCleanList, Moves, clean, clean_from, is_short}
pub use Rattle.junctions.specs.Cuts.{is_cut}
pub use Rattle.junctions.specs.declared.stroke.Stroke.{Stroke}
pub use Rattle.grid_snap.proofs.Settled.{covered_parts, covered_within, number_within, settled}
pub use Rattle.grid_snap.specs.Axes.{Axes, IsAxis, IsGrid, cell, covers, grid_over, snapped}
unfoldable pub use Rattle.grid_snap.specs.Axes.{number}
pub use Rattle.grid_snap.specs.Laws.{Settles}
pub use Rattle.grid_snap.specs.declared.axis.Axis.{Axis}
pub use Rattle.linework.specs.Laws.{layers_points}
unfoldable pub use Rattle.linework.specs.Linework.{linework}
pub use Rattle.linework.specs.Outlines.{is_short_outline, linework_of}
pub use Rattle.cutter.proofs.CleanStarts.{clean_start}
pub use Rattle.cutter.proofs.Joins.{line_or_ring_split, same_times, start_length}
pub use Rattle.cutter.proofs.OpenPieces.{in_flat}
pub use Rattle.cutter.proofs.Structured.{clean_in, from_flat, structured}
pub use Rattle.cutter.specs.Pieces.{from_start, pieces, pieces_from, pieces_of, split_at, start_in, turned}
pub use Rattle.cutter.specs.Places.{In, interior}
pub use Rattle.cutter.specs.Segments.{line_segments, piece_segments, segments, times}
pub use Rattle.cutter.specs.Slices.{IsSplit, all_pieces, piece_lists, split_of, started}
pub use Rattle.topojson_types.proofs.ByKind.{full-group, full_at, places_at, single_at}
pub use Rattle.topojson_types.proofs.Parts.{parts_all}
pub use Rattle.topojson_types.specs.Decoding.{completed, decoded_feature, decoded_line, decoded_object, decoded_shape, filled, of_name, placed_arcs}
unfoldable pub use Rattle.topojson_types.specs.Decoding.{decoded}
pub use Rattle.topojson_types.specs.Topologies.{Contents, TopoShape, object_features, objects_lines_and_rings}
pub use Rattle.topojson_types.specs.Transforms.{IsTransform}
unfoldable pub use Rattle.topojson_types.specs.Transforms.{place_on}
pub use Rattle.topojson_types.specs.Validity.{AreDistinct, AreInRange, IsArc, IsClosed, IsFeature, IsJoined, IsObject, IsPlace, IsTopology, features_places, is_full_option, is_single_option, objects_places, option_places}
unfoldable pub use Rattle.topojson_types.specs.Validity.{is_full, is_single, places}
pub use Rattle.topojson_types.specs.declared.feature.TopoFeature.{TopoFeature}
pub use Rattle.topojson_types.specs.declared.object.TopoObject.{TopoObject}
pub use Rattle.topojson_types.specs.declared.object.TopoObject.TheVariants.{Many, One}
pub use Rattle.topojson_types.specs.declared.transform.Transform.{Transform}
pub use Rattle.arc_table.proofs.Alike.{arc_is_piece, arcs_unlike, piece_has_alike}
pub use Rattle.arc_table.proofs.Indexes.{index_is, named_all, named_is}
pub use Rattle.arc_table.proofs.Stitching.{pieces_meet, rings_close, same_stitched}
pub use Rattle.arc_table.specs.Arcs.{arcs_of, index_in}
pub use Rattle.elimination_meaning.proofs.Steps.{eliminate_sub, numbered_points}
pub use Rattle.elimination_meaning.proofs.Sublists.{sub_all}
pub use Rattle.elimination_meaning.specs.Elimination.{Vertex, numbered, remaining}
unfoldable pub use Rattle.elimination_meaning.specs.Elimination.{is_before, reduce, reduced}
pub use Rattle.elimination_meaning.specs.Laws.{DirectionLaw, EndsStay, NoneIsNew, ZeroLaw}
pub use Rattle.elimination_meaning.specs.Sublists.{Sublist, keep, none, skip}
pub use Rattle.guarded_meaning.specs.Elimination.{remaining_arcs}
unfoldable pub use Rattle.guarded_meaning.specs.Elimination.{goes_before, reduce_arcs, reduced_arcs}
pub use Rattle.guarded_meaning.specs.Guards.{guarded_by, is_long}
unfoldable pub use Rattle.guarded_meaning.specs.Guards.{is_free, keeps_rings}
pub use Rattle.guarded_meaning.specs.Laws.{ArcsRise, CrossingsNeverRise, FewerArcsLaw, NoneStaysNone, RingsStay, UnguardedIndexLaw}
pub use Rattle.guarded_meaning.specs.Lists.{EachTo, IsThinned}
pub use Rattle.build_meaning.specs.ArcPositions.{arc_positions, crossings_of}
pub use Rattle.build_meaning.specs.Assembled.{arc_indexes, arcs_of_layers, assembled_cause, layers_caused, option_caused}
unfoldable pub use Rattle.build_meaning.specs.Assembled.{assembled, assembled_dropped, assembled_removed_count}
pub use Rattle.build_meaning.specs.Built.{all_arcs, kept_refs, positions_of, untrimmed}
unfoldable pub use Rattle.build_meaning.specs.Built.{built, removed_count}
pub use Rattle.build_meaning.specs.BuiltLaws.{AreSound, DecodesBack, EachSegmentOnce, IsRingIfClosed, IsSound, IsValid, LosesNothing, whole_line}
pub use Rattle.build_meaning.specs.Celled.{EachCell, IsOnGrid, LiesBack, feature_celled, object_celled, objects_celled}
unfoldable pub use Rattle.build_meaning.specs.Celled.{celled}
pub use Rattle.build_meaning.specs.DroppableLines.{DroppableLine, area_droppable_lines, droppable_lines_step, free, hole, if_kept}
unfoldable pub use Rattle.build_meaning.specs.DroppableLines.{droppable_lines}
pub use Rattle.build_meaning.specs.Expected.{cleaned, expected_feature, is_small, kept_line, own_cause, own_pieces, rebuilt, unless}
unfoldable pub use Rattle.build_meaning.specs.Expected.{expected, expected_dropped}
pub use Rattle.build_meaning.specs.GridLaws.{BuiltCellsAreOn, BuiltDecodesQuantized, BuiltIsValidQuantized, EachFeature, IsSnapped, Keeps, QuantizedDecodes, QuantizedIsValid, QuantizedKeeps, SnappedAreOn, SnappedKeep, all_features}
unfoldable pub use Rattle.build_meaning.specs.GridTransforms.{transform_of}
pub use Rattle.build_meaning.specs.InTurn.{all_indexes, cause_in_turn, drops_in_turn, first_whole, goes_first, indexes_from_first, indexes_in_turn, judged, left_at_first, left_in_turn, paired_step, rings_paired, spread, without_small}
unfoldable pub use Rattle.build_meaning.specs.InTurn.{dropped_in_turn, layers_dropped_in_turn, paired}
pub use Rattle.build_meaning.specs.InTurnLaws.{FirstIsLeftAtZero, FirstOfBuilt, InTurnIsAtOnce, IsLeftAtOnce, SameRingsAtFirst, SameRingsStay, ShapesStayInTurn, WithoutSmallCrossesNoMore, WithoutSmallIsValid, WithoutSmallKeeps, WithoutSmallOnGrid, refs_in_turn}
pub use Rattle.build_meaning.specs.Layers.{Named, features_lines_and_rings, layers_of, named_lines_and_rings, names_of}
pub use Rattle.build_meaning.specs.LayersMarked.{unprotected_cause}
unfoldable pub use Rattle.build_meaning.specs.LayersMarked.{greatest_of_layers}
pub use Rattle.build_meaning.specs.Left.{Left, guard_of, left_arcs, left_indexes, no_guards, protection_of, rings_to_stay}
unfoldable pub use Rattle.build_meaning.specs.Left.{left_of}
pub use Rattle.build_meaning.specs.LeftLaws.{ArcsRetainedAreReduced, CrossingsNeverRise as LeftCrossingsNeverRise, GreatestRingIsGreatest, HasRing, IsAlikeOnGrid, KeepsRings, LeftArcsAreReduced, LeftIndexesReach, LeftIsValid, LeftKeeps, LeftOnGrid, NoneIsGreatest, NoneStaysNone as LeftNoneStaysNone, ShapesStay, SparedCellsAreOn, SparedIsValid, SparedKeeps, SparedNestsNoDeeper, UnguardedIsBuilt, UnguardedIsSimplified, UnprotectedIsSimplified}
pub use Rattle.build_meaning.specs.Objects.{Kept, feature_by, features_by, objects_by}
pub use Rattle.build_meaning.specs.OuterRings.{along, ends_here, into_part, marked_step, outer_ring, outer_rings_step, rings_marked, unmarked}
unfoldable pub use Rattle.build_meaning.specs.OuterRings.{marked, outer_rings}
pub use Rattle.build_meaning.specs.Protected.{MarkedRefs, Protection, cause_sparing, enclosed, feature_spared, greater, greatest, no_protection, object_spared, objects_spared, option_unprotected, protected_of, protected_rings, protection, shape_marked, spared_whole, sparing}
unfoldable pub use Rattle.build_meaning.specs.Protected.{greatest_ring, spared_by, spared_dropped, spared_removed_count}
pub use Rattle.build_meaning.specs.Quantized.{AreInputs, IsCount, IsOn, named_grid, named_points, quantized, snapped_named}
pub use Rattle.build_meaning.specs.Simplified.{EachFromFirstToLast, FromFirstToLast, Refs, feature_pruned, large_refs, objects_pruned, option_small, retained, retained_arcs, retained_whole, small_cause}
unfoldable pub use Rattle.build_meaning.specs.Simplified.{dropped_by, removed_count_by, simplified_by}
pub use Rattle.build_meaning.specs.SimplifiedLaws.{ArcIndexesReach, AssemblesToBuilt, AssemblingDropsExpected, AssemblingRemoves, BuiltDecodesOnGrid, BuiltIsValidOnGrid, CelledDecodes, CelledIsValid, DecodesBackOnGrid, IndexesReach, RetainedIsReduced, SimplifiedKeeps, labels}
pub use Rattle.build_meaning.specs.Thresholds.{placed_cells, reduced_indexes}
pub use Rattle.build_meaning.specs.Trimming.{feature_renumbered, is_used, keep_from, line_renumbered, new_index_from, object_renumbered, renumbered}
unfoldable pub use Rattle.build_meaning.specs.Trimming.{trimmed}
pub use Rattle.build_meaning.specs.declared.guards.Guards.{Guards}
