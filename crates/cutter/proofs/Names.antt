-- The names that several proofs of this crate cite, passed on from one place.
pub use Rattle.std.proofs.Math.Bool.{or-true}
pub use Rattle.std.proofs.lemmas.Bool.{or_parts, and_parts, cases_lt}
pub use Rattle.std.proofs.lemmas.List.{drop-append-le, length-append, length-take-le, reverse-append, take_all, length-drop, get_or-append_right, get_or-drop, length-map, map-append, take-append-le, take_more, drop-drop, length-take}
pub use Rattle.std.proofs.lemmas.List.Sums.{sum_by-append, sum_by-cons}
pub use Rattle.std.specs.List.{flat_map, list_any, slice_range, filter, count_by, list_all, AllByRecursion}
pub use Rattle.owned_values.proofs.Elements.{each_of, all_made, all_drop, all_of, all_take}
pub use Rattle.owned_values.proofs.Members.{any_from_in, in_append}
pub use Rattle.geometry.proofs.Moved.{Replaced, ends, turns}
pub use Rattle.geometry.proofs.Points.{same_self, same_is}
pub use Rattle.geometry.specs.Order.{is_before, least_of, is_least}
pub use Rattle.geometry.specs.Points.{Point}
unfoldable pub use Rattle.geometry.specs.Rings.{same}
pub use Rattle.junctions.proofs.Members.{in_filter, none_of, from_filter, get_in, in_flat}
pub use Rattle.junctions.specs.Answers.{Answers, is_member, AnswersFor}
pub use Rattle.junctions.specs.Cleaning.{Moves, IsClean, AllClean, IsCleanList}
pub use Rattle.junctions.specs.Cuts.{is_cut, starts_free_ring}
pub use Rattle.junctions.specs.Visits.{visits, visits_from, last, is_end, Visit, all_visits, visits_at, neighbors, distinct, ends_open, is_junction}
pub use Rattle.junctions.specs.declared.stroke.Stroke.{Stroke}
pub use Rattle.cutter.specs.Known.{AllKnown, IsReady}
pub use Rattle.cutter.specs.Pieces.{turned, pieces_of, joined, pieces, pieces_from, split_at, start_in, from_start, stitched, first_at}
pub use Rattle.cutter.specs.Places.{IsStructured, In, At, first, later, Apart, all_but_last_of, interior as interior_of}
pub use Rattle.cutter.specs.Segments.{segments, segments_from, Segment, line_segments, piece_segments, times}
unfoldable pub use Rattle.cutter.specs.Segments.{is_segment}
pub use Rattle.cutter.specs.SharedCuts.{AllRise, AreCutIndexes, AreEnds, cut_lines, own_indexes, split_lines_and_rings}
pub use Rattle.cutter.specs.Slices.{split_of, IsSplit, AllSplit, all_pieces, started, lines_and_rings, SplitLine, slices, indexes, split_by, EndsPass, IsRising, piece_lists, least_point, least_with}
