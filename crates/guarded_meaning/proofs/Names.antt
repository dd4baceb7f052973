-- The names that several proofs of this crate cite, passed on from one place.
pub use Rattle.std.proofs.lemmas.Bool.{false_from_ne_true, and_parts, or_cases, or_parts, not-true, or_right, both_ways, and_from, and_left, and_right, cases_lt, ltb-true, lt-ltb, le-ltb, or_from, ne_eqb, or_left, and_cases, not-false, not_from_true, not_from_false, true≢false, le-leb, leb-true}
pub use Rattle.std.proofs.lemmas.Bool.Decides.{nat_tests, Decides-int_eq}
pub use Rattle.std.proofs.lemmas.Int.{ints}
pub use Rattle.std.proofs.lemmas.List.{map-append, length-append, length-map}
pub use Rattle.std.proofs.lemmas.List.Elements.{filter-append, filter_agree}
pub use Rattle.std.proofs.lemmas.List.Sums.{sum_by-cons, sum_by-append}
pub use Rattle.std.specs.List.{AllByRecursion, filter, count_by, list_all}
pub use Rattle.std.specs.Ordering.{ordering_then, ordering_reverse, is_lt, nat_cmp}
pub use Rattle.std.specs.declared.cmp.Ordering.TheVariants.{Equal}
pub use lib.IntN.{*ℤ_comm, zero-*ℤ, *ℤ-zero}
pub use Rattle.owned_values.proofs.Elements.{all_of, each_of, all_two, all_passed, all_weaker, all_right, all_of_map, all_append, all_map, all_made}
pub use Rattle.owned_values.proofs.Members.{in_left, in_right, in_append}
pub use Rattle.owned_values.proofs.Tests.{holds_of_chosen, chosen_of}
pub use Rattle.geometry.proofs.Areas.{sub_times_sub, cross_turned, sub_times, times_sub}
pub use Rattle.geometry.proofs.Points.{same_is, same_self}
unfoldable pub use Rattle.geometry.specs.Areas.{cross, twice_area}
pub use Rattle.geometry.specs.Joins.{at, or_empty, arc_at, stitched, joined_after_first}
unfoldable pub use Rattle.geometry.specs.Joins.{number_of}
pub use Rattle.geometry.specs.Lists.{In, map_some, joined, all_but_last_of, all_but_last, interior, AreDistinct}
pub use Rattle.geometry.specs.Points.{Point}
unfoldable pub use Rattle.geometry.specs.Rings.{same}
pub use Rattle.junctions.proofs.Members.{in_filter, from_filter}
pub use Rattle.junctions.specs.Cleaning.{clean, is_short, clean_from}
pub use Rattle.elimination_meaning.proofs.Steps.{Holds, numbered_points}
pub use Rattle.elimination_meaning.proofs.Sublists.{sub_filter, sub_map, sub_apart, sub_all, sub_same, sub_chain, sub_tail}
pub use Rattle.elimination_meaning.specs.Elimination.{Vertex, numbered, without, Corner, corner_at, corners, corners_from, lesser, least, without_under, next, eliminate}
unfoldable pub use Rattle.elimination_meaning.specs.Elimination.{is_before, reduced, reduce}
pub use Rattle.elimination_meaning.specs.Sublists.{Sublist, none, keep, skip}
pub use Rattle.elimination_meaning.specs.Weights.{is_kept_at}
pub use Rattle.guarded_meaning.specs.NextLaws.{NextLaw, NoNextLaw, FreeOrHeld, HeldIsNotFree, HolderStays, NeverAgain}
pub use Rattle.guarded_meaning.specs.Arcs.{ArcCorner, all_corners, without_at, left_by, points_of, HasOwnIndexes, arc_corner_at, arc_corners_from, arc_corners, Place, place_at, places, is_place_of, Neighbours, segment_of, all_neighbours, is_pair_of, neighbours_at, neighbours_from, neighbours, arc_segments, segments, crossings}
pub use Rattle.guarded_meaning.specs.Elimination.{earlier, first_corner, Guard, arc_corner_cmp, goes, next_corner, next_arcs, eliminate_arcs, remaining_arcs}
unfoldable pub use Rattle.guarded_meaning.specs.Elimination.{goes_before, reduced_arcs, reduce_arcs}
pub use Rattle.guarded_meaning.specs.Guards.{is_long, uses, guarded_by, has_empty_triangle, has_open_base, ring_of}
unfoldable pub use Rattle.guarded_meaning.specs.Guards.{is_free, keeps_rings}
pub use Rattle.guarded_meaning.specs.Laws.{RingsStay, IsInBox, BoxLaw, CountedByWeight, UnguardedLaw, UnguardedIndexLaw, ThinnedLaw, ArcsRise, NoneGoes, KeptByWeight, IsBeyondNone, SideLaw, EitherWay, StepLaw, CrossingsNeverRise, NoneStaysNone, FewerArcsLaw, HigherKeepsFewer, ShareIsGreatest, ShareStays, NoCrossingsLaw}
pub use Rattle.guarded_meaning.specs.Lists.{EachTo, last_after, HasEndsOf, IsThinned}
pub use Rattle.guarded_meaning.specs.Segments.{is_flat, is_between, segment, segments_from, line_segments, has_length, Segment, is_end, is_touched, bad_pairs}
unfoldable pub use Rattle.guarded_meaning.specs.Segments.{is_on, same_ends, meets_badly, touches, separates, crosses}
pub use Rattle.guarded_meaning.specs.Shares.{known, count_kept, keeps_share, greatest, chosen, IsGreatestShare}
unfoldable pub use Rattle.guarded_meaning.specs.Shares.{share}
pub use Rattle.guarded_meaning.specs.Triangles.{none_right, none_left, is_clear}
unfoldable pub use Rattle.guarded_meaning.specs.Triangles.{in_triangle}
pub use Rattle.guarded_meaning.specs.Weights.{weight, passing, interior_places, interior_weights, interior_count, weight_from}
