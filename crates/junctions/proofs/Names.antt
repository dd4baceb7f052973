-- The names that several proofs of this crate cite, passed on from one place.
pub use Rattle.std.proofs.Math.Bool.{and-false, or-false, or-true, or_assoc}
pub use Rattle.std.proofs.lemmas.Bool.{or_parts, and_parts}
pub use Rattle.std.proofs.lemmas.Bool.Decides.{nat_tests}
pub use Rattle.std.proofs.lemmas.Grind.{flat_map-append}
pub use Rattle.std.proofs.lemmas.List.{take_all, take_more, map-append, length-append, length-drop, length-take-le}
pub use Rattle.std.proofs.lemmas.List.Folds.{list_any-append, list_any_more}
pub use Rattle.std.proofs.lemmas.Option.{slice_get-get_or, slice_get_within, get_or_from_slice_get, slice_get_read}
pub use Rattle.std.specs.List.{filter, flat_map, list_any, list_all, AllByRecursion, position_or_len, position}
pub use Rattle.owned_values.proofs.Members.{in_left, in_right, in_append, in_from_any}
pub use Rattle.owned_values.specs.Lists.{AreDistinct}
pub use Rattle.geometry.proofs.Points.{same_is, same_self}
pub use Rattle.geometry.specs.Order.{is_least, is_before, least_of}
pub use Rattle.geometry.specs.Points.{Point}
unfoldable pub use Rattle.geometry.specs.Rings.{same, is_closed, is_ring}
pub use Rattle.junctions.specs.Among.{In}
pub use Rattle.junctions.specs.Answers.{Answers, AnswersFor, is_member}
pub use Rattle.junctions.specs.Cleaning.{clean, clean_from, is_short, Moves, IsClean, IsCleanList, AllClean}
pub use Rattle.junctions.specs.Cuts.{is_cut, starts_free_ring}
pub use Rattle.junctions.specs.Kept.{passed, at_junction, at_cut, at_once, junction_at, chosen, kept_of, with_number}
pub use Rattle.junctions.specs.Reading.{AreNumbers, Represents, AllRepresent, Adds, AreClassified, all_ends, beside, line_ends, line_visits, turns, with_position, with_positions}
pub use Rattle.junctions.specs.Visits.{Visit, all_visits, ends_open, first_seen, inner_visits, is_end, is_junction, is_position_of, last, positions, visits, distinct, visits_at, visits_from}
pub use Rattle.junctions.specs.declared.stroke.Stroke.{Stroke}
pub use Rattle.junctions.specs.declared.vertex.Vertex.{Vertex}
pub use Rattle.junctions.specs.declared.vertex.Vertex.TheVariants.{Unvisited, Once, Between, Junction, RingStart}
