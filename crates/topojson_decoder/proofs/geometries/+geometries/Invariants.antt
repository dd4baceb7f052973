use Rattle.std.proofs.Common.{◌+◌, ◌*◌, length}
use Rattle.std.specs.Option.{option_copied}
use Rattle.json_cursor.specs.Members.{prefix_members}
use Rattle.json_cursor.proofs.KeptSoFar.{ReadSoFar}
use Rattle.json_cursor.proofs.MemberParts.{MembersSoFar}
use Rattle.topojson_meaning.specs.Shapes.{shape}
use Rattle.topojson_decoder.specs.Geometries.{IsParts}
use Rattle.topojson_decoder.proofs.geometries.+geometries.Given as goal

abbrev pub decreases-geometries_at : goal.decreases-geometries_at
decreases-geometries_at l = 8 * l.depth_left

abbrev pub decreases-member_value : goal.decreases-member_value
decreases-member_value l = 8 * l.depth_left + 1

abbrev pub decreases-member_at : goal.decreases-member_at
decreases-member_at l = 8 * l.depth_left + 2

abbrev pub decreases-members_after : goal.decreases-members_after
decreases-members_after l = 8 * l.depth_left + 3

abbrev pub decreases-members_at : goal.decreases-members_at
decreases-members_at l = 8 * l.depth_left + 4

abbrev pub decreases-geometry_into : goal.decreases-geometry_into
decreases-geometry_into l = 8 * l.depth_left + 5

abbrev pub decreases-held_geometry_at : goal.decreases-held_geometry_at
decreases-held_geometry_at l = 8 * l.depth_left + 6

abbrev pub decreases-geometries_after : goal.decreases-geometries_after
decreases-geometries_after l = 8 * l.depth_left + 7

abbrev pub invariant-members_after-members : goal.invariant-members_after-members
invariant-members_after-members l =
    MembersSoFar (IsParts l.start l.depth_left) l.depth_left (length l.inside) (prefix_members l.depth_left (length l.inside) l.inside) l.fn.parts l.counter l.rest l.parts

abbrev pub invariant-geometries_after-geometries : goal.invariant-geometries_after-geometries
invariant-geometries_after-geometries l = ReadSoFar (shape (option_copied l.by.transform) l.by.arcs.now) l.depth_left (length l.inside) l.inside l.fn.counts l.turn l.rest l.read.items l.counts
