use Rattle.std.proofs.Common.{length}
use Rattle.json_cursor.specs.Members.{prefix_members}
use Rattle.topojson_decoder.proofs.LostParts.{SeenSoFar}
use Rattle.topojson_decoder.proofs.index.members_into.Given as goal

abbrev pub invariant-members : goal.invariant-members
invariant-members l = SeenSoFar l.start l.depth_left (length l.inside) (prefix_members l.depth_left (length l.inside) l.inside) l.fn.index l.counter l.rest l.index
