use Rattle.std.proofs.Common.{length}
use Rattle.json_cursor.specs.Members.{prefix_members}
use Rattle.json_cursor.proofs.MemberParts.{MembersSoFar}
use Rattle.json_cursor.proofs.members.members_into.Given as goal

abbrev pub invariant-members : goal.invariant-members
invariant-members g l =
    MembersSoFar (g.T.Members.holds l.with l.depth_left) l.depth_left (length l.inside) (prefix_members l.depth_left (length l.inside) l.inside) l.fn.made l.counter l.rest l.made
