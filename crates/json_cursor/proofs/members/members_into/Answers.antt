use Rattle.std.proofs.lemmas.Result.{err_from_is_err_and}
use Rattle.json_cursor.proofs.MemberParts as part
use Rattle.json_cursor.proofs.members.members_into.Goals as goal

pub returns-in_err-following : goal.returns-in_err-following
returns-in_err-following g c =
    let p = err_from_is_err_and c.from_residual.result c.from_residual.ensures.1 in
    rw (p.1, p.2)
    (part.no_member (g.T.Members.holds c.args.with c.args.depth_left) _ _ _ _ _ _ _ c.members.invariant c.members-test.true _ (rw c.skip.ensures at c.in_err-following.ensures))

pub returns-in-Some : goal.returns-in-Some
returns-in-Some g c =
    part.ends (g.T.Members.holds c.args.with c.args.depth_left) _ _ _ _ _ _ _ c.members.invariant c.members-test.true _ _ (rw c.skip.ensures at c.in_ok-following.ensures) _ (rw c.skip-mark.ensures at c.in-Some.ensures)

pub returns-in_default-after_byte : goal.returns-in_default-after_byte
returns-in_default-after_byte g c =
    part.malformed _ _ c.broken.ensures
    (part.breaks (g.T.Members.holds c.args.with c.args.depth_left) _ _ _ _ _ _ _ c.members.invariant c.members-test.true _ _ (rw c.skip.ensures at c.in_ok-following.ensures) (rw c.skip-mark.ensures at c.in_default.ensures) (rw c.skip-mark.ensures at c.in_default-after_byte.ensures))

pub members-preserved : goal.members-preserved
members-preserved g c =
    part.goes_on (g.T.Members.holds c.args.with c.args.depth_left) _ _ _ _ _ _ _ c.members.invariant c.members-test.true _ _ (rw c.skip.ensures at c.in_ok-following.ensures) _ (rw c.skip-mark.ensures at c.in-Some-after_byte.ensures)

pub returns : goal.returns
returns g c =
    part.malformed _ _ c.broken-2.ensures (part.turns_over (g.T.Members.holds c.args.with c.args.depth_left) _ _ _ _ _ _ _ c.members.invariant c.members-test.false)
