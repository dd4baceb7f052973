use Rattle.std.proofs.lemmas.Result.{err_from_is_err_and}
use Rattle.json_cursor.proofs.MemberParts.{malformed}
use Rattle.topojson_decoder.proofs.LostParts as part
use Rattle.topojson_decoder.proofs.index.members_into.Goals as goal

pub returns-in_err-following : goal.returns-in_err-following
returns-in_err-following c =
    let p = err_from_is_err_and c.from_residual.result c.from_residual.ensures.1 in
    rw (p.1, p.2) (part.no_member c.args.start c.args.depth_left _ _ _ _ _ _ c.members.invariant c.members-test.true _ (rw c.skip.ensures at c.in_err-following.ensures))

pub returns-in-Some : goal.returns-in-Some
returns-in-Some c = part.ends c.args.start c.args.depth_left _ _ _ _ _ _ c.members.invariant c.members-test.true _ c.in_ok-following.following (rw c.skip.ensures at c.in_ok-following.ensures) c.in-Some.end (rw c.skip-mark.ensures at c.in-Some.ensures)

pub returns-in_default-after_byte : goal.returns-in_default-after_byte
returns-in_default-after_byte c =
    malformed _ _ c.broken.ensures
    (part.breaks c.args.start c.args.depth_left _ _ _ _ _ _ c.members.invariant c.members-test.true _ c.in_ok-following.following (rw c.skip.ensures at c.in_ok-following.ensures) (rw c.skip-mark.ensures at c.in_default.ensures) (rw c.skip-mark.ensures at c.in_default-after_byte.ensures))

pub members-preserved : goal.members-preserved
members-preserved c = part.goes_on c.args.start c.args.depth_left _ _ _ _ _ _ c.members.invariant c.members-test.true _ c.in_ok-following.following (rw c.skip.ensures at c.in_ok-following.ensures) _ (rw c.skip-mark.ensures at c.in-Some-after_byte.ensures)

pub returns : goal.returns
returns c = malformed _ _ c.broken-2.ensures (part.turns_over c.args.start c.args.depth_left _ _ _ _ _ _ c.members.invariant c.members-test.false)
