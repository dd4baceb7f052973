use Rattle.std.proofs.Common.{[], arith}
use Rattle.std.proofs.lemmas.Result.{err_from_is_err_and}
use Rattle.json_cursor.proofs.MemberParts.{malformed}
use Rattle.json_cursor.proofs.Openings.{is_no_object, object_deep, no_members, some_members, members_fail}
use Rattle.json_cursor.proofs.members.object_into.Goals as goal

pub returns-in_default : goal.returns-in_default
returns-in_default g c = is_no_object c.args.depth_left c.args.bytes.now c.in_default.ensures

pub returns-then-depth_left-eq0 : goal.returns-then-depth_left-eq0
returns-then-depth_left-eq0 g c = malformed _ _ c.broken.ensures (object_deep c.args.depth_left c.args.bytes.now _ c.in-Some.ensures c.if-depth_left-eq0.true)

pub returns-in-Some-after_byte : goal.returns-in-Some-after_byte
returns-in-Some-after_byte g c = record {
  depth_left = omega (arith, c.if-depth_left-eq0.false);
  members = [];
  prefix = no_members c.args.depth_left c.args.bytes.now _ c.in-Some.ensures c.if-depth_left-eq0.false _ (rw c.skip.ensures at c.in-Some-after_byte.ensures);
  holds = λ h. h;
}

pub returns-in_err-rest : goal.returns-in_err-rest
returns-in_err-rest g c =
    let p = err_from_is_err_and c.from_residual.result c.from_residual.ensures.1 in
    rw (p.1, p.2)
    (members_fail c.args.depth_left c.args.bytes.now _ c.in-Some.ensures c.if-depth_left-eq0.false (rw c.skip.ensures at c.in_default-after_byte.ensures) _ c.in_err-rest.ensures)

pub returns : goal.returns
returns g c =
    let made = c.in_ok-rest.ensures in
    record {
      depth_left = omega (arith, c.if-depth_left-eq0.false);
      members = made.members;
      prefix = some_members c.args.depth_left c.args.bytes.now _ c.in-Some.ensures c.if-depth_left-eq0.false (rw c.skip.ensures at c.in_default-after_byte.ensures) made.members _ made.prefix;
      holds = made.holds;
    }
