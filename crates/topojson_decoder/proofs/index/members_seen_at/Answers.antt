use Rattle.std.proofs.Common.{◌-◌, [], arith, inl, inr}
use Rattle.std.proofs.lemmas.Result.{err_from_is_err_and}
use Rattle.json_reading.specs.declared.fault.Fault.TheVariants as text
use Rattle.json_reading.specs.declared.fault.Why.TheVariants as why
use Rattle.json_cursor.proofs.MemberParts.{malformed}
use Rattle.json_cursor.proofs.Openings.{is_no_object, object_deep, no_members, some_members, members_fail}
use Rattle.topojson_decoder.proofs.index.members_seen_at.Goals as goal

pub returns-in_default : goal.returns-in_default
returns-in_default c = is_no_object c.args.depth_left c.args.bytes.now c.in_default.ensures

pub returns-then-depth_left-eq0 : goal.returns-then-depth_left-eq0
returns-then-depth_left-eq0 c = malformed _ _ c.broken.ensures (object_deep c.args.depth_left c.args.bytes.now _ c.in-Some.ensures c.if-depth_left-eq0.true)

pub returns-in-Some-after_byte : goal.returns-in-Some-after_byte
returns-in-Some-after_byte c = (
  omega (arith, c.if-depth_left-eq0.false),
  inl (record {
    members = [];
    prefix = no_members c.args.depth_left c.args.bytes.now _ c.in-Some.ensures c.if-depth_left-eq0.false _ (rw c.skip.ensures at c.in-Some-after_byte.ensures);
    index = c.none-index.ensures c.args.start (c.args.depth_left - 1);
  }),
)

pub returns-in_err-rest : goal.returns-in_err-rest
returns-in_err-rest c =
    let p = err_from_is_err_and c.from_residual.result c.from_residual.ensures.1 in
    rw (p.1, p.2) (members_fail c.args.depth_left c.args.bytes.now _ c.in-Some.ensures c.if-depth_left-eq0.false (rw c.skip.ensures at c.in_default-after_byte.ensures) _ c.in_err-rest.ensures)

pub returns : goal.returns
returns c = (
  omega (arith, c.if-depth_left-eq0.false),
  elim c.in_ok-rest.ensures [
    | inl taken ↦ inl (record {
      members = taken.members;
      prefix = some_members c.args.depth_left c.args.bytes.now _ c.in-Some.ensures c.if-depth_left-eq0.false (rw c.skip.ensures at c.in_default-after_byte.ensures) taken.members _ taken.prefix;
      index = taken.holds (c.none-index.ensures c.args.start (c.args.depth_left - 1));
    })
    | inr lost ↦ inr (
      members_fail c.args.depth_left c.args.bytes.now _ c.in-Some.ensures c.if-depth_left-eq0.false (rw c.skip.ensures at c.in_default-after_byte.ensures) (text.Malformed why.Syntax 0) lost.0,
      lost.1,
    )
  ],
)
