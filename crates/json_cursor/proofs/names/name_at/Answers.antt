use Rattle.std.proofs.lemmas.Result.{err_from_is_err_and}
use Rattle.json_cursor.proofs.MemberParts as part
use Rattle.json_cursor.proofs.names.name_at.Goals as goal

pub returns-in_default : goal.returns-in_default
returns-in_default c = λ d. part.malformed _ _ c.broken.ensures (part.no_quote c.args.bytes.now c.in_default.ensures d)

pub returns-in_err-name : goal.returns-in_err-name
returns-in_err-name c =
    let p = err_from_is_err_and c.from_residual.result c.from_residual.ensures.1 in
    rw (p.1, p.2) (part.no_name c.args.bytes.now c.in-Some.inside.now c.in-Some.ensures _ c.in_err-name.ensures)

pub returns-in_default-after_byte : goal.returns-in_default-after_byte
returns-in_default-after_byte c = λ d.
    part.malformed _ _ c.broken-in_default-after_byte.ensures
    (part.no_colon c.args.bytes.now c.in-Some.inside.now c.in-Some.ensures _ _ c.in_ok-name.ensures (rw c.skip.ensures at c.in_default-after_byte.ensures) d)

pub returns : goal.returns
returns c = λ d.
    rw c.skip-2.ensures
    (part.is_named c.args.bytes.now c.in-Some.inside.now c.in-Some.ensures _ _ c.in_ok-name.ensures c.in-Some-after_byte.following.now (rw c.skip.ensures at c.in-Some-after_byte.ensures) d)
