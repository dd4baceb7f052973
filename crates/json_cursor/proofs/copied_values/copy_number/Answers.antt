use Rattle.std.proofs.lemmas.Result.{err_from_is_err_and}
use Rattle.json_cursor.proofs.Copied.{number_copied}
use Rattle.json_cursor.proofs.Failed.{number_fails}
use Rattle.json_cursor.proofs.copied_values.copy_number.Goals as goal

pub returns : goal.returns
returns c = number_copied c.args.bytes.now _ _ c.args.text.now.items _ c.in_ok-rest.ensures c.split_at.ensures.front c.in_ok-extend_from_slice.ensures.items

pub returns-in_err-rest : goal.returns-in_err-rest
returns-in_err-rest c =
    let p = err_from_is_err_and c.from_residual.result c.from_residual.ensures.1 in
    rw (p.1, p.2) (number_fails c.args.bytes.now _ c.in_err-rest.ensures)
