use Rattle.std.proofs.lemmas.Result.{err_from_is_err_and}
use Rattle.std.specs.Str.{is_utf8}
use Rattle.json_value.specs.Reading.{name_at}
use Rattle.json_reading.proofs.Passed.{first_fails, name_passed}
use Rattle.json_reading.proofs.checked_values.after_name.Goals as goal

pub returns-in_err-rest : goal.returns-in_err-rest
unfolding name_at
returns-in_err-rest c =
    let p = err_from_is_err_and c.from_residual.result c.from_residual.ensures.1 in
    rw (p.1, p.2) (first_fails _ _ _ c.in_err-rest.ensures)

pub returns : goal.returns
returns c = name_passed is_utf8 c.args.bytes.now _ c.in_ok-rest.ensures c.after_string.result c.after_string.ensures
