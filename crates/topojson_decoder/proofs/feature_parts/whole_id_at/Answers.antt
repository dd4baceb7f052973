use Rattle.std.proofs.Common.{ap, sym, arith}
use Rattle.std.proofs.lemmas.Result.{err_from_is_err_and}
use Rattle.std.specs.Str.{is_utf8}
use Rattle.json_value.specs.declared.json.Json.TheVariants as j
use Rattle.json_reading.proofs.Opened.{number_found, number_fails}
use Rattle.topojson_meaning.specs.Features.{identifier_in}
use Rattle.topojson_decoder.proofs.feature_parts.whole_id_at.Goals as goal

pub returns-in_err-number : goal.returns-in_err-number
returns-in_err-number c =
    let p = err_from_is_err_and c.from_residual.result c.from_residual.ensures.1 in
    rw (p.1, p.2) (number_fails is_utf8 c.args.depth_left _ c.args.bytes.now _ c.in-Some.ensures (omega arith) (omega arith) (omega arith) (omega arith) (omega arith) (omega arith) _ c.in_err-number.ensures)

pub returns : goal.returns
returns c =
    (j.Number c.in_ok-number.number, number_found is_utf8 c.args.depth_left _ c.args.bytes.now _ c.in-Some.ensures (omega arith) (omega arith) (omega arith) (omega arith) (omega arith) (omega arith) _ _ c.in_ok-number.ensures, sym (ap identifier_in (j.outs-Number c.in_ok-number.number)))
