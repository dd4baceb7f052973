use Rattle.std.proofs.Common.{false, true}
use Rattle.std.specs.Str.{is_utf8}
use Rattle.std.proofs.lemmas.Result.{err_from_is_err_and}
use Rattle.json_value.specs.Reading.{document}
use Rattle.json_reading.proofs.Steps.{none_fails}
use Rattle.json_reading.proofs.Passed.{first_fails}
use Rattle.json_reading.proofs.Texts.{document_by}
use Rattle.json_reading.proofs.checking.document.Goals as goal

pub returns-in_err-rest : goal.returns-in_err-rest
unfolding document
returns-in_err-rest c =
    let p = err_from_is_err_and c.from_residual.result c.from_residual.ensures.1 in
    rw (p.1, p.2) (first_fails _ _ _ (rw c.skip.ensures at c.in_err-rest.ensures))

pub returns-then-not-is_empty : goal.returns-then-not-is_empty
returns-then-not-is_empty c =
    none_fails _ _ (document_by is_utf8 c.args.deepest c.args.bytes.now _ _ _ false (rw c.skip.ensures at c.in_ok-rest.ensures).1 c.skip-rest.ensures c.if-not-is_empty.ensures)

pub returns : goal.returns
returns c = (_, document_by is_utf8 c.args.deepest c.args.bytes.now _ _ _ true (rw c.skip.ensures at c.in_ok-rest.ensures).1 c.skip-rest.ensures c.if-not-is_empty.ensures)
