use Rattle.std.proofs.Common.{None}
use Rattle.std.proofs.lemmas.Result.{err_from_is_err_and}
use Rattle.json_cursor.specs.Arrays.{array_by}
use Rattle.json_cursor.specs.Folds.{fold}
use Rattle.topojson_meaning.specs.declared.fault.TopoFault.TheVariants.{WrongKind}
use Rattle.topojson_decoder.specs.Transforms.{take}
use Rattle.topojson_decoder.proofs.TransformParts.{texts_held}
use Rattle.topojson_decoder.proofs.transforms.texts_at.Goals as goal

pub returns-in_err-read : goal.returns-in_err-read
returns-in_err-read c =
    let p = err_from_is_err_and c.from_residual.result c.from_residual.ensures.1 in
    rw (p.1, p.2) (c.in_err-read.ensures (array_by WrongKind (fold take (record { x = None; y = None }))) c.none-counts.result c.elements_at-answer.new.counts c.elements_at-answer.ensures)

pub returns : goal.returns
returns c =
    let found = c.in_ok-read.ensures (array_by WrongKind (fold take (record { x = None; y = None }))) c.none-counts.result c.elements_at-answer.new.counts c.elements_at-answer.ensures in
    (found.0, found.1, rw c.both_of.ensures (texts_held found.0 c.none-counts.result c.elements_at-answer.new.counts c.in_ok-read.read found.2))
