use Rattle.std.proofs.Common.{sym}
use Rattle.topojson_decoder.proofs.TransformParts as by
use Rattle.topojson_decoder.proofs.transforms.numbers_of.Goals as goal

pub returns-in-Err : goal.returns-in-Err
returns-in-Err c = λ counts. by.first_range c.args.texts counts c.in-Err.fault (sym c.in-Err.ensures)

pub returns-in-Err-number_of : goal.returns-in-Err-number_of
returns-in-Err-number_of c = λ counts. by.second_range c.args.texts counts c.in-Ok.x (sym c.in-Ok.ensures) c.in-Err-number_of.fault (sym c.in-Err-number_of.ensures)

pub returns-in-Ok-number_of : goal.returns-in-Ok-number_of
returns-in-Ok-number_of c = λ counts. by.pair_is c.args.texts counts c.in-Ok.x (sym c.in-Ok.ensures) c.in-Ok-number_of.y (sym c.in-Ok-number_of.ensures)
