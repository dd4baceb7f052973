use Rattle.topojson_meaning.specs.declared.fault.TopoFault.TheVariants.{WrongKind}
use Rattle.json_cursor.specs.Arrays.{prefix_value}
use Rattle.json_cursor.proofs.ArrayParts as part
use Rattle.topojson_decoder.specs.Pairs.{both}
use Rattle.topojson_decoder.proofs.PairParts.{empty_pair}
use Rattle.topojson_decoder.proofs.pairs.pair_at.Goals as goal

pub returns-in-NoArray-clause-answers : goal.returns-in-NoArray-clause-answers
returns-in-NoArray-clause-answers c = λ counts. part.not_an_array WrongKind (both c.args.scale) counts (prefix_value c.args.depth_left c.args.bytes.now) (rw c.in-NoArray.is at c.opening_at-opening.ensures)

pub returns-in-Empty-clause-answers : goal.returns-in-Empty-clause-answers
returns-in-Empty-clause-answers c = λ counts. empty_pair c.args.scale counts (prefix_value c.args.depth_left c.args.bytes.now) _ (rw c.in-Empty.is at c.opening_at-opening.ensures)

pub returns-in-Filled-clause-answers : goal.returns-in-Filled-clause-answers
returns-in-Filled-clause-answers c = λ counts. part.array_answers WrongKind (both c.args.scale) counts (prefix_value c.args.depth_left c.args.bytes.now) _ (rw c.in-Filled.is at c.opening_at-opening.ensures) (λ x. x) counts c.both_at.result (c.both_at.ensures.answers counts)
