use Rattle.std.specs.Str.{is_utf8}
use Rattle.json_value.specs.Reading.{value_at}
use Rattle.geojson_model.proofs.PositionParts as part
use Rattle.geojson_model.proofs.positions.position_at.Goals as goal

pub returns-in-NoArray : goal.returns-in-NoArray
returns-in-NoArray c = part.not_an_array c.args.exact c.args.counts.now (value_at is_utf8 c.args.depth_left c.args.bytes.now) (rw c.in-NoArray.is at c.opening_at-opening.ensures)

pub returns-in-Empty : goal.returns-in-Empty
returns-in-Empty c = part.no_elements c.args.exact c.args.counts.now (value_at is_utf8 c.args.depth_left c.args.bytes.now) _ (rw c.in-Empty.is at c.opening_at-opening.ensures)

pub returns-in-Filled : goal.returns-in-Filled
returns-in-Filled c = part.by_elements c.args.exact c.args.counts.now (value_at is_utf8 c.args.depth_left c.args.bytes.now) _ (rw c.in-Filled.is at c.opening_at-opening.ensures) _ c.numbers_at.result c.numbers_at.ensures
