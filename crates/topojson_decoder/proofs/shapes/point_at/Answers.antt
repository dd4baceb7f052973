use Rattle.std.proofs.Common.{length}
use Rattle.std.specs.Option.{option_copied}
use Rattle.std.specs.Str.{is_utf8}
use Rattle.json_value.specs.Reading.{value_at}
use Rattle.json_cursor.specs.Arrays.{prefix_value}
use Rattle.topojson_decoder.proofs.ShapeParts as part
use Rattle.topojson_decoder.proofs.shapes.point_at.Goals as goal

pub returns-in-Empty : goal.returns-in-Empty
returns-in-Empty c = rw c.count_empty.ensures (part.empty_point (option_copied c.args.transform) c.args.counts.now (prefix_value c.args.depth_left c.args.bytes.now) _ (rw c.in-Empty.is at c.opening_at-opening.ensures))

pub returns-in-NoArray : goal.returns-in-NoArray
returns-in-NoArray c = part.no_point (option_copied c.args.transform) c.args.counts.now (prefix_value c.args.depth_left c.args.bytes.now) (rw c.in-NoArray.is at c.opening_at-opening.ensures)

pub returns-in-Err : goal.returns-in-Err
returns-in-Err c = part.point_stops (option_copied c.args.transform) c.args.counts.now (prefix_value c.args.depth_left c.args.bytes.now) (value_at is_utf8 _) (length c.opening_at-opening.result.1.now) c.opening_at-opening.result.1.now (rw c.in-Filled.is at c.opening_at-opening.ensures) c.in-Err.stop c.in-Err.ensures

pub returns-in-Ok : goal.returns-in-Ok
returns-in-Ok c = part.point_reads (option_copied c.args.transform) c.args.counts.now (prefix_value c.args.depth_left c.args.bytes.now) (value_at is_utf8 _) (length c.opening_at-opening.result.1.now) c.opening_at-opening.result.1.now (rw c.in-Filled.is at c.opening_at-opening.ensures) _ _ _ c.in-Ok.ensures
