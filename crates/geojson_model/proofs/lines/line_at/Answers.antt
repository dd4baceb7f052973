use Rattle.std.proofs.Common.{arith}
use Rattle.json_cursor.specs.Arrays.{prefix_value}
use Rattle.geojson_model.proofs.LineParts as part
use Rattle.geojson_model.proofs.lines.line_at.Goals as goal

pub returns-in-Err : goal.returns-in-Err
returns-in-Err c = part.line_stops c.args.exact (prefix_value c.args.depth_left c.args.bytes.now) c.args.counts.now c.in-Err.stop c.in-Err.ensures

pub returns-in_default : goal.returns-in_default
returns-in_default c = part.no_line c.args.exact (prefix_value c.args.depth_left c.args.bytes.now) c.args.counts.now _ _ (rw c.in_default.is at c.in-Ok.ensures)

pub returns-then-len-lt2 : goal.returns-then-len-lt2
returns-then-len-lt2 c = part.short_line c.args.exact (prefix_value c.args.depth_left c.args.bytes.now) c.args.counts.now _ _ _ (rw c.in-Some.is at c.in-Ok.ensures) (omega (arith, c.len.ensures))

pub returns-else-len-lt2 : goal.returns-else-len-lt2
returns-else-len-lt2 c = part.some_line c.args.exact (prefix_value c.args.depth_left c.args.bytes.now) c.args.counts.now _ _ _ (rw c.in-Some.is at c.in-Ok.ensures) (omega (arith, c.len.ensures))
