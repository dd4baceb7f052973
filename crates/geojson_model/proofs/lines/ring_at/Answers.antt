use Rattle.std.proofs.Common.{◌∙◌, ap, sym, length, arith}
use Rattle.geometry.specs.Rings.{is_closed}
use Rattle.json_cursor.specs.Arrays.{prefix_value}
use Rattle.geojson_model.proofs.LineParts as part
use Rattle.geojson_model.proofs.lines.ring_at.Goals as goal

pub returns-in-Err : goal.returns-in-Err
returns-in-Err c = part.ring_stops c.args.exact (prefix_value c.args.depth_left c.args.bytes.now) c.args.counts.now c.in-Err.stop c.in-Err.ensures

pub returns-in_default : goal.returns-in_default
returns-in_default c = part.no_ring c.args.exact (prefix_value c.args.depth_left c.args.bytes.now) c.args.counts.now _ _ (rw c.in_default.is at c.in-Ok.ensures)

pub returns-then-len-lt4 : goal.returns-then-len-lt4
returns-then-len-lt4 c = part.short_ring c.args.exact (prefix_value c.args.depth_left c.args.bytes.now) c.args.counts.now _ _ _ (rw c.in-Some.is at c.in-Ok.ensures) (omega (arith, c.len.ensures, ap length c.into_inner-positions.ensures))

pub returns-then-not-is_closed : goal.returns-then-not-is_closed
returns-then-not-is_closed c = part.open_ring c.args.exact (prefix_value c.args.depth_left c.args.bytes.now) c.args.counts.now _ _ _ (rw c.in-Some.is at c.in-Ok.ensures) (omega (arith, c.len.ensures, ap length c.into_inner-positions.ensures)) (ap is_closed (sym (c.deref.ensures.value ∙ c.into_inner-positions.ensures)) ∙ sym c.if-not-is_closed.ensures)

pub returns-else-not-is_closed : goal.returns-else-not-is_closed
returns-else-not-is_closed c = grind (arith, part.some_ring)
