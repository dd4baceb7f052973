use Rattle.std.proofs.Common.{ap}
use Rattle.json_cursor.specs.Arrays.{prefix_value}
use Rattle.topojson_decoder.proofs.ArcEndParts.{with_arc_ends_stops}
use Rattle.topojson_decoder.proofs.arc_ends.ArcsByEndsElements.element.Goals as goal

pub returns-in-Err : goal.returns-in-Err
returns-in-Err g c = with_arc_ends_stops (prefix_value c.args.depth_left c.args.bytes.now) c.args.counts.now c.in-Err.stop c.args.self.now (rw (ap (λ s. s.0) c.self.view_is) at c.in-Err.ensures)
