use Rattle.std.proofs.Common.{ap}
use Rattle.json_cursor.specs.Arrays.{prefix_value}
use Rattle.topojson_meaning.specs.Arcs.{arc}
use Rattle.topojson_decoder.specs.Cells.{same_transform}
use Rattle.topojson_decoder.proofs.Running.{one_stops}
use Rattle.topojson_decoder.proofs.arcs.ArcsElements.element.Goals as goal

pub returns-in-Err : goal.returns-in-Err
returns-in-Err g c = one_stops arc same_transform (prefix_value c.args.depth_left c.args.bytes.now) c.args.counts.now c.in-Err.stop c.args.self.now (rw (ap (λ s. s.0) c.self.view_is) at c.in-Err.ensures.arc)
