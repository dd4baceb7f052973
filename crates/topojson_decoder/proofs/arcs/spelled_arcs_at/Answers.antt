use Rattle.std.proofs.Common.{None, Some}
use Rattle.json_cursor.specs.Arrays.{prefix_value}
use Rattle.topojson_decoder.proofs.arcs.spelled_arcs_at.Goals as goal

pub returns-in-None : goal.returns-in-None
returns-in-None c = rw c.in-None.is (c.arcs_alone.ensures None (prefix_value c.args.depth_left c.args.bytes.now) c.args.counts.now c.elements_at.new.counts (rw c.none.ensures at c.elements_at.ensures))

pub returns-in-Some : goal.returns-in-Some
returns-in-Some c = rw c.in-Some.is (c.arcs_alone-in-Some.ensures (Some c.in-Some.transform.now) (prefix_value c.args.depth_left c.args.bytes.now) c.args.counts.now c.elements_at-in-Some.new.counts (rw (c.none-in-Some.ensures, c.of_many-grid.ensures) at c.elements_at-in-Some.ensures))
