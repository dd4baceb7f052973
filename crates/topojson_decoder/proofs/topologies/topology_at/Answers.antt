use Rattle.std.proofs.Common.{None}
use Rattle.json_cursor.specs.Arrays.{prefix_value}
use Rattle.topojson_meaning.specs.Topologies.{value_contents}
use Rattle.topojson_decoder.specs.Kept.{of_contents, parts_contents}
use Rattle.topojson_decoder.specs.declared.keeping.Keeping.TheVariants.{Whole}
use Rattle.topojson_decoder.proofs.KeptParts.{answers_back, whole_contents}
use Rattle.topojson_decoder.proofs.topologies.topology_at.Goals as goal

pub returns-in-Err : goal.returns-in-Err
returns-in-Err c = rw c.in-Err.is at
    (answers_back (of_contents (Whole None)) parts_contents (whole_contents None) value_contents (prefix_value c.args.depth_left c.args.bytes.now) c.args.counts.now c.kept_topology_at.new.counts c.kept_topology_at.result c.kept_topology_at.ensures)
