use Rattle.std.specs.Option.{option_copied}
use Rattle.json_cursor.specs.Arrays.{prefix_value}
use Rattle.topojson_decoder.specs.Kept.{kept_arc_list}
use Rattle.topojson_decoder.proofs.MemberOccurrences.{judged}
use Rattle.topojson_decoder.proofs.topologies.arcs_by.Goals as goal

pub returns-in-Err-kept_arcs_at-clause-judges : goal.returns-in-Err-kept_arcs_at-clause-judges
returns-in-Err-kept_arcs_at-clause-judges c = λ texts v h.
    judged (kept_arc_list c.args.keeping (option_copied c.args.transform)) (prefix_value c.args.depth_left c.args.found.prefix.now) v h.prefix.0 c.args.counts.now c.kept_arcs_at.new.counts h.prefix.1 c.in-Err-kept_arcs_at.stop c.in-Err-kept_arcs_at.ensures
