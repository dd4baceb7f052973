use Rattle.std.proofs.Common.{refl}
use Rattle.std.specs.Option.{option_copied}
use Rattle.json_cursor.specs.Arrays.{prefix_value}
use Rattle.json_cursor.proofs.Steps.{then_stops}
use Rattle.topojson_meaning.specs.Arcs.{arc_list}
use Rattle.topojson_meaning.specs.Reader.{give}
use Rattle.topojson_decoder.specs.Kept.{held_arcs, kept_arc_list}
use Rattle.topojson_decoder.proofs.arcs.kept_arcs_at.Goals as goal

pub returns-in-Counted : goal.returns-in-Counted
returns-in-Counted c = rw c.in-Counted.is c.arc_ends_at.ensures

pub returns-in-Err : goal.returns-in-Err
returns-in-Err c =
    let list = arc_list (option_copied c.args.transform) in
    then_stops list (λ arcs. give (held_arcs c.args.keeping arcs)) (kept_arc_list c.args.keeping (option_copied c.args.transform)) (prefix_value c.args.depth_left c.args.bytes.now) c.args.counts.now (λ v. refl) c.in-Err.stop c.in-Err.ensures
