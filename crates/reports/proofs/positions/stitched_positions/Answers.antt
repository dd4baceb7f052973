use Rattle.std.proofs.Common.{refl}
use Rattle.geometry.specs.Joins.{arc_at}
use Rattle.topojson_types.specs.Decoding.{placed_arcs}
use Rattle.reports.proofs.Decoded.{stitched_is}
use Rattle.reports.proofs.positions.stitched_positions.Goals as goal

pub returns-in-len1-up : goal.returns-in-len1-up
returns-in-len1-up c =
    stitched_is (arc_at (placed_arcs c.args.topology.now.transform c.args.topology.now.arcs)) c.args.refs.now _ c.first-item.result c.arc_positions.result c.later_positions.result _
    c.in-len1-up.len_at_least c.first-item.is refl c.arc_positions.ensures c.later_positions.ensures c.saturating_add.ensures
