use Rattle.topojson_types.proofs.Opening.{first_of_opened}
use Rattle.topojson_types.proofs.cell_walk.CellWalk.take_first.Goals as goal

pub returns : goal.returns
returns c =
    let w = c.self.inside in
    first_of_opened w.arcs.now w.prefix w.back c.args.self.now w.refs.now c.in-Some-split_first.rest.now c.in-Some-split_first.index.now
    c.of_arc-run.result c.take_first-joint.new.self c.take_first-cell.new.self c.take_first-joint.result c.take_first-cell.result
    c.self.invariant.1 c.self.invariant.0 c.self.view_is c.in_default.ensures.0 c.in-Some-split_first.ensures.cases.0 c.of_arc-run.ensures c.take_first-joint.ensures c.take_first-cell.ensures
