use Rattle.topojson_types.proofs.Opening.{last_of_opened}
use Rattle.topojson_types.proofs.cell_walk.CellWalk.take_last.Goals as goal

pub returns : goal.returns
returns c =
    let w = c.self.inside in
    last_of_opened w.arcs.now w.prefix w.back c.args.self.now w.refs.now c.in-Some-split_last.rest.now c.in-Some-split_last.index.now
    c.of_arc-run.result c.take_first-first.new.self c.take_last-cell.new.self c.take_first-first.result c.take_last-cell.result
    c.self.invariant.1 c.self.invariant.0 c.self.view_is c.in_default.ensures.0 c.in-Some-split_last.ensures.cases.0 c.of_arc-run.ensures c.take_first-first.ensures c.take_last-cell.ensures
