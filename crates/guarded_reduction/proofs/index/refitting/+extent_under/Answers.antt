use Rattle.std.proofs.Common.{arith}
use Rattle.guarded_reduction.proofs.Trees.{both_hold}
use Rattle.guarded_reduction.proofs.index.refitting.+extent_under.Goals as goal

pub returns : goal.returns
returns t c = both_hold c.args.positions.now c.args.present.now c.args.places.now c.args.node c.extent_under.result c.extent_under-2.result c.joined.result (omega arith) c.extent_under.ensures c.extent_under-2.ensures c.joined.ensures.first c.joined.ensures.second
