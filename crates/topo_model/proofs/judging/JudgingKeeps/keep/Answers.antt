use Rattle.std.proofs.Common.{arith}
use Rattle.topo_model.proofs.Drops.{refs_are}
use Rattle.topo_model.proofs.judging.JudgingKeeps.keep.Goals as goal

pub returns-clause-left : goal.returns-clause-left
returns-clause-left c = grind (arith, refs_are c.args.self.now c.args.closed c.args.refs.now)
