use Rattle.std.proofs.Common.{arith, refl}
use Rattle.geometry.specs.Joins.{number_of}
use Rattle.topo_model.proofs.Marked.{index_set, index_passed}
use Rattle.topo_model.proofs.marking.mark_arc.Goals as goal

pub returns-then-index-used : goal.returns-then-index-used
returns-then-index-used c = index_set c.args.used.now _ (number_of c.args.arc) c.index-index.result c.index-index.ensures (omega (arith, c.if-index-used.true)) refl

pub returns-else-index-used : goal.returns-else-index-used
returns-else-index-used c = index_passed c.args.used.now c.args.used.now (number_of c.args.arc) c.index-index.result c.index-index.ensures (omega (arith, c.if-index-used.false)) refl
