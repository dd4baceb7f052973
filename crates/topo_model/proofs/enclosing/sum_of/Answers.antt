use Rattle.std.proofs.Common.{◌+◌, ◌≤◌, drop, false, unsigned_abs, subst}
use Rattle.topo_model.specs.Passing.{directed, most_of_arc, Sums}
use Rattle.topo_model.proofs.Enclosed.{sum_is}
use Rattle.topo_model.proofs.enclosing.sum_of.Goals as goal

pub returns : goal.returns
returns c =
    sum_is c.args.arc.now c.pass_arc.new.sum (subst (λ s. Sums (drop 0 (directed false c.args.arc.now)) s c.pass_arc.new.sum) c.new-sum.ensures c.pass_arc.ensures.sums)
    (subst (λ s. unsigned_abs c.pass_arc.new.sum.sum ≤ unsigned_abs s.sum + most_of_arc) c.new-sum.ensures c.pass_arc.ensures.bound)
