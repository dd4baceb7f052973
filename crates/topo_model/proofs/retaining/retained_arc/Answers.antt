use Rattle.std.proofs.Common.{sym, ◌∙◌}
use Rattle.topo_model.proofs.RetainedArcs.{all_retained}
use Rattle.topo_model.proofs.retaining.retained_arc.Goals as goal

pub returns-then-numbers-len : goal.returns-then-numbers-len
returns-then-numbers-len c = sym (all_retained c.args.arc c.args.numbers.now c.requires (c.if-numbers-len.true ∙ c.len.ensures))
