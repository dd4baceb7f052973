use Rattle.std.proofs.Common.{[], sym, subst}
use Rattle.build_meaning.specs.Simplified.{EachFromFirstToLast}
use Rattle.linework.specs.Linework.{linework}
use Rattle.call_tests.proofs.unused.no_layers_are_assembled.Goals as goal

pub assemble-requires-clause-kept : goal.assemble-requires-clause-kept
unfolding linework
assemble-requires-clause-kept c = subst (λ t. EachFromFirstToLast [] t.arcs) (sym c.in-Ok.ensures) tt
