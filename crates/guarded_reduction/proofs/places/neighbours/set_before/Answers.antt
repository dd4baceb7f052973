use Rattle.std.proofs.Common.{ap}
use Rattle.std.proofs.Math.Seq.{map-set_same}
use Rattle.std.proofs.lemmas.List.{map-set}
use Rattle.guarded_reduction.specs.declared.places.neighbours.Neighbours.{Neighbours}
use Rattle.guarded_reduction.proofs.places.neighbours.set_before.Goals as goal

pub returns-clause-befores : goal.returns-clause-befores
returns-clause-befores c = map-set (λ (n : Neighbours). n.before) c.args.neighbours.now.items c.args.place _

pub returns-clause-afters : goal.returns-clause-afters
returns-clause-afters c = map-set_same (λ (n : Neighbours). n.after) c.args.neighbours.now.items c.args.place _ c.index_mut.result.now (ap (λ (n : Neighbours). n.after) c.index_mut.ensures.value)
