use Rattle.std.proofs.Common.{◌≡◌, take}
use Rattle.topo_model.specs.Marks.{also_set, names_arc}
use Rattle.topo_model.proofs.marking.mark_refs.Given as goal

abbrev pub invariant-refs : goal.invariant-refs
invariant-refs l = l.used ≡ also_set (names_arc (take l.arc-index l.refs)) 0 l.initial.used
