use Rattle.std.proofs.Common.{◌≡◌, map}
use Rattle.effective_area.specs.Shares.{kept_at}
use Rattle.layer_topology.proofs.choosing.kept_of_arcs.Given as goal

-- those so far
abbrev pub invariant-arcs : goal.invariant-arcs
invariant-arcs l = map (λ k. k.items) l.kept.items ≡ map (λ w. kept_at l.threshold w.items) l.yielded
