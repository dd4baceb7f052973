use Rattle.std.specs.Prelude.{◌≡◌}
use Rattle.topo_model.proofs.assembling.extracted.Given as goal

abbrev pub invariant-layers : goal.invariant-layers
invariant-layers l = l.all.items ≡ l.yielded
