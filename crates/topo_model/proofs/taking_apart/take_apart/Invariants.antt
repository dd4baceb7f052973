use Rattle.std.specs.Prelude.{◌≡◌}
use Rattle.build_meaning.specs.Layers.{named_lines_and_rings}
use Rattle.topo_model.specs.Drafts.{no_refs, objects_relined}
use Rattle.topo_model.proofs.taking_apart.take_apart.Given as goal

abbrev pub invariant-layers : goal.invariant-layers
invariant-layers l = (l.objects.items ≡ objects_relined no_refs l.yielded) × (l.outlines ≡ named_lines_and_rings l.yielded)
