use Rattle.topo_model.specs.Drafts.{shape_filled}
use Rattle.topo_model.proofs.InPlaces.{Filling}
use Rattle.topo_model.proofs.filling.+fill_shape.Given as goal

abbrev pub invariant-shapes : goal.invariant-shapes
invariant-shapes l = record {
  left : goal.unvisited-shapes l;
  made : Filling shape_filled l.initial.remaining l.initial.shape-items l.remaining l.shape-index l.shape-items;
}
