use Rattle.geometry.proofs.Moved.{Replaced}
use Rattle.grid_snap.specs.Snapping.{snapped_if_covered}
use Rattle.extraction.specs.Snapped.{repointed}
use Rattle.extraction.proofs.snapping.+snap_shape.Given as goal

abbrev pub invariant-shapes : goal.invariant-shapes
invariant-shapes l = record {
  left : goal.unvisited-shapes l;
  made : Replaced (repointed (snapped_if_covered l.grid)) l.initial.shape-items l.shape-index l.shape-items;
}
