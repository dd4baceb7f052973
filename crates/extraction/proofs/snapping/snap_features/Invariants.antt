use Rattle.geometry.proofs.Moved.{Replaced}
use Rattle.grid_snap.specs.Snapping.{snapped_if_covered}
use Rattle.extraction.specs.Snapped.{feature_repointed}
use Rattle.extraction.proofs.snapping.snap_features.Given as goal

abbrev pub invariant-features : goal.invariant-features
invariant-features l = Replaced (feature_repointed (snapped_if_covered l.grid)) l.fn.features l.feature-index l.features
