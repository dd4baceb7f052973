use Rattle.geometry.proofs.Moved.{turns}
use Rattle.grid_snap.specs.Snapping.{snapped_if_covered}
use Rattle.extraction.specs.Snapped.{feature_repointed}
use Rattle.extraction.proofs.snapping.snap_features.Goals as goal

pub features-preserved : goal.features-preserved
features-preserved c =
    turns (feature_repointed (snapped_if_covered c.args.grid.now)) c.args.features.now c.features.feature-index c.features.features c.feature-item.result _ c.features-test.true c.features.invariant
    c.snap_feature.ensures
