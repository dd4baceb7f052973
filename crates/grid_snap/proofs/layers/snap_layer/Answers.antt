use Rattle.std.proofs.Common.{map, refl, ap, ◌∙◌}
use Rattle.geojson_types.specs.Moving.{moved_feature}
use Rattle.geometry.proofs.Moved.{turns, ends, refilled}
use Rattle.grid_snap.specs.Snapping.{snapped_if_covered}
use Rattle.grid_snap.proofs.Layered.{layer_of, features_snapped}
use Rattle.grid_snap.proofs.layers.snap_layer.Goals as goal

pub features-preserved : goal.features-preserved
features-preserved c =
    turns (moved_feature (snapped_if_covered c.args.grid.now)) c.as_mut_slice-feature-items.result.now c.features.feature-index c.features.feature-items c.feature-item.result _
    c.features-test.true c.features.invariant c.move_positions.ensures

pub returns : goal.returns
returns c =
    let f = moved_feature (snapped_if_covered c.args.grid.now) in
    ap layer_of (refilled f _ c.args.layer.now.features c.features.feature-items refl
    (ends f c.as_mut_slice-feature-items.result.now c.features.feature-index c.features.feature-items c.features-test.false c.features.invariant
    ∙ ap (map f) c.as_mut_slice-feature-items.ensures.value)
    ∙ features_snapped c.args.grid.now c.args.layer.now.features c.requires)
