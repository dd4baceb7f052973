use Rattle.std.proofs.Common.{length, map, sym, ap, ◌∙◌}
use Rattle.geojson_types.specs.Moving.{moved_feature}
use Rattle.geometry.proofs.Moved.{refilled}
use Rattle.geometry.proofs.MovedShapes.{line_or_ring_moved}
use Rattle.grid_snap.specs.Snapping.{snapped_if_covered}
use Rattle.grid_snap.proofs.Layered.{layer_of, features_snapped}
use Rattle.extraction.specs.Extracts.{feature_relined, no_refs}
use Rattle.linework.specs.Outlines.{features_lines_and_rings}
use Rattle.extraction.specs.Snapped.{feature_repointed}
use Rattle.extraction.proofs.Snapped.{features_alike, lines_alike}
use Rattle.extraction.proofs.layer.ExtractedLayer.snap.Goals as goal

pub invariant_of-self : goal.invariant_of-self
invariant_of-self c =
    let f = snapped_if_covered c.args.grid.now in
    let fs = c.self.inside.whole.features in
    let put = feature_repointed f in (
      refilled put c.self.inside.features.len c.self.inside.features.items c.snap_features.new.features
          (sym c.as_mut_slice.ensures.len ∙ ap length c.as_mut_slice.ensures.value) (c.snap_features.ensures ∙ ap (map put) c.as_mut_slice.ensures.value)
          ∙ ap (map put) c.self.invariant.0 ∙ features_alike f fs ∙ ap (map (feature_relined no_refs)) (sym c.snapped-whole.ensures),
      c.move_positions.ensures ∙ ap (map (line_or_ring_moved f)) c.self.invariant.1 ∙ lines_alike f fs ∙ ap features_lines_and_rings (sym c.snapped-whole.ensures),
    )

pub returns : goal.returns
returns c =
    let f = moved_feature (snapped_if_covered c.args.grid.now) in
    ap layer_of (c.snapped-whole.ensures ∙ ap (λ l. map f l.features) c.self.view_is ∙ features_snapped c.args.grid.now c.args.self.now.features c.requires)
