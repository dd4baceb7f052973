use Rattle.std.proofs.Common.{◌≡◌, None, map, sym, ap, ◌∙◌}
use Rattle.geojson_types.specs.Places.{features_points}
use Rattle.grid_snap.specs.Bounds.{widened_by}
use Rattle.topojson_types.specs.Validity.{features_places}
use Rattle.topojson_types.specs.Widening as box
use Rattle.extraction.specs.Extracts.{feature_relined, no_refs}
use Rattle.linework.specs.Outlines.{features_lines_and_rings}
use Rattle.extraction.proofs.Bounded.{features_split, positions_of}
use Rattle.extraction.proofs.layer.ExtractedLayer.widen.Goals as goal

pub returns : goal.returns
returns c =
    let fs = c.self.inside.whole.features in
    let points = features_places (map (feature_relined no_refs) fs) in
    let lined = positions_of (features_lines_and_rings fs) in
    let first : c.with_box-bounds.result ≡ widened_by c.args.bounds points =
    c.with_box-bounds.ensures points (sym (c.corners_of.ensures ∙ ap (λ ts. box.widened_by None (features_places ts)) (c.as_slice.ensures.value ∙ c.self.invariant.0))) in
    c.with_outlines.ensures ∙ ap (λ bs. widened_by c.with_box-bounds.result (positions_of bs)) c.self.invariant.1 ∙ ap (λ b. widened_by b lined) first ∙ sym (features_split fs c.args.bounds)
    ∙ ap (λ l. widened_by c.args.bounds (features_points l.features)) c.self.view_is
