use Rattle.std.proofs.Common.{ap, sym, ◌∙◌}
use Rattle.std.proofs.lemmas.List.{take_all}
use Rattle.std.specs.Prelude.{sum_by}
use Rattle.byte_ends.specs.Ends.{saturated}
use Rattle.topojson_types.specs.Topologies.{object_features}
use Rattle.reports.specs.Positions.{feature_length}
use Rattle.reports.proofs.Decoded.{features_length}
use Rattle.reports.proofs.positions.decoded_positions.Goals as goal

pub returns : goal.returns
returns c =
    let t = c.args.topology.now in
    let all = take_all c.features.feature-index c.features_in-feature-items.result.now c.features-test.false ∙ c.features_in-feature-items.ensures in
    c.features.invariant ∙ ap (λ fs. saturated (sum_by (feature_length t) fs)) all ∙ ap saturated (sym (features_length t (object_features c.args.object.now)))
