use Rattle.std.proofs.Common.{sym}
use Rattle.std.specs.Option.{option_copied}
use Rattle.topojson_meaning.specs.Features as features
use Rattle.topojson_decoder.specs.Features.{feature, kept_typed_feature, typed_feature}
use Rattle.topojson_decoder.specs.Kept.{of_feature}
use Rattle.topojson_decoder.proofs.FeatureParts as by
use Rattle.topojson_decoder.proofs.KeptParts.{made_alike}
use Rattle.topojson_decoder.proofs.MemberOccurrences.{judges_same}
use Rattle.topojson_decoder.proofs.collected_features.typed_feature_of.Goals as goal

pub returns-in-Ok : goal.returns-in-Ok
returns-in-Ok c = λ ms is.
    let transform = option_copied c.args.start.transform in
    judges_same (kept_typed_feature c.args.start ms) (feature c.args.start c.in-Ok.kind ms) c.args.start.counts _
    (made_alike (of_feature c.args.start.keeping) (typed_feature transform c.args.start.arcs.now ms) c.args.start.counts (features.feature transform c.args.start.arcs.now c.in-Ok.kind ms)
    (by.known_type transform c.args.start.arcs.now c.in-Ok.kind ms c.args.start.counts (sym (c.in-Ok.ensures ms is.parts.kind)))) c.feature_of.result (c.feature_of.ensures ms is)
