use Rattle.std.proofs.Common.{sym, ap, ◌∙◌}
use Rattle.json_value.specs.declared.json.Json.TheVariants as j
use Rattle.geojson_meaning.specs.Features.{feature, feature_element}
use Rattle.geojson_model.proofs.FeatureParts as part
use Rattle.geojson_model.proofs.GeometryParts.{judges_same}
use Rattle.geojson_model.specs.Features.{stopped}
use Rattle.geojson_model.proofs.features.FeatureParts.feature.Goals as goal

pub returns-in-Some : goal.returns-in-Some
returns-in-Some c = λ d ms is.
    part.is_element c.args.start.exact ms c.args.start.counts c.args.self.kind is.kind ∙ ap (part.unless c.args.start.exact ms c.args.start.counts) (sym c.type_fault.ensures ∙ c.in-Some.is)

pub returns : goal.returns
returns c = λ d ms is.
    judges_same (feature_element c.args.start.exact (j.Object ms)) (feature c.args.start.exact ms) c.args.start.counts _
    (part.is_element c.args.start.exact ms c.args.start.counts c.args.self.kind is.kind ∙ ap (part.unless c.args.start.exact ms c.args.start.counts) (sym c.type_fault.ensures ∙ c.in_default.is))
    (stopped c.feature_of.result) (c.feature_of.ensures ms is.fields)
