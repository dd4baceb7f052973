use Rattle.std.proofs.Common.{◌∙◌, ap, sym, Ok, Err}
use Rattle.geojson_meaning.specs.Layers.{bare_feature, collection_features, single_feature, typed_features}
use Rattle.geojson_model.specs.Layers.{members_features}
use Rattle.geojson_model.proofs.GeometryParts.{judges_same}
use Rattle.geojson_model.proofs.LayerParts as part
use Rattle.geojson_model.proofs.layers.features_of.Goals as goal

pub returns-in-Err : goal.returns-in-Err
returns-in-Err g c = λ ms is.
    part.is_typed c.args.start.exact ms c.args.start.counts c.args.parts.bare.kind is.bare.kind ∙ ap (part.by_type c.args.start.exact ms c.args.start.counts) (sym c.type_of.ensures ∙ c.in-Err.is) ∙ ap Err (sym c.fault_within.ensures)

pub returns-in-FeatureCollection : goal.returns-in-FeatureCollection
unfolding typed_features
returns-in-FeatureCollection g c = λ ms is.
    judges_same (members_features c.args.start.exact ms) (collection_features c.args.start.exact ms) c.args.start.counts c.collection_of.new.counts
    (part.is_typed c.args.start.exact ms c.args.start.counts c.args.parts.bare.kind is.bare.kind ∙ ap (part.by_type c.args.start.exact ms c.args.start.counts) (sym c.type_of.ensures ∙ c.in-Ok.is ∙ ap Ok c.in-FeatureCollection.is))
    c.collection_of.result (c.collection_of.ensures c.args.start ms is.features)

pub returns-in-Feature : goal.returns-in-Feature
unfolding typed_features
returns-in-Feature g c = λ ms is.
    judges_same (members_features c.args.start.exact ms) (single_feature c.args.start.exact ms) c.args.start.counts c.single_of.new.counts
    (part.is_typed c.args.start.exact ms c.args.start.counts c.args.parts.bare.kind is.bare.kind ∙ ap (part.by_type c.args.start.exact ms c.args.start.counts) (sym c.type_of.ensures ∙ c.in-Ok.is ∙ ap Ok c.in-Feature.is))
    c.single_of.result (c.single_of.ensures ms is.fields)

pub returns-in-Geometry : goal.returns-in-Geometry
unfolding typed_features
returns-in-Geometry g c = λ ms is.
    let kind = c.in-Geometry.field-0 in
    let type = sym c.type_of.ensures ∙ c.in-Ok.is ∙ ap Ok c.in-Geometry.is in
    judges_same (members_features c.args.start.exact ms) (bare_feature c.args.start.exact kind ms) c.args.start.counts c.bare_of.new.counts
    (part.is_typed c.args.start.exact ms c.args.start.counts c.args.parts.bare.kind is.bare.kind ∙ ap (part.by_type c.args.start.exact ms c.args.start.counts) type)
    c.bare_of.result (c.bare_of.ensures kind ms is.bare (part.types_is ms kind c.args.parts.bare.kind is.bare.kind type))
