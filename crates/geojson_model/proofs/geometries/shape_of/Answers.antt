use Rattle.std.proofs.Common.{Ok, ap, sym, ◌∙◌}
use Rattle.geojson_meaning.specs.Geometries.{geometry, typed_geometry}
use Rattle.geojson_meaning.specs.declared.types.GeometryType.TheVariants as types
use Rattle.geojson_model.proofs.GeometryParts as part
use Rattle.geojson_model.proofs.geometries.shape_of.Goals as goal

pub returns-in-Err : goal.returns-in-Err
returns-in-Err c = λ ms is.
    part.is_of_kind c.args.start.exact ms c.args.start.counts c.args.parts.kind is.kind ∙ ap (part.by_geometry c.args.start.exact ms c.args.start.counts) (sym c.kind_of.ensures ∙ c.in-Err.is)

pub returns-in-Collection : goal.returns-in-Collection
returns-in-Collection c = λ ms is.
    part.judges_same (geometry c.args.start.exact ms) (typed_geometry c.args.start.exact types.Collection ms) c.args.start.counts _
    (part.is_of_kind c.args.start.exact ms c.args.start.counts c.args.parts.kind is.kind ∙ ap (part.by_geometry c.args.start.exact ms c.args.start.counts) (sym c.kind_of.ensures ∙ c.in-Ok.is ∙ ap Ok c.in-Collection.is))
    c.group_of.result (c.group_of.ensures c.args.start ms is.geometries)

pub returns-in-Coordinates : goal.returns-in-Coordinates
returns-in-Coordinates c = λ ms is.
    part.judges_same (geometry c.args.start.exact ms) (typed_geometry c.args.start.exact (types.Coordinates c.in-Coordinates.kind) ms) c.args.start.counts _
    (part.is_of_kind c.args.start.exact ms c.args.start.counts c.args.parts.kind is.kind ∙ ap (part.by_geometry c.args.start.exact ms c.args.start.counts) (sym c.kind_of.ensures ∙ c.in-Ok.is ∙ ap Ok c.in-Coordinates.is))
    c.coordinates_of.result (c.coordinates_of.ensures ms is.coordinates)
