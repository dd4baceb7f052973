use Rattle.geojson_meaning.specs.Geometries.{coordinates_shape, typed_geometry}
use Rattle.geojson_meaning.specs.declared.types.GeometryType.TheVariants.{Coordinates}
use Rattle.geojson_model.proofs.GeometryParts as part
use Rattle.geojson_model.proofs.coordinate_members.coordinates_of.Goals as goal

pub returns-in-Never : goal.returns-in-Never
returns-in-Never c = λ ms occurrence. part.no_coordinates c.args.start.exact c.args.kind ms c.args.start.counts (rw c.in-Never.is at occurrence)

pub returns-in-Again : goal.returns-in-Again
returns-in-Again c = λ ms occurrence.
    let s = rw c.in-Again.is at occurrence in
    part.more_coordinates c.args.start.exact c.args.kind ms c.args.start.counts s.0 s.1 s.2 s.3

pub returns-in-Once : goal.returns-in-Once
returns-in-Once c = λ ms occurrence.
    let s = rw c.in-Once.is at occurrence in
    part.judges_same (typed_geometry c.args.start.exact (Coordinates c.args.kind) ms) (coordinates_shape c.args.start.exact c.args.kind s.0) c.args.start.counts _
    (part.one_coordinates c.args.start.exact c.args.kind ms c.args.start.counts s.0 s.1) c.shape_by.result (c.shape_by.ensures s.0 s.2)
