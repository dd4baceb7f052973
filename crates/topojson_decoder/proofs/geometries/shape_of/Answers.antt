use Rattle.std.proofs.Common.{sym}
use Rattle.std.specs.Option.{option_copied}
use Rattle.topojson_decoder.specs.Geometries.{geometry, typed_shape}
use Rattle.topojson_decoder.proofs.GeometryParts as part
use Rattle.topojson_decoder.proofs.MemberOccurrences.{judges_same}
use Rattle.topojson_decoder.proofs.geometries.shape_of.Goals as goal

pub returns-in-Err : goal.returns-in-Err
returns-in-Err c = λ ms is.
    part.faulty_type (option_copied c.args.start.transform) c.args.start.arcs.now ms c.args.start.counts c.in-Err.fault (sym (c.in-Err.ensures ms is.kind))

pub returns-in-Ok : goal.returns-in-Ok
returns-in-Ok c = λ ms is.
    judges_same (geometry c.args.start ms) (typed_shape c.args.start c.in-Ok.kind ms) c.args.start.counts _
    (part.known_type (option_copied c.args.start.transform) c.args.start.arcs.now ms c.args.start.counts c.in-Ok.kind (sym (c.in-Ok.ensures ms is.kind))) c.typed_of.result (c.typed_of.ensures ms is)
