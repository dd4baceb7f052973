use Rattle.geojson_meaning.specs.Geometries.{coordinates_shape}
use Rattle.json_cursor.specs.Arrays.{prefix_value}
use Rattle.geojson_model.proofs.MemberOccurrences.{judged}
use Rattle.geojson_model.proofs.coordinate_members.shape_by.Goals as goal

pub returns-in-Ok : goal.returns-in-Ok
returns-in-Ok c = λ v is. rw c.in-Ok.is at (c.in-Some.ensures c.args.start v is.read)

pub returns-in-Err : goal.returns-in-Err
returns-in-Err c = λ v is. rw c.in-Err.is at (c.in-Some.ensures c.args.start v is.read)

pub returns-in-Err-coordinates_at : goal.returns-in-Err-coordinates_at
returns-in-Err-coordinates_at c = λ v is.
    judged (coordinates_shape c.args.start.exact c.args.kind) (prefix_value c.args.depth_left c.args.found.prefix.now) v is.prefix.0 c.args.start.counts c.coordinates_at.new.counts is.prefix.1 c.in-Err-coordinates_at.stop c.in-Err-coordinates_at.ensures
