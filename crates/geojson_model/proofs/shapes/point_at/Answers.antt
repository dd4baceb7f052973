use Rattle.std.proofs.Common.{length}
use Rattle.std.specs.Str.{is_utf8}
use Rattle.json_value.specs.Reading.{value_at}
use Rattle.geojson_meaning.specs.declared.fault.GeoFaultKind.TheVariants.{WrongKind}
use Rattle.geojson_meaning.specs.declared.types.CoordinatesType.TheVariants.{Point}
use Rattle.geojson_meaning.specs.Geometries.{coordinates_shape, shape_in}
use Rattle.json_cursor.specs.declared.stop.Stop.TheVariants as stop
use Rattle.json_cursor.specs.Arrays.{prefix_elements, prefix_value, some_array_by}
use Rattle.json_cursor.proofs.ArrayParts as array
use Rattle.geojson_model.proofs.ShapeParts as part
use Rattle.geojson_model.proofs.shapes.point_at.Goals as goal

pub returns-in-NoArray : goal.returns-in-NoArray
returns-in-NoArray c =
    array.same_stops (some_array_by WrongKind (shape_in c.args.exact Point)) (coordinates_shape c.args.exact Point) (prefix_value c.args.depth_left c.args.bytes.now) c.args.counts.now (λ v. part.point_is c.args.exact v c.args.counts.now) (stop.Fault WrongKind)
    (array.no_array WrongKind (shape_in c.args.exact Point) c.args.counts.now (prefix_value c.args.depth_left c.args.bytes.now) (rw c.in-NoArray.is at c.opening_at-opening.ensures))

pub returns-in-Empty : goal.returns-in-Empty
returns-in-Empty c = rw c.count_empty.ensures
    (array.same_reads (some_array_by WrongKind (shape_in c.args.exact Point)) (coordinates_shape c.args.exact Point) (prefix_value c.args.depth_left c.args.bytes.now) c.args.counts.now (λ v. part.point_is c.args.exact v c.args.counts.now) _ _ _
    (array.counted_array WrongKind (shape_in c.args.exact Point) c.args.counts.now (prefix_value c.args.depth_left c.args.bytes.now) _ (rw c.in-Empty.is at c.opening_at-opening.ensures)))

pub returns-in-Err : goal.returns-in-Err
returns-in-Err c =
    array.same_stops (some_array_by WrongKind (shape_in c.args.exact Point)) (coordinates_shape c.args.exact Point) (prefix_value c.args.depth_left c.args.bytes.now) c.args.counts.now (λ v. part.point_is c.args.exact v c.args.counts.now) c.in-Err.stop
    (array.filled_stops WrongKind (shape_in c.args.exact Point) c.args.counts.now (prefix_value c.args.depth_left c.args.bytes.now) (value_at is_utf8 c.in-Filled.below) (length c.opening_at-opening.result.1.now) c.opening_at-opening.result.1.now
    (rw c.in-Filled.is at c.opening_at-opening.ensures) c.in-Err.stop
    (part.point_stops c.args.exact (prefix_elements c.in-Filled.below (length c.opening_at-opening.result.1.now) c.opening_at-opening.result.1.now) c.args.counts.now c.in-Err.stop c.in-Err.ensures))

pub returns-in-Ok : goal.returns-in-Ok
returns-in-Ok c =
    array.same_reads (some_array_by WrongKind (shape_in c.args.exact Point)) (coordinates_shape c.args.exact Point) (prefix_value c.args.depth_left c.args.bytes.now) c.args.counts.now (λ v. part.point_is c.args.exact v c.args.counts.now) _ _ _
    (array.filled_reads WrongKind (shape_in c.args.exact Point) c.args.counts.now (prefix_value c.args.depth_left c.args.bytes.now) (value_at is_utf8 c.in-Filled.below) (length c.opening_at-opening.result.1.now) c.opening_at-opening.result.1.now
    (rw c.in-Filled.is at c.opening_at-opening.ensures) _ _ _
    (part.point_reads c.args.exact (prefix_elements c.in-Filled.below (length c.opening_at-opening.result.1.now) c.opening_at-opening.result.1.now) c.args.counts.now _ _ _ c.in-Ok.ensures))
