use Rattle.std.proofs.Common.{◌≡◌, ◌∙◌, rules}
use Rattle.std.specs.Option.{option_copied}
use Rattle.geometry.specs.declared.shape.Geometry.TheVariants as g
use Rattle.geometry.specs.Lists.{map_some}
use Rattle.json_cursor.specs.Arrays.{prefix_value, some_array_by, always}
use Rattle.json_cursor.proofs.Steps.{then_stops}
use Rattle.topojson_meaning.specs.declared.fault.TopoFault.TheVariants.{WrongKind}
use Rattle.topojson_meaning.specs.declared.geometry_type.PlacesType.TheVariants as of_places
use Rattle.topojson_meaning.specs.Arcs.{place}
use Rattle.topojson_meaning.specs.Reader.{each}
use Rattle.topojson_meaning.specs.Shapes.{places_shape}
use Rattle.topojson_decoder.proofs.Then.{then_reads}
use Rattle.topojson_decoder.proofs.ShapeParts.{points_shape_is, shape_of_all, all_in_shape}
use Rattle.topojson_decoder.proofs.shapes.places_shape_at.Goals as goal

pub returns-in-Err : goal.returns-in-Err
returns-in-Err c = rw c.in-MultiPoint.is
    (then_stops (some_array_by WrongKind (always (each (place (option_copied c.args.transform))))) (shape_of_all g.MultiPoint) (places_shape (option_copied c.args.transform) of_places.MultiPoint) (prefix_value c.args.depth_left c.args.bytes.now) c.args.counts.now
    (λ v. points_shape_is (option_copied c.args.transform) v c.args.counts.now) c.in-Err.stop c.in-Err.ensures)

pub returns-in-Ok : goal.returns-in-Ok
returns-in-Ok c =
    let made : c.map.result ≡ map_some g.MultiPoint c.unless_empty.result = search rules in
    rw (c.in-MultiPoint.is, made ∙ c.unless_empty.ensures g.MultiPoint)
    (then_reads (some_array_by WrongKind (always (each (place (option_copied c.args.transform))))) (shape_of_all g.MultiPoint) (places_shape (option_copied c.args.transform) of_places.MultiPoint) (prefix_value c.args.depth_left c.args.bytes.now) c.args.counts.now
    (λ v. points_shape_is (option_copied c.args.transform) v c.args.counts.now) _ _ _ c.in-Ok.ensures _ _ (all_in_shape g.MultiPoint _ _))
