use Rattle.std.proofs.Common.{◌+◌, ◌*◌, drop, map}
use Rattle.std.specs.Prelude.{codes}
use Rattle.json_value.specs.Text.{json_text}
use Rattle.json_value.specs.declared.json.Json.TheVariants as j
use Rattle.json_writer.proofs.Appending.{UpTo}
use Rattle.json_writer.proofs.Lists.{list_left, text_by}
use Rattle.geometry.specs.declared.shape.Geometry.TheVariants as kind
use Rattle.geojson_types.specs.Nesting.{nesting}
use Rattle.topojson_writer.specs.FeatureValues.{geometry_value}
use Rattle.topojson_writer.specs.Decoded.{shape_in}
use Rattle.topojson_writer.proofs.topology_shapes.+shapes.Given as goal

abbrev pub decreases-put_shapes : goal.decreases-put_shapes
decreases-put_shapes g l = 3 * nesting (kind.Group l.shapes.now)

abbrev pub decreases-put_contents : goal.decreases-put_contents
decreases-put_contents g l = 3 * nesting l.shape.now + 1

abbrev pub decreases-put_shape : goal.decreases-put_shape
decreases-put_shape g l = 3 * nesting l.shape.now + 2

abbrev pub invariant-put_shapes-shapes : goal.invariant-put_shapes-shapes
invariant-put_shapes-shapes g l =
    UpTo g.O.Out.text g.O.Out.good l.fn.out l.out (json_text (j.Array (map (λ s. geometry_value (shape_in l.topology s)) l.shapes)))
    (list_left (text_by (λ s. geometry_value (shape_in l.topology s))) (codes "]") l.is_first (drop l.shape-index l.shapes))
