use Rattle.std.proofs.Common.{refl}
use Rattle.std.specs.Prelude.{codes}
use Rattle.topojson_decoder.proofs.PartsSeen as occurrence
use Rattle.topojson_decoder.proofs.geometry_parts.GeometryParts.coordinates_value.Goals as goal

pub returns : goal.returns
returns c =
    let found = c.in_ok-rest.ensures in
    record {
      value = found.0;
      prefix = found.1;
      holds = λ ms h. occurrence.sees_coordinates c.args.start c.args.depth_left ms c.args.self.now (codes "coordinates") found.0 h c.args.bytes _ c.see.ensures refl (_, found.1) _ c.places_type-kind.ensures _ found.2;
    }
