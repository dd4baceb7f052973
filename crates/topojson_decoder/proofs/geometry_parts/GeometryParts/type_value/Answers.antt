use Rattle.std.proofs.Common.{refl}
use Rattle.std.specs.Prelude.{codes}
use Rattle.topojson_decoder.proofs.PartsSeen as occurrence
use Rattle.topojson_decoder.proofs.geometry_parts.GeometryParts.type_value.Goals as goal

pub returns : goal.returns
returns c = λ start.
    let found = c.in_ok-kind.ensures in
    record {
      value = found.0;
      prefix = found.1;
      holds = λ ms h. occurrence.sees_type start c.args.depth_left ms c.args.self.now (codes "type") found.0 h c.in_ok-kind.kind _ c.see.ensures refl found.2;
    }
