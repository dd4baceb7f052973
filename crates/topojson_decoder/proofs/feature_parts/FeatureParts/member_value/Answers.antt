use Rattle.std.proofs.Common.{refl}
use Rattle.std.specs.Prelude.{codes}
use Rattle.topojson_decoder.proofs.FeatureParts.{part_goes_on}
use Rattle.topojson_decoder.proofs.feature_parts.FeatureParts.member_value.Goals as goal

pub returns-in-Kind : goal.returns-in-Kind
returns-in-Kind c = rw c.in-Kind.is (part_goes_on c.args.start c.args.depth_left (codes "type") c.args.self.now _ c.args.bytes.now refl refl c.type_value.result (c.type_value.ensures c.args.start))
