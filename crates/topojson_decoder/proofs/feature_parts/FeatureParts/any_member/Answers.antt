use Rattle.json_cursor.specs.Names.{name_of}
use Rattle.topojson_decoder.specs.Features.{IsFeature}
use Rattle.topojson_decoder.proofs.MemberOccurrences.{member_goes_on}
use Rattle.topojson_decoder.proofs.feature_parts.FeatureParts.any_member.Goals as goal

pub returns : goal.returns
returns c =
    member_goes_on (IsFeature c.args.start c.args.depth_left) c.args.depth_left c.args.self.now _ c.args.bytes.now (name_of c.in_ok-name.name) c.in_ok-name.value.now (c.in_ok-name.ensures c.args.depth_left)
    c.value.result (rw c.as_str.ensures at c.value.ensures)
