use Rattle.std.proofs.Common.{sym}
use Rattle.topojson_decoder.proofs.ObjectSeen as occurrence
use Rattle.topojson_decoder.proofs.object_parts.ObjectParts.value.Goals as goal

pub returns-then-is_name : goal.returns-then-is_name
returns-then-is_name c =
    let found = c.in_ok-found.ensures in
    record {
      value = found.0;
      prefix = found.1;
      holds = λ ms h. occurrence.sees_features c.args.start c.args.depth_left c.args.name.now ms c.args.self.now found.0 h c.in_ok-found.found _ c.see.ensures (sym c.if-is_name.ensures) found.2;
    }

pub returns : goal.returns
returns c = occurrence.feature_goes_on c.args.start c.args.depth_left c.args.name.now c.args.self.now _ c.args.bytes.now (sym c.if-is_name.ensures) c.value.result c.value.ensures
