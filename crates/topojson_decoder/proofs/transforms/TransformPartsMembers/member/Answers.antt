use Rattle.std.proofs.Common.{Ok, sym}
use Rattle.json_cursor.specs.Names.{name_of}
use Rattle.topojson_decoder.specs.Transforms.{IsTransform}
use Rattle.topojson_decoder.proofs.MemberOccurrences.{member_goes_on}
use Rattle.topojson_decoder.proofs.TransformParts as occurrence
use Rattle.topojson_decoder.proofs.transforms.TransformPartsMembers.member.Goals as goal

pub returns-then-is : goal.returns-then-is
returns-then-is c =
    let found = c.in_ok-texts.ensures in
    let name = name_of c.in_ok-name.name in
    member_goes_on (IsTransform) c.args.depth_left c.args.self.now _ c.args.bytes.now name c.in_ok-name.value.now (c.in_ok-name.ensures c.args.depth_left) (Ok c.in_ok-texts.rest) (record {
      value = found.0;
      prefix = found.1;
      holds = λ ms h. occurrence.sees_scale ms c.args.self.now name found.0 h c.in_ok-texts.texts _ found.2 c.see.ensures (sym c.if-is.ensures);
    })

pub returns-then-is-2 : goal.returns-then-is-2
returns-then-is-2 c =
    let found = c.in_ok-texts-2.ensures in
    let name = name_of c.in_ok-name.name in
    member_goes_on (IsTransform) c.args.depth_left c.args.self.now _ c.args.bytes.now name c.in_ok-name.value.now (c.in_ok-name.ensures c.args.depth_left) (Ok c.in_ok-texts-2.rest) (record {
      value = found.0;
      prefix = found.1;
      holds = λ ms h. occurrence.sees_translate ms c.args.self.now name found.0 h c.in_ok-texts-2.texts _ found.2 c.see-then-is-2.ensures (sym c.if-is-2.ensures);
    })

pub returns : goal.returns
returns c =
    member_goes_on (IsTransform) c.args.depth_left c.args.self.now c.args.self.now c.args.bytes.now (name_of c.in_ok-name.name) c.in_ok-name.value.now (c.in_ok-name.ensures c.args.depth_left) c.after_value.result
    (occurrence.passed c.args.depth_left (name_of c.in_ok-name.name) c.args.self.now c.in_ok-name.value.now (sym c.if-is.ensures) (sym c.if-is-2.ensures) c.after_value.result c.after_value.ensures)
