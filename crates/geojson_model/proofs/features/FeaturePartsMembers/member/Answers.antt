use Rattle.std.proofs.Common.{[], ◌++◌, ◌∷◌, refl, subst, sym}
use Rattle.std.specs.Prelude.{codes}
use Rattle.json_cursor.specs.Names.{name_of}
use Rattle.geojson_meaning.specs.Members.{named}
use Rattle.geojson_model.specs.Features.{IsFeatureParts}
use Rattle.geojson_model.specs.Members.{IsOccurrence, IsType}
use Rattle.geojson_model.proofs.FeatureParts.{fields_pass, with_fields}
use Rattle.geojson_model.proofs.MemberOccurrences.{member_found, member_sees, not_other, sees}
use Rattle.geojson_model.proofs.features.FeaturePartsMembers.member.Goals as goal

pub returns-then-is : goal.returns-then-is
returns-then-is c =
    let d = c.args.depth_left in
    let name = name_of c.in_ok-name.name in
    let found = c.in_ok-kind.ensures in
    let same = sym c.if-is.ensures in
    record {
      member = (name, found.0);
      prefix = member_found d c.args.bytes.now name c.in_ok-name.value.now _ found.0 (c.in_ok-name.ensures d) found.1;
      holds = λ ms h. record {
        kind = subst (λ s. IsOccurrence IsType (named (codes "type") (ms ++ (name, found.0) ∷ [])) s) (sym c.see.ensures) (sees IsType (codes "type") ms name found.0 c.args.self.now.kind h.kind c.in_ok-kind.kind same found.2);
        fields = fields_pass c.args.with ms name found.0 c.args.self.now.fields (not_other name (codes "type") (codes "geometry") same refl) (not_other name (codes "type") (codes "properties") same refl) (not_other name (codes "type") (codes "id") same refl) h.fields;
      };
    }

pub returns : goal.returns
returns c =
    let d = c.args.depth_left in
    let name = name_of c.in_ok-name.name in
    member_sees (IsFeatureParts c.args.with d) d c.args.bytes.now name c.in_ok-name.value.now _ _ (c.in_ok-name.ensures d) c.see-2.result
    (with_fields c.args.with d name c.in_ok-name.value.now c.args.self.now.kind c.args.self.now.fields _ (sym c.if-is.ensures) c.see-2.result c.see-2.ensures)
