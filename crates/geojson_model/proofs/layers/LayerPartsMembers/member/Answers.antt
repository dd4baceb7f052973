use Rattle.std.proofs.Common.{[], ◌++◌, ◌∷◌, refl, subst, sym}
use Rattle.std.specs.Prelude.{codes}
use Rattle.json_cursor.specs.Names.{name_of}
use Rattle.geojson_meaning.specs.Members.{named}
use Rattle.geojson_model.specs.Layers.{IsCollected, IsLayerParts}
use Rattle.geojson_model.specs.Members.{IsOccurrence}
use Rattle.geojson_model.proofs.FeatureParts.{fields_pass}
use Rattle.geojson_model.proofs.LayerParts.{bare_passes, with_bare, with_fields}
use Rattle.geojson_model.proofs.MemberOccurrences.{member_found, member_sees, not_other, sees}
use Rattle.geojson_model.proofs.layers.LayerPartsMembers.member.Goals as goal

pub returns-then-is : goal.returns-then-is
returns-then-is g c =
    let d = c.args.depth_left in
    let name = name_of c.in_ok-name.name in
    let found = c.in_ok-features.ensures in
    let same = sym c.if-is.ensures in
    record {
      member = (name, found.0);
      prefix = member_found d c.args.bytes.now name c.in_ok-name.value.now _ found.0 (c.in_ok-name.ensures d) found.1;
      holds = λ ms h. record {
        bare = bare_passes c.args.with d ms name found.0 c.args.self.now.bare (not_other name (codes "features") (codes "type") same refl) (not_other name (codes "features") (codes "coordinates") same refl) (not_other name (codes "features") (codes "geometries") same refl) h.bare;
        fields = fields_pass c.args.with ms name found.0 c.args.self.now.fields (not_other name (codes "features") (codes "geometry") same refl) (not_other name (codes "features") (codes "properties") same refl) (not_other name (codes "features") (codes "id") same refl) h.fields;
        features = subst (λ s. IsOccurrence (IsCollected c.args.with) (named (codes "features") (ms ++ (name, found.0) ∷ [])) s) (sym c.see.ensures) (sees (IsCollected c.args.with) (codes "features") ms name found.0 c.args.self.now.features h.features c.in_ok-features.features same found.2);
      };
    }

pub returns-then-is_field : goal.returns-then-is_field
returns-then-is_field g c =
    let d = c.args.depth_left in
    let name = name_of c.in_ok-name.name in
    member_sees (IsLayerParts c.args.with d) d c.args.bytes.now name c.in_ok-name.value.now _ _ (c.in_ok-name.ensures d) c.see-then-is_field.result
    (with_fields c.args.with d name c.in_ok-name.value.now c.args.self.now.features c.args.self.now.bare c.args.self.now.fields _ (sym c.if-is_field.ensures) c.see-then-is_field.result c.see-then-is_field.ensures)

pub returns : goal.returns
returns g c =
    let d = c.args.depth_left in
    let name = name_of c.in_ok-name.name in
    member_sees (IsLayerParts c.args.with d) d c.args.bytes.now name c.in_ok-name.value.now _ _ (c.in_ok-name.ensures d) c.member_value.result
    (with_bare c.args.with d name c.in_ok-name.value.now c.args.self.now.features c.args.self.now.bare _ c.args.self.now.fields (sym c.if-is.ensures) (sym c.if-is_field.ensures) c.member_value.result c.member_value.ensures)
