use Rattle.std.proofs.Common.{[], ◌++◌, ◌∷◌, refl, subst, sym}
use Rattle.std.specs.Prelude.{codes}
use Rattle.json_cursor.specs.Names.{name_of}
use Rattle.geojson_meaning.specs.Members.{named}
use Rattle.geojson_model.specs.Features.{IsDrawn, IsId, IsProperties}
use Rattle.geojson_model.specs.Members.{IsOccurrence}
use Rattle.geojson_model.proofs.FeatureParts.{passed_over}
use Rattle.geojson_model.proofs.MemberOccurrences.{not_other, passes, sees}
use Rattle.geojson_model.proofs.features.Fields.see.Goals as goal

pub returns-then-is : goal.returns-then-is
returns-then-is c =
    let d = c.args.depth_left in
    let name = name_of c.args.name.now in
    let found = c.in_ok-drawn.ensures in
    let same = sym c.if-is.ensures in (
      found.0,
      found.1,
      λ ms h. record {
        id = passes IsId (codes "id") ms name found.0 c.args.self.now.id h.id (not_other name (codes "geometry") (codes "id") same refl);
        properties = passes IsProperties (codes "properties") ms name found.0 c.args.self.now.properties h.properties (not_other name (codes "geometry") (codes "properties") same refl);
        geometry = subst (λ s. IsOccurrence (IsDrawn c.args.start) (named (codes "geometry") (ms ++ (name, found.0) ∷ [])) s) (sym c.see.ensures) (sees (IsDrawn c.args.start) (codes "geometry") ms name found.0 c.args.self.now.geometry h.geometry c.in_ok-drawn.drawn same found.2);
      },
    )

pub returns-then-is-2 : goal.returns-then-is-2
returns-then-is-2 c =
    let d = c.args.depth_left in
    let name = name_of c.args.name.now in
    let found = c.in_ok-properties.ensures in
    let same = sym c.if-is-2.ensures in (
      found.0,
      found.1,
      λ ms h. record {
        id = passes IsId (codes "id") ms name found.0 c.args.self.now.id h.id (not_other name (codes "properties") (codes "id") same refl);
        properties = subst (λ s. IsOccurrence IsProperties (named (codes "properties") (ms ++ (name, found.0) ∷ [])) s) (sym c.see-then-is-2.ensures) (sees IsProperties (codes "properties") ms name found.0 c.args.self.now.properties h.properties c.in_ok-properties.properties same found.2);
        geometry = passes (IsDrawn c.args.start) (codes "geometry") ms name found.0 c.args.self.now.geometry h.geometry (not_other name (codes "properties") (codes "geometry") same refl);
      },
    )

pub returns-then-is-3 : goal.returns-then-is-3
returns-then-is-3 c =
    let d = c.args.depth_left in
    let name = name_of c.args.name.now in
    let found = c.in_ok-id.ensures in
    let same = sym c.if-is-3.ensures in (
      found.0,
      found.1,
      λ ms h. record {
        id = subst (λ s. IsOccurrence IsId (named (codes "id") (ms ++ (name, found.0) ∷ [])) s) (sym c.see-then-is-3.ensures) (sees IsId (codes "id") ms name found.0 c.args.self.now.id h.id c.in_ok-id.id same found.2);
        properties = passes IsProperties (codes "properties") ms name found.0 c.args.self.now.properties h.properties (not_other name (codes "id") (codes "properties") same refl);
        geometry = passes (IsDrawn c.args.start) (codes "geometry") ms name found.0 c.args.self.now.geometry h.geometry (not_other name (codes "id") (codes "geometry") same refl);
      },
    )

pub returns : goal.returns
returns c =
    passed_over c.args.start c.args.depth_left (name_of c.args.name.now) c.args.value.now c.args.self.now (sym c.if-is.ensures) (sym c.if-is-2.ensures) (sym c.if-is-3.ensures) c.after_value.result c.after_value.ensures
