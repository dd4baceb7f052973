use Rattle.std.proofs.Common.{[], ◌++◌, ◌∷◌, refl, subst, sym}
use Rattle.std.specs.Prelude.{codes}
use Rattle.json_cursor.specs.Names.{name_of}
use Rattle.geojson_meaning.specs.Members.{named}
use Rattle.geojson_model.specs.Members.{IsCoordinates, IsGroup, IsParts, IsOccurrence, IsType}
use Rattle.geojson_model.proofs.MemberOccurrences.{not_other, passed_over, passes, sees}
use Rattle.geojson_model.proofs.geometries.Parts.see.Goals as goal

pub returns-then-is : goal.returns-then-is
returns-then-is c =
    let d = c.args.depth_left in
    let name = name_of c.args.name.now in
    let found = c.in_ok-kind.ensures in
    let same = sym c.if-is.ensures in (
      found.0,
      found.1,
      λ ms h. record {
        kind = subst (λ s. IsOccurrence IsType (named (codes "type") (ms ++ (name, found.0) ∷ [])) s) (sym c.see.ensures) (sees IsType (codes "type") ms name found.0 c.args.self.now.kind h.kind c.in_ok-kind.kind same found.2);
        coordinates = passes (IsCoordinates c.args.start d) (codes "coordinates") ms name found.0 c.args.self.now.coordinates h.coordinates (not_other name (codes "type") (codes "coordinates") same refl);
        geometries = passes (IsGroup c.args.start) (codes "geometries") ms name found.0 c.args.self.now.geometries h.geometries (not_other name (codes "type") (codes "geometries") same refl);
      },
    )

pub returns-then-is-2 : goal.returns-then-is-2
returns-then-is-2 c =
    let d = c.args.depth_left in
    let name = name_of c.args.name.now in
    let found = c.in_ok-found.ensures in
    let same = sym c.if-is-2.ensures in (
      found.0,
      found.1,
      λ ms h. record {
        kind = passes IsType (codes "type") ms name found.0 c.args.self.now.kind h.kind (not_other name (codes "coordinates") (codes "type") same refl);
        coordinates = subst (λ s. IsOccurrence (IsCoordinates c.args.start d) (named (codes "coordinates") (ms ++ (name, found.0) ∷ [])) s) (sym c.see-then-is-2.ensures)
            (sees (IsCoordinates c.args.start d) (codes "coordinates") ms name found.0 c.args.self.now.coordinates h.coordinates c.in_ok-found.found same found.2);
        geometries = passes (IsGroup c.args.start) (codes "geometries") ms name found.0 c.args.self.now.geometries h.geometries (not_other name (codes "coordinates") (codes "geometries") same refl);
      },
    )

pub returns : goal.returns
returns c =
    let d = c.args.depth_left in
    let name = name_of c.args.name.now in
    passed_over (IsParts c.args.start d) d name c.args.value.now c.args.self.now c.args.self.now
    (λ v ms h. record {
      kind = passes IsType (codes "type") ms name v c.args.self.now.kind h.kind (sym c.if-is.ensures);
      coordinates = passes (IsCoordinates c.args.start d) (codes "coordinates") ms name v c.args.self.now.coordinates h.coordinates (sym c.if-is-2.ensures);
      geometries = passes (IsGroup c.args.start) (codes "geometries") ms name v c.args.self.now.geometries h.geometries c.requires;
    }) c.after_value.result c.after_value.ensures
