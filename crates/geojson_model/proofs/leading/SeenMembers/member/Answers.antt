use Rattle.std.proofs.Common.{[], ◌++◌, ◌∷◌, refl, subst, sym}
use Rattle.std.specs.Prelude.{codes}
use Rattle.json_cursor.specs.Names.{name_of}
use Rattle.geojson_meaning.specs.Members.{named}
use Rattle.geojson_model.specs.Members.{IsOccurrence, IsSeen}
use Rattle.geojson_model.proofs.MemberOccurrences.{member_sees, not_other, passed_over, passes, sees}
use Rattle.geojson_model.proofs.leading.SeenMembers.member.Goals as goal

pub returns-then-is : goal.returns-then-is
returns-then-is c =
    let d = c.args.depth_left in
    let name = name_of c.in_ok-name.name in
    let value = c.in_ok-name.value.now in
    let seen = c.args.self.now in
    let same = sym c.if-is.ensures in
    member_sees IsSeen d c.args.bytes.now name value seen _ (c.in_ok-name.ensures d) c.after_value.result
    (passed_over IsSeen d name value seen _
    (λ v ms h. record {
      kind = subst (λ s. IsOccurrence (λ w x. Unit {0}) (named (codes "type") (ms ++ (name, v) ∷ [])) s) (sym c.see.ensures) (sees (λ w x. Unit {0}) (codes "type") ms name v seen.kind h.kind _ same tt);
      coordinates = passes (λ w x. Unit {0}) (codes "coordinates") ms name v seen.coordinates h.coordinates (not_other name (codes "type") (codes "coordinates") same refl);
    }) c.after_value.result c.after_value.ensures)

pub returns-then-is-2 : goal.returns-then-is-2
returns-then-is-2 c =
    let d = c.args.depth_left in
    let name = name_of c.in_ok-name.name in
    let value = c.in_ok-name.value.now in
    let seen = c.args.self.now in
    let same = sym c.if-is-2.ensures in
    member_sees IsSeen d c.args.bytes.now name value seen _ (c.in_ok-name.ensures d) c.after_value-then-is-2.result
    (passed_over IsSeen d name value seen _
    (λ v ms h. record {
      kind = passes (λ w x. Unit {0}) (codes "type") ms name v seen.kind h.kind (not_other name (codes "coordinates") (codes "type") same refl);
      coordinates = subst (λ s. IsOccurrence (λ w x. Unit {0}) (named (codes "coordinates") (ms ++ (name, v) ∷ [])) s) (sym c.see-then-is-2.ensures) (sees (λ w x. Unit {0}) (codes "coordinates") ms name v seen.coordinates h.coordinates _ same tt);
    }) c.after_value-then-is-2.result c.after_value-then-is-2.ensures)

pub returns : goal.returns
returns c =
    let d = c.args.depth_left in
    let name = name_of c.in_ok-name.name in
    let value = c.in_ok-name.value.now in
    let seen = c.args.self.now in
    member_sees IsSeen d c.args.bytes.now name value seen _ (c.in_ok-name.ensures d) c.after_value-2.result
    (passed_over IsSeen d name value seen _
    (λ v ms h. record {
      kind = passes (λ w x. Unit {0}) (codes "type") ms name v seen.kind h.kind (sym c.if-is.ensures);
      coordinates = passes (λ w x. Unit {0}) (codes "coordinates") ms name v seen.coordinates h.coordinates (sym c.if-is-2.ensures);
    }) c.after_value-2.result c.after_value-2.ensures)
