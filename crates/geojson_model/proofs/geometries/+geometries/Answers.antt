use Rattle.std.proofs.Common.{[], ◌-◌, List, Ok, ap, length, refl, sym, ◌∙◌, arith}
use Rattle.std.proofs.lemmas.Result.{err_from_is_err_and}
use Rattle.json_value.specs.declared.json.Json.TheVariants as j
use Rattle.geojson_types.specs.Features.{Shape}
use Rattle.json_cursor.specs.Arrays.{prefix_elements, prefix_value}
use Rattle.json_cursor.specs.Names.{name_of}
use Rattle.json_cursor.proofs.KeptSoFar as held
use Rattle.json_cursor.proofs.MemberParts as members
use Rattle.json_cursor.proofs.MemberParts.{malformed}
use Rattle.json_cursor.proofs.Openings.{is_empty, is_filled, is_no_array, is_no_object, members_fail, no_members, object_deep, some_members, too_deep}
use Rattle.geojson_meaning.specs.Geometries.{shape}
use Rattle.geojson_meaning.specs.Members.{named}
use Rattle.std.proofs.Common.{◌++◌, ◌∷◌, subst}
use Rattle.std.specs.Prelude.{codes}
use Rattle.geojson_model.specs.Members.{IsCoordinates, IsGroup, IsOccurrence, IsParts, IsType}
use Rattle.geojson_model.proofs.GeometryParts as part
use Rattle.geojson_model.proofs.MemberOccurrences.{member_sees, not_other, passes, sees}
use Rattle.geojson_model.proofs.geometries.+geometries.Goals as goal

pub member_value-returns-then-is : goal.member_value-returns-then-is
member_value-returns-then-is t c =
    let d = c.args.depth_left in
    let name = name_of c.args.name.now in
    let found = c.in_ok-shapes.ensures in
    let same = sym c.if-is.ensures in
    let parts = c.args.parts.now in (
      found.0,
      found.1,
      λ ms h. record {
        kind = passes IsType (codes "type") ms name found.0 parts.kind h.kind (not_other name (codes "geometries") (codes "type") same refl);
        coordinates = passes (IsCoordinates c.args.start d) (codes "coordinates") ms name found.0 parts.coordinates h.coordinates (not_other name (codes "geometries") (codes "coordinates") same refl);
        geometries = subst (λ s. IsOccurrence (IsGroup c.args.start) (named (codes "geometries") (ms ++ (name, found.0) ∷ [])) s) (sym c.see.ensures) (sees (IsGroup c.args.start) (codes "geometries") ms name found.0 parts.geometries h.geometries _ same found.2);
      },
    )

pub member_at-returns : goal.member_at-returns
member_at-returns t c =
    member_sees (IsParts c.args.start c.args.depth_left) c.args.depth_left c.args.bytes.now (name_of c.in_ok-name.name) c.in_ok-name.value.now _ _ (c.in_ok-name.ensures c.args.depth_left) c.member_value.result c.member_value.ensures

pub members_after-returns-in_err-following : goal.members_after-returns-in_err-following
members_after-returns-in_err-following t c =
    let p = err_from_is_err_and c.from_residual.result c.from_residual.ensures.1 in
    rw (p.1, p.2)
    (members.no_member (IsParts c.args.start c.args.depth_left) _ _ _ _ _ _ _ c.members.invariant c.members-test.true _ (rw c.skip.ensures at c.in_err-following.ensures))

pub members_after-returns-in-Some : goal.members_after-returns-in-Some
members_after-returns-in-Some t c =
    members.ends (IsParts c.args.start c.args.depth_left) _ _ _ _ _ _ _ c.members.invariant c.members-test.true _ _ (rw c.skip.ensures at c.in_ok-following.ensures) _ (rw c.skip-mark.ensures at c.in-Some.ensures)

pub members_after-returns-in_default-after_byte : goal.members_after-returns-in_default-after_byte
members_after-returns-in_default-after_byte t c =
    malformed _ _ c.broken.ensures
    (members.breaks (IsParts c.args.start c.args.depth_left) _ _ _ _ _ _ _ c.members.invariant c.members-test.true _ _ (rw c.skip.ensures at c.in_ok-following.ensures) (rw c.skip-mark.ensures at c.in_default.ensures) (rw c.skip-mark.ensures at c.in_default-after_byte.ensures))

pub members_after-members-preserved : goal.members_after-members-preserved
members_after-members-preserved t c =
    members.goes_on (IsParts c.args.start c.args.depth_left) _ _ _ _ _ _ _ c.members.invariant c.members-test.true _ _ (rw c.skip.ensures at c.in_ok-following.ensures) _ (rw c.skip-mark.ensures at c.in-Some-after_byte.ensures)

pub members_after-returns : goal.members_after-returns
members_after-returns t c =
    malformed _ _ c.broken-2.ensures (members.turns_over (IsParts c.args.start c.args.depth_left) _ _ _ _ _ _ _ c.members.invariant c.members-test.false)

pub members_at-returns-in_default : goal.members_at-returns-in_default
members_at-returns-in_default t c = is_no_object c.args.depth_left c.args.bytes.now c.in_default.ensures

pub members_at-returns-then-depth_left-eq0 : goal.members_at-returns-then-depth_left-eq0
members_at-returns-then-depth_left-eq0 t c = malformed _ _ c.broken.ensures (object_deep c.args.depth_left c.args.bytes.now _ c.in-Some.ensures c.if-depth_left-eq0.true)

pub members_at-returns-in-Some-after_byte : goal.members_at-returns-in-Some-after_byte
members_at-returns-in-Some-after_byte t c = record {
  depth_left = omega (arith, c.if-depth_left-eq0.false);
  members = [];
  prefix = no_members c.args.depth_left c.args.bytes.now _ c.in-Some.ensures c.if-depth_left-eq0.false _ (rw c.skip.ensures at c.in-Some-after_byte.ensures);
  holds = λ h. h;
}

pub members_at-returns-in_err-rest : goal.members_at-returns-in_err-rest
members_at-returns-in_err-rest t c =
    let p = err_from_is_err_and c.from_residual.result c.from_residual.ensures.1 in
    rw (p.1, p.2)
    (members_fail c.args.depth_left c.args.bytes.now _ c.in-Some.ensures c.if-depth_left-eq0.false (rw c.skip.ensures at c.in_default-after_byte.ensures) _ c.in_err-rest.ensures)

pub members_at-returns : goal.members_at-returns
members_at-returns t c =
    let made = c.in_ok-rest.ensures in
    record {
      depth_left = omega (arith, c.if-depth_left-eq0.false);
      members = made.members;
      prefix = some_members c.args.depth_left c.args.bytes.now _ c.in-Some.ensures c.if-depth_left-eq0.false (rw c.skip.ensures at c.in_default-after_byte.ensures) made.members _ made.prefix;
      holds = made.holds;
    }

pub any_geometry_at-returns-in_ok-rest-in-Ok-None : goal.any_geometry_at-returns-in_ok-rest-in-Ok-None
any_geometry_at-returns-in_ok-rest-in-Ok-None t c =
    let found = c.in_ok-rest-in-Ok-None.ensures in
    (found.0, found.1, part.no_object c.args.exact found.0 c.args.counts.now ((rw c.in-Ok-None.field-0-is at c.in-Ok-None.ensures) found.0 _ found.1))

pub any_geometry_at-returns-in-Ok : goal.any_geometry_at-returns-in-Ok
any_geometry_at-returns-in-Ok t c =
    let object = rw c.in-Ok-Some.field-0-is at c.in-Ok-Some.ensures in
    (j.Object object.members, object.prefix, part.object_shape c.args.exact object.members c.args.counts.now ∙ c.in-Ok.ensures object.members (object.holds (c.none-parts.ensures _ (c.args.depth_left - 1))))

pub any_geometry_at-returns-in-Err-Fault : goal.any_geometry_at-returns-in-Err-Fault
any_geometry_at-returns-in-Err-Fault t c =
    let object = rw c.in-Ok-Some.field-0-is at c.in-Ok-Some.ensures in
    (j.Object object.members, object.prefix, part.object_shape c.args.exact object.members c.args.counts.now ∙ (rw c.in-Err-Fault.field-0-is at c.in-Err-Fault.ensures) object.members (object.holds (c.none-parts.ensures _ (c.args.depth_left - 1))))

pub any_geometry_at-returns-in-Err-NoValue : goal.any_geometry_at-returns-in-Err-NoValue
any_geometry_at-returns-in-Err-NoValue t c =
    let object = rw c.in-Ok-Some.field-0-is at c.in-Ok-Some.ensures in
    absurd ((rw c.in-Err-NoValue.field-0-is at c.in-Err-NoValue.ensures) object.members (object.holds (c.none-parts.ensures _ (c.args.depth_left - 1))))

pub held_geometry_at-returns-in-Ok : goal.held_geometry_at-returns-in-Ok
held_geometry_at-returns-in-Ok t c =
    let r = c.in-Ok.ensures in
    (r.value, r.prefix_is, r.means)

pub held_geometry_at-returns-in_ok-rest-in-Err-Fault : goal.held_geometry_at-returns-in_ok-rest-in-Err-Fault
held_geometry_at-returns-in_ok-rest-in-Err-Fault t c =
    let found = c.in_ok-rest-in-Err-Fault.ensures in
    (found.0, found.1, (rw c.in-Err-Fault.field-0-is at c.in-Err-Fault.ensures) found.0 _ found.1)

pub held_geometry_at-returns-in-Err-NoValue : goal.held_geometry_at-returns-in-Err-NoValue
held_geometry_at-returns-in-Err-NoValue t c = malformed _ _ c.broken.ensures (rw c.in-Err-NoValue.field-0-is at c.in-Err-NoValue.ensures)

pub geometries_at-returns-in_default : goal.geometries_at-returns-in_default
geometries_at-returns-in_default t c =
    let found = c.in_ok-rest.ensures in
    (found.0, found.1, part.no_array c.args.exact found.0 c.args.counts.now (is_no_array c.args.depth_left c.args.bytes.now c.in_default.ensures found.0 _ found.1))

pub geometries_at-returns-then-depth_left-eq0 : goal.geometries_at-returns-then-depth_left-eq0
geometries_at-returns-then-depth_left-eq0 t c = malformed _ _ c.broken.ensures (too_deep c.args.depth_left c.args.bytes.now _ c.in-Some.ensures c.if-depth_left-eq0.true)

pub geometries_at-returns-in-Some-after_byte : goal.geometries_at-returns-in-Some-after_byte
geometries_at-returns-in-Some-after_byte t c =
    let r = part.no_elements c.args.exact (prefix_value c.args.depth_left c.args.bytes.now) _ c.args.counts.now
    (is_empty c.args.depth_left c.args.bytes.now _ c.in-Some.ensures c.if-depth_left-eq0.false _ (rw c.skip.ensures at c.in-Some-after_byte.ensures)) in
    (r.value, r.prefix_is, r.means ∙ ap (λ (ss : List Shape). Ok (ss, c.args.counts.now)) (sym (c.of.ensures ∙ c.new.ensures.items)))

pub geometries_at-returns : goal.geometries_at-returns
geometries_at-returns t c =
    part.array_held c.args.exact (prefix_elements (c.args.depth_left - 1) (length c.in-Some.inside.now) c.in-Some.inside.now) c.args.counts.now _ c.args.depth_left c.args.bytes.now
    (is_filled c.args.depth_left c.args.bytes.now _ c.in-Some.ensures c.if-depth_left-eq0.false (rw c.skip.ensures at c.in_default-after_byte.ensures)) c.geometries_after.result c.geometries_after.ensures

pub geometries_after-geometries-init : goal.geometries_after-geometries-init
geometries_after-geometries-init t c =
    rw c.new-read.ensures.items (held.starts (shape c.args.exact) c.args.depth_left (length c.args.inside.now) c.args.inside.now c.args.counts.now)

pub geometries_after-returns-in_err-one : goal.geometries_after-returns-in_err-one
geometries_after-returns-in_err-one t c =
    let p = err_from_is_err_and c.from_residual.result c.from_residual.ensures.1 in
    rw (p.1, p.2)
    (held.no_element (shape c.args.exact) c.args.depth_left (length c.args.inside.now) c.args.inside.now c.args.counts.now _ _ _ _ c.geometries.invariant c.geometries-test.true _ (rw c.skip.ensures at c.in_err-one.ensures))

pub geometries_after-returns-in_err-end-in-Err : goal.geometries_after-returns-in_err-end-in-Err
geometries_after-returns-in_err-end-in-Err t c =
    let p = err_from_is_err_and c.from_residual-in_err-end-in-Err.result c.from_residual-in_err-end-in-Err.ensures.1 in
    let found = rw c.skip.ensures at c.in_ok-one.ensures in
    rw (p.1, p.2)
    (held.others_fail (shape c.args.exact) c.args.depth_left (length c.args.inside.now) c.args.inside.now c.args.counts.now _ _ _ _ c.geometries.invariant c.geometries-test.true found.0 _ found.1 _ c.in_err-end-in-Err.ensures)

pub geometries_after-returns-in-Err : goal.geometries_after-returns-in-Err
geometries_after-returns-in-Err t c =
    let found = rw (c.skip.ensures, c.in-Err.is) at c.in_ok-one.ensures in
    held.faulty (shape c.args.exact) c.args.depth_left (length c.args.inside.now) c.args.inside.now c.args.counts.now _ _ _ _ c.geometries.invariant c.geometries-test.true found.0 _ found.1 _ found.2 _ c.in_ok-end-in-Err.ensures

pub geometries_after-returns-in-Neither : goal.geometries_after-returns-in-Neither
geometries_after-returns-in-Neither t c =
    let found = rw (c.skip.ensures, c.in-Ok.is) at c.in_ok-one.ensures in
    malformed _ _ c.broken.ensures
    (held.breaks (shape c.args.exact) c.args.depth_left (length c.args.inside.now) c.args.inside.now c.args.counts.now _ _ _ _ c.geometries.invariant c.geometries-test.true found.0 _ found.1 _ _ found.2 (rw c.in-Neither.is at c.mark_at-mark.ensures))

pub geometries_after-returns-in-Close : goal.geometries_after-returns-in-Close
geometries_after-returns-in-Close t c =
    let found = rw (c.skip.ensures, c.in-Ok.is) at c.in_ok-one.ensures in
    rw (c.of.ensures, c.in_ok-push_some-in-Ok.ensures)
    (held.ends (shape c.args.exact) c.args.depth_left (length c.args.inside.now) c.args.inside.now c.args.counts.now _ _ _ _ c.geometries.invariant c.geometries-test.true found.0 _ found.1 _ _ found.2 _ (rw c.in-Close.is at c.mark_at-mark.ensures))

pub geometries_after-geometries-preserved : goal.geometries_after-geometries-preserved
geometries_after-geometries-preserved t c =
    let found = rw (c.skip.ensures, c.in-Ok.is) at c.in_ok-one.ensures in
    rw c.in_ok-push_some-in-Ok.ensures
    (held.goes_on (shape c.args.exact) c.args.depth_left (length c.args.inside.now) c.args.inside.now c.args.counts.now _ _ _ _ c.geometries.invariant c.geometries-test.true found.0 _ found.1 _ _ found.2 _ (rw c.in-Comma.is at c.mark_at-mark.ensures))

pub geometries_after-returns : goal.geometries_after-returns
geometries_after-returns t c =
    malformed _ _ c.broken-2.ensures
    (held.turns_over (shape c.args.exact) c.args.depth_left (length c.args.inside.now) c.args.inside.now c.args.counts.now _ _ _ _ c.geometries.invariant c.geometries-test.false)
