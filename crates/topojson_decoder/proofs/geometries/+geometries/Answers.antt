use Rattle.std.proofs.Common.{[], ◌-◌, List, Ok, ap, length, sym, ◌∙◌, arith}
use Rattle.std.specs.Option.{option_copied}
use Rattle.std.proofs.lemmas.Result.{err_from_is_err_and}
use Rattle.json_value.specs.declared.json.Json.TheVariants as j
use Rattle.topojson_types.specs.Topologies.{TopoShape}
use Rattle.json_cursor.specs.Arrays.{prefix_elements, prefix_value}
use Rattle.json_cursor.specs.Names.{name_of}
use Rattle.json_cursor.proofs.KeptSoFar as held
use Rattle.json_cursor.proofs.MemberParts as members
use Rattle.json_cursor.proofs.MemberParts.{malformed}
use Rattle.json_cursor.proofs.Openings.{is_empty, is_filled, is_no_array, is_no_object, members_fail, no_members, object_deep, some_members, too_deep}
use Rattle.topojson_meaning.specs.Shapes.{shape}
use Rattle.topojson_decoder.specs.Geometries.{IsParts}
use Rattle.topojson_decoder.proofs.GeometryParts as part
use Rattle.topojson_decoder.proofs.MemberOccurrences.{member_goes_on}
use Rattle.topojson_decoder.proofs.PartsSeen as occurrence
use Rattle.topojson_decoder.proofs.geometries.+geometries.Goals as goal

pub member_value-returns-then-is_name : goal.member_value-returns-then-is_name
member_value-returns-then-is_name t c =
    let found = c.in_ok-shapes.ensures in
    record {
      value = found.0;
      prefix = found.1;
      holds = λ ms h. occurrence.sees_geometries c.args.start c.args.depth_left ms c.args.parts.now c.args.name.now found.0 h _ _ c.see.ensures (sym c.if-is_name.ensures) found.2;
    }

pub member_at-returns : goal.member_at-returns
member_at-returns t c =
    member_goes_on (IsParts c.args.start c.args.depth_left) c.args.depth_left c.args.parts.now _ c.args.bytes.now (name_of c.in_ok-name.name) c.in_ok-name.value.now (c.in_ok-name.ensures c.args.depth_left)
    c.member_value.result (rw c.as_str.ensures at c.member_value.ensures)

pub members_after-returns-in_err-following : goal.members_after-returns-in_err-following
members_after-returns-in_err-following t c =
    let p = err_from_is_err_and c.from_residual.result c.from_residual.ensures.1 in
    rw (p.1, p.2)
    (members.no_member (IsParts c.args.start c.args.depth_left) _ _ _ _ _ _ _ c.members.invariant c.members-test.true _ (rw c.skip.ensures at c.in_err-following.ensures))

pub members_after-returns-in-Some : goal.members_after-returns-in-Some
members_after-returns-in-Some t c =
    members.ends (IsParts c.args.start c.args.depth_left) _ _ _ _ _ _ _ c.members.invariant c.members-test.true _ _ (rw c.skip.ensures at c.in_ok-following.ensures) _ (rw c.skip-mark.ensures at c.in-Some.ensures)

pub members_after-returns-in_default-after_byte : goal.members_after-returns-in_default-after_byte
members_after-returns-in_default-after_byte t c =
    malformed _ _ c.broken.ensures
    (members.breaks (IsParts c.args.start c.args.depth_left) _ _ _ _ _ _ _ c.members.invariant c.members-test.true _ _ (rw c.skip.ensures at c.in_ok-following.ensures) (rw c.skip-mark.ensures at c.in_default.ensures) (rw c.skip-mark.ensures at c.in_default-after_byte.ensures))

pub members_after-members-preserved : goal.members_after-members-preserved
members_after-members-preserved t c =
    members.goes_on (IsParts c.args.start c.args.depth_left) _ _ _ _ _ _ _ c.members.invariant c.members-test.true _ _ (rw c.skip.ensures at c.in_ok-following.ensures) _ (rw c.skip-mark.ensures at c.in-Some-after_byte.ensures)

pub members_after-returns : goal.members_after-returns
members_after-returns t c =
    malformed _ _ c.broken-2.ensures (members.turns_over (IsParts c.args.start c.args.depth_left) _ _ _ _ _ _ _ c.members.invariant c.members-test.false)

pub members_at-returns-in_default : goal.members_at-returns-in_default
members_at-returns-in_default t c = is_no_object c.args.depth_left c.args.bytes.now c.in_default.ensures

pub members_at-returns-then-depth_left-eq0 : goal.members_at-returns-then-depth_left-eq0
members_at-returns-then-depth_left-eq0 t c = malformed _ _ c.broken.ensures (object_deep c.args.depth_left c.args.bytes.now _ c.in-Some.ensures c.if-depth_left-eq0.true)

pub members_at-returns-in-Some-after_byte : goal.members_at-returns-in-Some-after_byte
members_at-returns-in-Some-after_byte t c = record {
  depth_left = omega (arith, c.if-depth_left-eq0.false);
  members = [];
  prefix = no_members c.args.depth_left c.args.bytes.now _ c.in-Some.ensures c.if-depth_left-eq0.false _ (rw c.skip.ensures at c.in-Some-after_byte.ensures);
  holds = λ h. h;
}

pub members_at-returns-in_err-rest : goal.members_at-returns-in_err-rest
members_at-returns-in_err-rest t c =
    let p = err_from_is_err_and c.from_residual.result c.from_residual.ensures.1 in
    rw (p.1, p.2)
    (members_fail c.args.depth_left c.args.bytes.now _ c.in-Some.ensures c.if-depth_left-eq0.false (rw c.skip.ensures at c.in_default-after_byte.ensures) _ c.in_err-rest.ensures)

pub members_at-returns : goal.members_at-returns
members_at-returns t c =
    let made = c.in_ok-rest.ensures in
    record {
      depth_left = omega (arith, c.if-depth_left-eq0.false);
      members = made.members;
      prefix = some_members c.args.depth_left c.args.bytes.now _ c.in-Some.ensures c.if-depth_left-eq0.false (rw c.skip.ensures at c.in_default-after_byte.ensures) made.members _ made.prefix;
      holds = made.holds;
    }

pub geometry_into-returns-in_default : goal.geometry_into-returns-in_default
geometry_into-returns-in_default t c = λ none.
    let found = c.in_ok-rest-2.ensures in
    (found.0, found.1, part.no_object (option_copied c.args.start.transform) c.args.start.arcs.now found.0 c.args.start.counts ((rw c.in_default.is at c.in_ok-rest.ensures) found.0 _ found.1))

pub geometry_into-returns-in-Ok : goal.geometry_into-returns-in-Ok
geometry_into-returns-in-Ok t c = λ none.
    let object = rw c.in-Some.is at c.in_ok-rest.ensures in
    (j.Object object.members, object.prefix, part.object_shape (option_copied c.args.start.transform) c.args.start.arcs.now object.members c.args.start.counts ∙ c.in-Ok.ensures object.members (object.holds (none (c.args.depth_left - 1))))

pub geometry_into-returns-in-Err-Fault : goal.geometry_into-returns-in-Err-Fault
geometry_into-returns-in-Err-Fault t c = λ none.
    let object = rw c.in-Some.is at c.in_ok-rest.ensures in
    (j.Object object.members, object.prefix, part.object_shape (option_copied c.args.start.transform) c.args.start.arcs.now object.members c.args.start.counts ∙ (rw c.in-Err-Fault.field-0-is at c.in-Err-Fault.ensures) object.members (object.holds (none (c.args.depth_left - 1))))

pub geometry_into-returns-in-Err-NoValue : goal.geometry_into-returns-in-Err-NoValue
geometry_into-returns-in-Err-NoValue t c = λ none.
    let object = rw c.in-Some.is at c.in_ok-rest.ensures in
    absurd ((rw c.in-Err-NoValue.field-0-is at c.in-Err-NoValue.ensures) object.members (object.holds (none (c.args.depth_left - 1))))

pub held_geometry_at-returns : goal.held_geometry_at-returns
held_geometry_at-returns t c = rw c.after.ensures at (c.geometry_into.ensures (λ d. c.none-parts.ensures _ d))

pub geometries_at-returns-in_default : goal.geometries_at-returns-in_default
geometries_at-returns-in_default t c =
    let found = c.in_ok-rest.ensures in
    (found.0, found.1, part.no_array (option_copied c.args.by.transform) c.args.by.arcs.now found.0 c.args.counts.now (is_no_array c.args.depth_left c.args.bytes.now c.in_default.ensures found.0 _ found.1))

pub geometries_at-returns-then-depth_left-eq0 : goal.geometries_at-returns-then-depth_left-eq0
geometries_at-returns-then-depth_left-eq0 t c = malformed _ _ c.broken.ensures (too_deep c.args.depth_left c.args.bytes.now _ c.in-Some.ensures c.if-depth_left-eq0.true)

pub geometries_at-returns-in-Some-after_byte : goal.geometries_at-returns-in-Some-after_byte
geometries_at-returns-in-Some-after_byte t c =
    let transform = option_copied c.args.by.transform in
    let r = part.no_elements transform c.args.by.arcs.now (prefix_value c.args.depth_left c.args.bytes.now) _ c.args.counts.now
    (is_empty c.args.depth_left c.args.bytes.now _ c.in-Some.ensures c.if-depth_left-eq0.false _ (rw c.skip.ensures at c.in-Some-after_byte.ensures)) in
    (r.value, r.prefix_is, r.means ∙ ap (λ (ss : List TopoShape). Ok (ss, c.args.counts.now)) (sym (c.of.ensures ∙ c.new.ensures.items)))

pub geometries_at-returns : goal.geometries_at-returns
geometries_at-returns t c =
    part.array_held (option_copied c.args.by.transform) c.args.by.arcs.now (prefix_elements (c.args.depth_left - 1) (length c.in-Some.inside.now) c.in-Some.inside.now) c.args.counts.now _ c.args.depth_left c.args.bytes.now
    (is_filled c.args.depth_left c.args.bytes.now _ c.in-Some.ensures c.if-depth_left-eq0.false (rw c.skip.ensures at c.in_default-after_byte.ensures)) c.geometries_after.result c.geometries_after.ensures

pub geometries_after-geometries-init : goal.geometries_after-geometries-init
geometries_after-geometries-init t c =
    rw c.new-read.ensures.items (held.starts (shape (option_copied c.args.by.transform) c.args.by.arcs.now) c.args.depth_left (length c.args.inside.now) c.args.inside.now c.args.counts.now)

pub geometries_after-returns-in_err-one : goal.geometries_after-returns-in_err-one
geometries_after-returns-in_err-one t c =
    let p = err_from_is_err_and c.from_residual.result c.from_residual.ensures.1 in
    rw (p.1, p.2)
    (held.no_element (shape (option_copied c.args.by.transform) c.args.by.arcs.now) c.args.depth_left (length c.args.inside.now) c.args.inside.now c.args.counts.now _ _ _ _ c.geometries.invariant c.geometries-test.true _ (rw c.skip.ensures at c.in_err-one.ensures))

pub geometries_after-returns-in_err-end-in-Err : goal.geometries_after-returns-in_err-end-in-Err
geometries_after-returns-in_err-end-in-Err t c =
    let p = err_from_is_err_and c.from_residual-in_err-end-in-Err.result c.from_residual-in_err-end-in-Err.ensures.1 in
    let found = rw c.skip.ensures at c.in_ok-one.ensures in
    rw (p.1, p.2)
    (held.others_fail (shape (option_copied c.args.by.transform) c.args.by.arcs.now) c.args.depth_left (length c.args.inside.now) c.args.inside.now c.args.counts.now _ _ _ _ c.geometries.invariant c.geometries-test.true found.0 _ found.1 _ c.in_err-end-in-Err.ensures)

pub geometries_after-returns-in-Err : goal.geometries_after-returns-in-Err
geometries_after-returns-in-Err t c =
    let found = rw (c.skip.ensures, c.in-Err.is) at c.in_ok-one.ensures in
    held.faulty (shape (option_copied c.args.by.transform) c.args.by.arcs.now) c.args.depth_left (length c.args.inside.now) c.args.inside.now c.args.counts.now _ _ _ _ c.geometries.invariant c.geometries-test.true found.0 _ found.1 _ found.2 _ c.in_ok-end-in-Err.ensures

pub geometries_after-returns-in-Neither : goal.geometries_after-returns-in-Neither
geometries_after-returns-in-Neither t c =
    let found = rw (c.skip.ensures, c.in-Ok.is) at c.in_ok-one.ensures in
    malformed _ _ c.broken.ensures
    (held.breaks (shape (option_copied c.args.by.transform) c.args.by.arcs.now) c.args.depth_left (length c.args.inside.now) c.args.inside.now c.args.counts.now _ _ _ _ c.geometries.invariant c.geometries-test.true found.0 _ found.1 _ _ found.2 (rw c.in-Neither.is at c.mark_at-mark.ensures))

pub geometries_after-returns-in-Close : goal.geometries_after-returns-in-Close
geometries_after-returns-in-Close t c =
    let found = rw (c.skip.ensures, c.in-Ok.is) at c.in_ok-one.ensures in
    rw (c.of.ensures, c.in_ok-push_some-in-Ok.ensures)
    (held.ends (shape (option_copied c.args.by.transform) c.args.by.arcs.now) c.args.depth_left (length c.args.inside.now) c.args.inside.now c.args.counts.now _ _ _ _ c.geometries.invariant c.geometries-test.true found.0 _ found.1 _ _ found.2 _ (rw c.in-Close.is at c.mark_at-mark.ensures))

pub geometries_after-geometries-preserved : goal.geometries_after-geometries-preserved
geometries_after-geometries-preserved t c =
    let found = rw (c.skip.ensures, c.in-Ok.is) at c.in_ok-one.ensures in
    rw c.in_ok-push_some-in-Ok.ensures
    (held.goes_on (shape (option_copied c.args.by.transform) c.args.by.arcs.now) c.args.depth_left (length c.args.inside.now) c.args.inside.now c.args.counts.now _ _ _ _ c.geometries.invariant c.geometries-test.true found.0 _ found.1 _ _ found.2 _ (rw c.in-Comma.is at c.mark_at-mark.ensures))

pub geometries_after-returns : goal.geometries_after-returns
geometries_after-returns t c =
    malformed _ _ c.broken-2.ensures
    (held.turns_over (shape (option_copied c.args.by.transform) c.args.by.arcs.now) c.args.depth_left (length c.args.inside.now) c.args.inside.now c.args.counts.now _ _ _ _ c.geometries.invariant c.geometries-test.false)
