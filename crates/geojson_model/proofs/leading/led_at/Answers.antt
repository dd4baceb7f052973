use Rattle.std.proofs.Common.{◌∷◌, ◌-◌, ◌∙◌, ap, arith}
use Rattle.std.specs.Prelude.{codes}
use Rattle.std.proofs.lemmas.Result.{err_from_is_err_and}
use Rattle.json_value.specs.declared.json.Json.TheVariants as j
use Rattle.json_cursor.specs.Names.{name_of}
use Rattle.json_cursor.proofs.Openings.{some_members}
use Rattle.geojson_model.proofs.MemberOccurrences.{member_found}
use Rattle.geojson_model.proofs.UsualGeometries.{begin_so, first_fails_all, members_of, two_members}
use Rattle.geojson_model.proofs.leading.led_at.Goals as goal

pub returns-clause-begins : goal.returns-clause-begins
returns-clause-begins c = λ v after end found close.
    let d = c.args.depth_left - 1 in
    let name = name_of c.in-Some-2.name in
    let text = (rw c.in-Some-2.is at c.in_ok-name.ensures) d in
    let first = member_found d _ (name_of c.in-Some-named_at.word) c.in-Some-named_at.value.now c.in-Some-2.rest.now (j.Text name) (rw c.skip-2.ensures at (c.in-Some-named_at.ensures.member d)) text in
    let second = member_found d _ (name_of c.in-Some-named_at-2.part) c.in-Some-named_at-2.prefix.now after v (rw c.skip-4.ensures at (c.in-Some-named_at-2.ensures.member d)) found in
    let comma = rw c.skip-3.ensures at c.in-Some-after_byte-2.ensures in
    let members = two_members d c.in-Some.inside.now _ _ c.in-Some-2.rest.now c.in-Some-after_byte-2.more.now after end first comma second close (omega (arith, c.if-inside-lt2.false)) in (
      name,
      rw c.as_str.ensures at (rw c.in-Some-named.is at c.coordinates_named-named.ensures),
      rw (c.in-Some-named_at.ensures.word, c.in-Some-named_at-2.ensures.word)
          at (some_members c.args.depth_left c.args.bytes.now c.in-Some.inside.now c.in-Some.ensures c.if-depth_left-eq0.false (rw c.skip.ensures at c.in_default-after_byte.ensures) _ end members),
    )

pub returns-clause-leads : goal.returns-clause-leads
returns-clause-leads c = λ v end found.
    let d = c.args.depth_left - 1 in
    let name = name_of c.in-Some-2.name in
    let text = (rw c.in-Some-2.is at c.in_ok-name.ensures) d in
    let first = member_found d _ (name_of c.in-Some-named_at.word) c.in-Some-named_at.value.now c.in-Some-2.rest.now (j.Text name) (rw c.skip-2.ensures at (c.in-Some-named_at.ensures.member d)) text in
    let second = rw c.skip-4.ensures at (c.in-Some-named_at-2.ensures.member d) in
    let comma = rw c.skip-3.ensures at c.in-Some-after_byte-2.ensures in
    let object = members_of c.args.depth_left c.args.bytes.now c.in-Some.inside.now c.in-Some.ensures c.if-depth_left-eq0.false (rw c.skip.ensures at c.in_default-after_byte.ensures) v end found in
    let two = begin_so d c.in-Some.inside.now _ c.in-Some-2.rest.now c.in-Some-after_byte-2.more.now _ c.in-Some-named_at-2.prefix.now first comma second (omega (arith, c.if-inside-lt2.false)) object.0 end object.1.0 in
    record {
      name = name;
      typed = rw c.as_str.ensures at (rw c.in-Some-named.is at c.coordinates_named-named.ensures);
      part = two.0;
      after = two.1.0;
      found = two.1.1.1.0;
      more = two.1.1.0;
      object = object.1.1 ∙ ap j.Object (two.1.1.1.1 ∙ ap (λ n. (n, j.Text name) ∷ (name_of c.in-Some-named_at-2.part, two.0) ∷ two.1.1.0) c.in-Some-named_at.ensures.word
          ∙ ap (λ n. (codes "type", j.Text name) ∷ (n, two.0) ∷ two.1.1.0) (c.in-Some-named_at-2.ensures.word));
    }

pub returns-in_err-name-clause-fails : goal.returns-in_err-name-clause-fails
returns-in_err-name-clause-fails c =
    let d = c.args.depth_left - 1 in
    let p = err_from_is_err_and c.from_residual.result c.from_residual.ensures.1 in
    rw (p.1, p.2) (first_fails_all c.args.depth_left c.args.bytes.now c.in-Some.inside.now c.in-Some.ensures c.if-depth_left-eq0.false (rw c.skip.ensures at c.in_default-after_byte.ensures) (omega (arith, c.if-inside-lt2.false))
    _ c.in-Some-named_at.value.now (rw c.skip-2.ensures at (c.in-Some-named_at.ensures.member d)) _ (c.in_err-name.ensures d))
