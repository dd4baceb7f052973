use Rattle.std.proofs.Common.{ℕ, ◌-◌, List, length, refl, sym, ◌∙◌, arith}
use Rattle.json_value.specs.declared.json.Json.{Json}
use Rattle.json_reading.proofs.ListLoop as loop
use Rattle.json_reading.proofs.Opened as opened
use Rattle.json_reading.proofs.Steps.{none_fails}
use Rattle.std.proofs.lemmas.Result.{err_from_is_err_and}
use Rattle.std.specs.Prelude.{codes}
use Rattle.json_value.specs.Text.{json_text, quoted}
use Rattle.json_value.specs.Reading.{skip, name_at, number_at, member_at, value_at, array_at, object_at, elements_at, members_at}
use Rattle.json_cursor.specs.Copying.{any, whole_member, elements_text, members_text}
use Rattle.json_cursor.proofs.Copied.{null_copied, true_copied, false_copied, string_copied, number_value_copied, array_copied, object_copied, member_copied}
use Rattle.json_cursor.proofs.Failed.{copies_on, word_on, null_fails, true_fails, false_fails, quoted_fails}
use Rattle.json_cursor.proofs.CopiedLists.{starts, goes_on, ends, none_copied, some_copied}
use Rattle.json_cursor.proofs.copied_values.+copier.Goals as goal

-- ---- values

pub copy_value-returns-in-110 : goal.copy_value-returns-in-110
copy_value-returns-in-110 t c =
    word_on (codes "null") (value_at any c.args.deepest) json_text c.args.bytes.now c.args.text.now.items _ (λ rest is text. null_copied c.args.deepest c.args.bytes.now rest.now c.args.text.now.items _ is text)
    (null_fails c.args.deepest _ c.args.bytes.now _ c.in-Some.ensures c.in-110.is) c.copy_word.result c.copy_word.ensures

pub copy_value-returns-in-116 : goal.copy_value-returns-in-116
copy_value-returns-in-116 t c =
    word_on (codes "true") (value_at any c.args.deepest) json_text c.args.bytes.now c.args.text.now.items _ (λ rest is text. true_copied c.args.deepest c.args.bytes.now rest.now c.args.text.now.items _ is text)
    (true_fails c.args.deepest _ c.args.bytes.now _ c.in-Some.ensures c.in-116.is) c.copy_word-in-116.result c.copy_word-in-116.ensures

pub copy_value-returns-in-102 : goal.copy_value-returns-in-102
copy_value-returns-in-102 t c =
    word_on (codes "false") (value_at any c.args.deepest) json_text c.args.bytes.now c.args.text.now.items _ (λ rest is text. false_copied c.args.deepest c.args.bytes.now rest.now c.args.text.now.items _ is text)
    (false_fails c.args.deepest _ c.args.bytes.now _ c.in-Some.ensures c.in-102.is) c.copy_word-in-102.result c.copy_word-in-102.ensures

pub copy_value-returns-in-34 : goal.copy_value-returns-in-34
copy_value-returns-in-34 t c =
    copies_on (name_at any) quoted (value_at any c.args.deepest) json_text c.args.bytes.now c.args.bytes.now c.args.text.now.items c.args.text.now.items _
    (λ rest k. string_copied c.args.deepest c.args.bytes.now rest.now c.args.text.now.items _ _ _ c.in-Some.ensures c.in-34.is k)
    (quoted_fails c.args.deepest _ c.args.bytes.now _ c.in-Some.ensures c.in-34.is (opened.text_fails any c.args.deepest _ c.args.bytes.now _ c.in-Some.ensures c.in-34.is)) c.copy_string.result c.copy_string.ensures

pub copy_value-returns-in-91 : goal.copy_value-returns-in-91
copy_value-returns-in-91 t c =
    copies_on (array_at any (c.args.deepest - 1)) elements_text (value_at any c.args.deepest) json_text _ c.args.bytes.now c.args.text.now.items _ _
    (λ rest k. array_copied c.args.deepest c.args.bytes.now rest.now c.args.text.now.items _ _ _ c.in-Some.ensures _ c.in-91.is c.if-deepest-eq0.false c.in_ok-push-in-91.ensures.items k)
    (opened.array_fails any c.args.deepest _ c.args.bytes.now _ c.in-Some.ensures c.in-91.is c.if-deepest-eq0.false) c.copy_array.result c.copy_array.ensures

pub copy_value-returns-in-123 : goal.copy_value-returns-in-123
copy_value-returns-in-123 t c =
    copies_on (object_at any (c.args.deepest - 1)) members_text (value_at any c.args.deepest) json_text _ c.args.bytes.now c.args.text.now.items _ _
    (λ rest k. object_copied c.args.deepest c.args.bytes.now rest.now c.args.text.now.items _ _ _ c.in-Some.ensures _ c.in-123.is c.if-deepest-eq0-2.false c.in_ok-push-in-123.ensures.items k)
    (opened.object_fails any c.args.deepest _ c.args.bytes.now _ c.in-Some.ensures c.in-123.is c.if-deepest-eq0-2.false) c.copy_object.result c.copy_object.ensures

pub copy_value-returns : goal.copy_value-returns
copy_value-returns t c =
    copies_on number_at (λ t. t) (value_at any c.args.deepest) json_text c.args.bytes.now c.args.bytes.now c.args.text.now.items c.args.text.now.items _
    (λ rest k. number_value_copied c.args.deepest c.args.bytes.now rest.now c.args.text.now.items _ _ _ c.in-Some.ensures (omega arith) (omega arith) (omega arith) (omega arith) (omega arith) (omega arith) k)
    (opened.number_fails any c.args.deepest _ c.args.bytes.now _ c.in-Some.ensures (omega arith) (omega arith) (omega arith) (omega arith) (omega arith) (omega arith)) c.copy_number.result c.copy_number.ensures

pub copy_value-returns-in_default : goal.copy_value-returns-in_default
copy_value-returns-in_default t c = none_fails _ _ (opened.at_nothing any c.args.deepest c.args.bytes.now c.in_default.ensures)

pub copy_value-returns-then-deepest-eq0 : goal.copy_value-returns-then-deepest-eq0
copy_value-returns-then-deepest-eq0 t c = none_fails _ _ (opened.array_too_deep any c.args.deepest _ c.args.bytes.now _ c.in-Some.ensures c.in-91.is c.if-deepest-eq0.true)

pub copy_value-returns-then-deepest-eq0-2 : goal.copy_value-returns-then-deepest-eq0-2
copy_value-returns-then-deepest-eq0-2 t c = none_fails _ _ (opened.object_too_deep any c.args.deepest _ c.args.bytes.now _ c.in-Some.ensures c.in-123.is c.if-deepest-eq0-2.true)

-- ---- members

pub copy_member-returns : goal.copy_member-returns
copy_member-returns t c =
    let named = c.in_ok-name_end.ensures in
    let colon = rw c.skip-colon.ensures at c.in-Some.ensures in
    copies_on (value_at any c.args.deepest) json_text (member_at any (value_at any c.args.deepest)) whole_member (skip c.in-Some.following.now) c.args.bytes.now c.args.text.now.items _ _
    (λ rest k. member_copied c.args.deepest c.args.bytes.now c.in_ok-name_end.name_end.now c.in-Some.following.now rest.now c.args.text.now.items _ _ _ named colon c.in_ok-push.ensures.items k)
    (opened.value_fails any (value_at any c.args.deepest) c.args.bytes.now named.thing c.in_ok-name_end.name_end.now named.found c.in-Some.following.now colon) c.copy_value.result (rw c.skip.ensures at c.copy_value.ensures)

pub copy_member-returns-in_err-name_end : goal.copy_member-returns-in_err-name_end
copy_member-returns-in_err-name_end t c =
    let p = err_from_is_err_and c.from_residual.result c.from_residual.ensures.1 in
    rw (p.1, p.2) (opened.name_fails any (value_at any c.args.deepest) c.args.bytes.now _ c.in_err-name_end.ensures)

pub copy_member-returns-in_default : goal.copy_member-returns-in_default
copy_member-returns-in_default t c =
    let named = c.in_ok-name_end.ensures in
    none_fails _ _ (opened.no_colon any (value_at any c.args.deepest) c.args.bytes.now named.thing c.in_ok-name_end.name_end.now named.found (rw c.skip-colon.ensures at c.in_default.ensures))

-- ---- elements

pub copy_array-returns-in-Some : goal.copy_array-returns-in-Some
copy_array-returns-in-Some t c = none_copied 93 (value_at any c.args.deepest) json_text c.args.inside.now _ c.args.text.now.items _ (rw c.skip.ensures at c.in-Some.ensures) c.in_ok-push.ensures.items

pub copy_array-returns : goal.copy_array-returns
copy_array-returns t c =
    copies_on (elements_at any c.args.deepest (length c.args.inside.now)) elements_text (array_at any c.args.deepest) elements_text c.args.inside.now c.args.inside.now c.args.text.now.items c.args.text.now.items _
    (λ rest k. some_copied 93 (value_at any c.args.deepest) json_text c.args.inside.now rest.now c.args.text.now.items _ (rw c.skip.ensures at c.in_default.ensures) k)
    (λ e h. rw (opened.is_open _ 93 (value_at any c.args.deepest) c.args.inside.now (rw c.skip.ensures at c.in_default.ensures)) h) c.copy_elements.result c.copy_elements.ensures

pub copy_elements-loop-init : goal.copy_elements-loop-init
copy_elements-loop-init t c = starts 93 (value_at any c.args.deepest) json_text _ c.args.inside.now c.args.text.now.items

pub copy_elements-loop-preserved : goal.copy_elements-loop-preserved
copy_elements-loop-preserved t c =
    goes_on 93 (value_at any c.args.deepest) json_text _ _ c.args.inside.now _ c.args.text.now.items _ c.loop.invariant c.loop-test.true _ _ (rw c.skip.ensures at c.in_ok-following.ensures) _ _ _
    (sym c.skip-after.ensures ∙ c.in-Some.ensures) c.in_ok-push.ensures.items c.if-mark-ne44.false

pub copy_elements-returns-then-mark-eq93 : goal.copy_elements-returns-then-mark-eq93
copy_elements-returns-then-mark-eq93 t c =
    ends 93 (value_at any c.args.deepest) json_text _ _ c.args.inside.now _ c.args.text.now.items _ c.loop.invariant c.loop-test.true _ _ (rw c.skip.ensures at c.in_ok-following.ensures) _ _ _
    (sym c.skip-after.ensures ∙ c.in-Some.ensures) c.in_ok-push.ensures.items refl c.if-mark-eq93.true

-- ---- members

pub copy_object-returns-in-Some : goal.copy_object-returns-in-Some
copy_object-returns-in-Some t c = none_copied 125 (member_at any (value_at any c.args.deepest)) whole_member c.args.inside.now _ c.args.text.now.items _ (rw c.skip.ensures at c.in-Some.ensures) c.in_ok-push.ensures.items

pub copy_object-returns : goal.copy_object-returns
copy_object-returns t c =
    copies_on (members_at any c.args.deepest (length c.args.inside.now)) members_text (object_at any c.args.deepest) members_text c.args.inside.now c.args.inside.now c.args.text.now.items c.args.text.now.items _
    (λ rest k. some_copied 125 (member_at any (value_at any c.args.deepest)) whole_member c.args.inside.now rest.now c.args.text.now.items _ (rw c.skip.ensures at c.in_default.ensures) k)
    (λ e h. rw (opened.is_open _ 125 (member_at any (value_at any c.args.deepest)) c.args.inside.now (rw c.skip.ensures at c.in_default.ensures)) h) c.copy_members.result c.copy_members.ensures

pub copy_members-loop-init : goal.copy_members-loop-init
copy_members-loop-init t c = starts 125 (member_at any (value_at any c.args.deepest)) whole_member _ c.args.inside.now c.args.text.now.items

pub copy_members-loop-preserved : goal.copy_members-loop-preserved
copy_members-loop-preserved t c =
    goes_on 125 (member_at any (value_at any c.args.deepest)) whole_member _ _ c.args.inside.now _ c.args.text.now.items _ c.loop.invariant c.loop-test.true _ _ (rw c.skip.ensures at c.in_ok-following.ensures) _ _ _
    (sym c.skip-after.ensures ∙ c.in-Some.ensures) c.in_ok-push.ensures.items c.if-mark-ne44.false

pub copy_members-returns-then-mark-eq125 : goal.copy_members-returns-then-mark-eq125
copy_members-returns-then-mark-eq125 t c =
    ends 125 (member_at any (value_at any c.args.deepest)) whole_member _ _ c.args.inside.now _ c.args.text.now.items _ c.loop.invariant c.loop-test.true _ _ (rw c.skip.ensures at c.in_ok-following.ensures) _ _ _
    (sym c.skip-after.ensures ∙ c.in-Some.ensures) c.in_ok-push.ensures.items refl c.if-mark-eq125.true

pub copy_elements-returns-in_err-following : goal.copy_elements-returns-in_err-following
copy_elements-returns-in_err-following t c =
    let p = err_from_is_err_and c.from_residual.result c.from_residual.ensures.1 in
    rw (p.1, p.2) (loop.fails Json 93 (value_at any c.args.deepest) _ _ _ _ _ c.loop.invariant.joins _ c.loop-test.true (rw c.skip.ensures at c.in_err-following.ensures))

pub copy_elements-returns-in_default : goal.copy_elements-returns-in_default
copy_elements-returns-in_default t c =
    let copied = rw c.skip.ensures at c.in_ok-following.ensures in
    none_fails _ _ (loop.at_nothing Json 93 (value_at any c.args.deepest) _ _ _ _ _ c.loop.invariant.joins _ _ c.loop-test.true copied.found (sym c.skip-after.ensures ∙ c.in_default.ensures))

pub copy_elements-returns-then-mark-ne44 : goal.copy_elements-returns-then-mark-ne44
copy_elements-returns-then-mark-ne44 t c =
    let copied = rw c.skip.ensures at c.in_ok-following.ensures in
    none_fails _ _ (loop.at_other Json 93 (value_at any c.args.deepest) _ _ _ _ _ c.loop.invariant.joins _ _ c.loop-test.true copied.found _ _ (sym c.skip-after.ensures ∙ c.in-Some.ensures) c.if-mark-eq93.false c.if-mark-ne44.true)

pub copy_elements-returns : goal.copy_elements-returns
copy_elements-returns t c = none_fails _ _ (loop.turns_over Json 93 (value_at any c.args.deepest) _ _ _ _ _ c.loop.invariant.joins c.loop-test.false)

pub copy_members-returns-in_err-following : goal.copy_members-returns-in_err-following
copy_members-returns-in_err-following t c =
    let p = err_from_is_err_and c.from_residual.result c.from_residual.ensures.1 in
    rw (p.1, p.2) (loop.fails (List ℕ × Json) 125 (member_at any (value_at any c.args.deepest)) _ _ _ _ _ c.loop.invariant.joins _ c.loop-test.true (rw c.skip.ensures at c.in_err-following.ensures))

pub copy_members-returns-in_default : goal.copy_members-returns-in_default
copy_members-returns-in_default t c =
    let copied = rw c.skip.ensures at c.in_ok-following.ensures in
    none_fails _ _ (loop.at_nothing (List ℕ × Json) 125 (member_at any (value_at any c.args.deepest)) _ _ _ _ _ c.loop.invariant.joins _ _ c.loop-test.true copied.found (sym c.skip-after.ensures ∙ c.in_default.ensures))

pub copy_members-returns-then-mark-ne44 : goal.copy_members-returns-then-mark-ne44
copy_members-returns-then-mark-ne44 t c =
    let copied = rw c.skip.ensures at c.in_ok-following.ensures in
    none_fails _ _ (loop.at_other (List ℕ × Json) 125 (member_at any (value_at any c.args.deepest)) _ _ _ _ _ c.loop.invariant.joins _ _ c.loop-test.true copied.found _ _ (sym c.skip-after.ensures ∙ c.in-Some.ensures) c.if-mark-eq125.false c.if-mark-ne44.true)

pub copy_members-returns : goal.copy_members-returns
copy_members-returns t c = none_fails _ _ (loop.turns_over (List ℕ × Json) 125 (member_at any (value_at any c.args.deepest)) _ _ _ _ _ c.loop.invariant.joins c.loop-test.false)
