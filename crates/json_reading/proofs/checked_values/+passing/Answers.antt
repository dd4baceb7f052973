use Rattle.std.proofs.Common.{ℕ, List, [], true, false, refl, sym, ◌∙◌, arith}
use Rattle.std.proofs.lemmas.Bool.{eq-eqb}
use Rattle.std.proofs.lemmas.Result.{err_from_is_err_and}
use Rattle.std.specs.Prelude.{codes}
use Rattle.std.specs.Str.{is_utf8}
use Rattle.json_value.specs.declared.json.Json.{Json}
use Rattle.json_value.specs.declared.json.Json.TheVariants as j
use Rattle.json_value.specs.Reading as spec
use Rattle.json_reading.proofs.ListLoop as loop
use Rattle.json_reading.proofs.Opened as opened
use Rattle.json_reading.proofs.Steps.{none_fails, no_comma}
use Rattle.json_reading.proofs.Passed.{passes_on, word_passed, number_passed, colon_fails}
use Rattle.json_reading.proofs.checked_values.+passing.Goals as goal

-- ---- values

pub passed_value-returns-in_default : goal.passed_value-returns-in_default
passed_value-returns-in_default t c = none_fails _ _ (opened.at_nothing is_utf8 c.args.deepest c.args.bytes.now c.in_default.ensures)

pub passed_value-returns-in-110 : goal.passed_value-returns-in-110
passed_value-returns-in-110 t c = rw (opened.at_n is_utf8 c.args.deepest _ c.args.bytes.now _ c.in-Some.ensures c.in-110.is) (word_passed (codes "ull") j.Null _ c.expected_word.result c.expected_word.ensures)

pub passed_value-returns-in-116 : goal.passed_value-returns-in-116
passed_value-returns-in-116 t c = rw (opened.at_t is_utf8 c.args.deepest _ c.args.bytes.now _ c.in-Some.ensures c.in-116.is) (word_passed (codes "rue") (j.Bool true) _ c.expected_word-in-116.result c.expected_word-in-116.ensures)

pub passed_value-returns-in-102 : goal.passed_value-returns-in-102
passed_value-returns-in-102 t c = rw (opened.at_f is_utf8 c.args.deepest _ c.args.bytes.now _ c.in-Some.ensures c.in-102.is) (word_passed (codes "alse") (j.Bool false) _ c.expected_word-in-102.result c.expected_word-in-102.ensures)

pub passed_value-returns-in-34 : goal.passed_value-returns-in-34
passed_value-returns-in-34 t c =
    passes_on j.Text _ _ (opened.text_found is_utf8 c.args.deepest _ c.args.bytes.now _ c.in-Some.ensures c.in-34.is) (opened.text_fails is_utf8 c.args.deepest _ c.args.bytes.now _ c.in-Some.ensures c.in-34.is) c.after_string.result c.after_string.ensures

pub passed_value-returns-then-deepest-eq0 : goal.passed_value-returns-then-deepest-eq0
passed_value-returns-then-deepest-eq0 t c = none_fails _ _ (opened.array_too_deep is_utf8 c.args.deepest _ c.args.bytes.now _ c.in-Some.ensures c.in-91.is c.if-deepest-eq0.true)

pub passed_value-returns-in-91 : goal.passed_value-returns-in-91
passed_value-returns-in-91 t c =
    passes_on j.Array _ _ (opened.array_found is_utf8 c.args.deepest _ c.args.bytes.now _ c.in-Some.ensures c.in-91.is c.if-deepest-eq0.false) (opened.array_fails is_utf8 c.args.deepest _ c.args.bytes.now _ c.in-Some.ensures c.in-91.is c.if-deepest-eq0.false) c.after_array.result c.after_array.ensures

pub passed_value-returns-then-deepest-eq0-2 : goal.passed_value-returns-then-deepest-eq0-2
passed_value-returns-then-deepest-eq0-2 t c = none_fails _ _ (opened.object_too_deep is_utf8 c.args.deepest _ c.args.bytes.now _ c.in-Some.ensures c.in-123.is c.if-deepest-eq0-2.true)

pub passed_value-returns-in-123 : goal.passed_value-returns-in-123
passed_value-returns-in-123 t c =
    passes_on j.Object _ _ (opened.object_found is_utf8 c.args.deepest _ c.args.bytes.now _ c.in-Some.ensures c.in-123.is c.if-deepest-eq0-2.false) (opened.object_fails is_utf8 c.args.deepest _ c.args.bytes.now _ c.in-Some.ensures c.in-123.is c.if-deepest-eq0-2.false) c.after_object.result c.after_object.ensures

pub passed_value-returns : goal.passed_value-returns
passed_value-returns t c =
    passes_on j.Number _ _ (opened.number_found is_utf8 c.args.deepest _ c.args.bytes.now _ c.in-Some.ensures (omega arith) (omega arith) (omega arith) (omega arith) (omega arith) (omega arith)) (opened.number_fails is_utf8 c.args.deepest _ c.args.bytes.now _ c.in-Some.ensures (omega arith) (omega arith) (omega arith) (omega arith) (omega arith) (omega arith)) c.after_number.result
    (number_passed c.args.bytes.now c.after_number.result c.after_number.ensures)

-- ---- arrays

pub after_array-returns-in-Some : goal.after_array-returns-in-Some
after_array-returns-in-Some t c = ([], opened.is_closed Json 93 (spec.value_at is_utf8 c.args.deepest) _ _ (rw c.skip.ensures at c.in-Some.ensures))

pub after_array-returns : goal.after_array-returns
after_array-returns t c = rw (opened.is_open Json 93 (spec.value_at is_utf8 c.args.deepest) _ (rw c.skip.ensures at c.in_default.ensures)) c.after_elements.ensures

pub after_elements-returns-in_err-after : goal.after_elements-returns-in_err-after
after_elements-returns-in_err-after t c =
    let p = err_from_is_err_and c.from_residual.result c.from_residual.ensures.1 in
    rw (p.1, p.2) (loop.fails Json 93 (spec.value_at is_utf8 c.args.deepest) _ _ _ _ _ c.loop.invariant.1 _ c.loop-test.true (rw c.skip.ensures at c.in_err-after.ensures))

pub after_elements-returns-in_default : goal.after_elements-returns-in_default
after_elements-returns-in_default t c = none_fails _ _ (loop.at_nothing Json 93 (spec.value_at is_utf8 c.args.deepest) _ _ _ _ _ c.loop.invariant.1 _ _ c.loop-test.true (rw c.skip.ensures at c.in_ok-after.ensures).1 (sym c.skip-after.ensures ∙ c.in_default.ensures))

pub after_elements-returns-then-mark-eq93 : goal.after_elements-returns-then-mark-eq93
after_elements-returns-then-mark-eq93 t c =
    (_, loop.at_end Json 93 (spec.value_at is_utf8 c.args.deepest) _ _ _ _ _ c.loop.invariant.1 _ _ c.loop-test.true (rw c.skip.ensures at c.in_ok-after.ensures).1 _ _ (sym c.skip-after.ensures ∙ c.in-Some.ensures) (no_comma _ 93 refl c.if-mark-eq93.true) (eq-eqb _ _ c.if-mark-eq93.true))

pub after_elements-returns-then-mark-ne44 : goal.after_elements-returns-then-mark-ne44
after_elements-returns-then-mark-ne44 t c =
    none_fails _ _ (loop.at_other Json 93 (spec.value_at is_utf8 c.args.deepest) _ _ _ _ _ c.loop.invariant.1 _ _ c.loop-test.true (rw c.skip.ensures at c.in_ok-after.ensures).1 _ _ (sym c.skip-after.ensures ∙ c.in-Some.ensures) c.if-mark-eq93.false c.if-mark-ne44.true)

pub after_elements-loop-preserved : goal.after_elements-loop-preserved
after_elements-loop-preserved t c = (_, loop.at_comma Json 93 (spec.value_at is_utf8 c.args.deepest) _ _ _ _ _ c.loop.invariant.1 _ _ c.loop-test.true (rw c.skip.ensures at c.in_ok-after.ensures).1 _ _ (sym c.skip-after.ensures ∙ c.in-Some.ensures) c.if-mark-ne44.false)

pub after_elements-returns : goal.after_elements-returns
after_elements-returns t c = none_fails _ _ (loop.turns_over Json 93 (spec.value_at is_utf8 c.args.deepest) _ _ _ _ _ c.loop.invariant.1 c.loop-test.false)

-- ---- objects

pub after_object-returns-in-Some : goal.after_object-returns-in-Some
after_object-returns-in-Some t c = ([], opened.is_closed (List ℕ × Json) 125 (spec.member_at is_utf8 (spec.value_at is_utf8 c.args.deepest)) _ _ (rw c.skip.ensures at c.in-Some.ensures))

pub after_object-returns : goal.after_object-returns
after_object-returns t c = rw (opened.is_open (List ℕ × Json) 125 (spec.member_at is_utf8 (spec.value_at is_utf8 c.args.deepest)) _ (rw c.skip.ensures at c.in_default.ensures)) c.after_members.ensures

pub after_members-returns-in_err-after : goal.after_members-returns-in_err-after
after_members-returns-in_err-after t c =
    let p = err_from_is_err_and c.from_residual.result c.from_residual.ensures.1 in
    rw (p.1, p.2) (loop.fails (List ℕ × Json) 125 (spec.member_at is_utf8 (spec.value_at is_utf8 c.args.deepest)) _ _ _ _ _ c.loop.invariant.1 _ c.loop-test.true (rw c.skip.ensures at c.in_err-after.ensures))

pub after_members-returns-in_default : goal.after_members-returns-in_default
after_members-returns-in_default t c = none_fails _ _ (loop.at_nothing (List ℕ × Json) 125 (spec.member_at is_utf8 (spec.value_at is_utf8 c.args.deepest)) _ _ _ _ _ c.loop.invariant.1 _ _ c.loop-test.true (rw c.skip.ensures at c.in_ok-after.ensures).1 (sym c.skip-after.ensures ∙ c.in_default.ensures))

pub after_members-returns-then-mark-eq125 : goal.after_members-returns-then-mark-eq125
after_members-returns-then-mark-eq125 t c =
    (_, loop.at_end (List ℕ × Json) 125 (spec.member_at is_utf8 (spec.value_at is_utf8 c.args.deepest)) _ _ _ _ _ c.loop.invariant.1 _ _ c.loop-test.true (rw c.skip.ensures at c.in_ok-after.ensures).1 _ _ (sym c.skip-after.ensures ∙ c.in-Some.ensures) (no_comma _ 125 refl c.if-mark-eq125.true) (eq-eqb _ _ c.if-mark-eq125.true))

pub after_members-returns-then-mark-ne44 : goal.after_members-returns-then-mark-ne44
after_members-returns-then-mark-ne44 t c =
    none_fails _ _ (loop.at_other (List ℕ × Json) 125 (spec.member_at is_utf8 (spec.value_at is_utf8 c.args.deepest)) _ _ _ _ _ c.loop.invariant.1 _ _ c.loop-test.true (rw c.skip.ensures at c.in_ok-after.ensures).1 _ _ (sym c.skip-after.ensures ∙ c.in-Some.ensures) c.if-mark-eq125.false c.if-mark-ne44.true)

pub after_members-loop-preserved : goal.after_members-loop-preserved
after_members-loop-preserved t c = (_, loop.at_comma (List ℕ × Json) 125 (spec.member_at is_utf8 (spec.value_at is_utf8 c.args.deepest)) _ _ _ _ _ c.loop.invariant.1 _ _ c.loop-test.true (rw c.skip.ensures at c.in_ok-after.ensures).1 _ _ (sym c.skip-after.ensures ∙ c.in-Some.ensures) c.if-mark-ne44.false)

pub after_members-returns : goal.after_members-returns
after_members-returns t c = none_fails _ _ (loop.turns_over (List ℕ × Json) 125 (spec.member_at is_utf8 (spec.value_at is_utf8 c.args.deepest)) _ _ _ _ _ c.loop.invariant.1 c.loop-test.false)

-- ---- members

pub after_member-returns-in_err-rest : goal.after_member-returns-in_err-rest
after_member-returns-in_err-rest t c =
    let p = err_from_is_err_and c.from_residual.result c.from_residual.ensures.1 in
    rw (p.1, p.2) (opened.name_fails is_utf8 (spec.value_at is_utf8 c.args.deepest) c.args.bytes.now _ c.in_err-rest.ensures)

pub after_member-returns-in_err-rest-2 : goal.after_member-returns-in_err-rest-2
after_member-returns-in_err-rest-2 t c =
    let p = err_from_is_err_and c.from_residual-in_err-rest-2.result c.from_residual-in_err-rest-2.ensures.1 in
    rw (p.1, p.2) (colon_fails is_utf8 (spec.value_at is_utf8 c.args.deepest) c.args.bytes.now _ _ c.in_ok-rest.ensures.1 _ (rw c.skip.ensures at c.in_err-rest-2.ensures))

pub after_member-returns : goal.after_member-returns
after_member-returns t c =
    let named = c.in_ok-rest.ensures.1 in
    let colon = sym (rw c.skip.ensures at c.in_ok-rest-2.ensures) in
    passes_on (λ v. (c.in_ok-rest.ensures.0, v)) _ _ (opened.member_found is_utf8 (spec.value_at is_utf8 c.args.deepest) c.args.bytes.now _ _ named _ colon) (opened.value_fails is_utf8 (spec.value_at is_utf8 c.args.deepest) c.args.bytes.now _ _ named _ colon) c.passed_value.result
    (rw c.skip-2.ensures at c.passed_value.ensures)
