use Rattle.std.proofs.Common.{List, arith, ℕ, sym, ◌∙◌, refl}
use Rattle.std.proofs.lemmas.Bool.{eq-eqb}
use Rattle.std.proofs.lemmas.Result.{err_from_is_err_and}
use Rattle.json_value.specs.declared.json.Json.{Json}
use Rattle.std.specs.Str.{is_utf8}
use Rattle.json_value.specs.Reading as spec
use Rattle.json_reading.proofs.ListLoop as loop
use Rattle.json_reading.proofs.Opened as opened
use Rattle.json_reading.proofs.Steps.{none_fails, no_comma}
use Rattle.json_reading.proofs.values.+reader.Goals as goal

pub elements_at-returns-in_err-item : goal.elements_at-returns-in_err-item
elements_at-returns-in_err-item t c =
    let p = err_from_is_err_and c.from_residual-in_err-item.result c.from_residual-in_err-item.ensures.1 in
    rw (p.1, p.2) (loop.fails Json 93 (spec.value_at is_utf8 c.args.deepest) _ _ _ _ _ c.loop.invariant _ c.loop-test.true (rw c.skip.ensures at c.in_err-item.ensures))

pub elements_at-returns-in_default : goal.elements_at-returns-in_default
elements_at-returns-in_default t c = none_fails _ _
    (loop.at_nothing Json 93 (spec.value_at is_utf8 c.args.deepest) _ _ _ _ _ c.loop.invariant _ _ c.loop-test.true (rw c.skip.ensures at c.in_ok-item.ensures) (sym c.skip-after.ensures ∙ c.in_default.ensures))

pub elements_at-returns-then-mark-eq93 : goal.elements_at-returns-then-mark-eq93
elements_at-returns-then-mark-eq93 t c = rw (c.shrink_to_fit.ensures.items, c.in_ok-push.ensures.items)
    (loop.at_end Json 93 (spec.value_at is_utf8 c.args.deepest) _ _ _ _ _ c.loop.invariant _ _ c.loop-test.true (rw c.skip.ensures at c.in_ok-item.ensures) _ _ (sym c.skip-after.ensures ∙ c.in-Some.ensures) (no_comma _ 93 refl c.if-mark-eq93.true) (eq-eqb _ _ c.if-mark-eq93.true))

pub elements_at-returns-then-mark-ne44 : goal.elements_at-returns-then-mark-ne44
elements_at-returns-then-mark-ne44 t c = none_fails _ _
    (loop.at_other Json 93 (spec.value_at is_utf8 c.args.deepest) _ _ _ _ _ c.loop.invariant _ _ c.loop-test.true (rw c.skip.ensures at c.in_ok-item.ensures) _ _ (sym c.skip-after.ensures ∙ c.in-Some.ensures) c.if-mark-eq93.false c.if-mark-ne44.true)

pub elements_at-loop-preserved : goal.elements_at-loop-preserved
elements_at-loop-preserved t c = rw c.in_ok-push.ensures.items
    (loop.at_comma Json 93 (spec.value_at is_utf8 c.args.deepest) _ _ _ _ _ c.loop.invariant _ _ c.loop-test.true (rw c.skip.ensures at c.in_ok-item.ensures) _ _ (sym c.skip-after.ensures ∙ c.in-Some.ensures) c.if-mark-ne44.false)

pub elements_at-returns : goal.elements_at-returns
elements_at-returns t c = none_fails _ _
    (loop.turns_over Json 93 (spec.value_at is_utf8 c.args.deepest) _ _ _ _ _ c.loop.invariant c.loop-test.false)

pub members_at-returns-in_err-name : goal.members_at-returns-in_err-name
members_at-returns-in_err-name t c =
    let p = err_from_is_err_and c.from_residual.result c.from_residual.ensures.1 in
    rw (p.1, p.2) (loop.fails (List ℕ × Json) 125 (spec.member_at is_utf8 (spec.value_at is_utf8 c.args.deepest)) _ _ _ _ _ c.loop.invariant _ c.loop-test.true (rw c.skip.ensures at c.in_err-name.ensures))

pub members_at-returns-in_default : goal.members_at-returns-in_default
members_at-returns-in_default t c = none_fails _ _
    (loop.at_nothing (List ℕ × Json) 125 (spec.member_at is_utf8 (spec.value_at is_utf8 c.args.deepest)) _ _ _ _ _ c.loop.invariant _ _ c.loop-test.true (rw c.skip.ensures at c.in_ok-name.ensures) (sym c.skip-after.ensures ∙ c.in_default.ensures))

pub members_at-returns-then-mark-eq125 : goal.members_at-returns-then-mark-eq125
members_at-returns-then-mark-eq125 t c = rw c.in_ok-push.ensures.items
    (loop.at_end (List ℕ × Json) 125 (spec.member_at is_utf8 (spec.value_at is_utf8 c.args.deepest)) _ _ _ _ _ c.loop.invariant _ _ c.loop-test.true (rw c.skip.ensures at c.in_ok-name.ensures) _ _ (sym c.skip-after.ensures ∙ c.in-Some.ensures) (no_comma _ 125 refl c.if-mark-eq125.true) (eq-eqb _ _ c.if-mark-eq125.true))

pub members_at-returns-then-mark-ne44 : goal.members_at-returns-then-mark-ne44
members_at-returns-then-mark-ne44 t c = none_fails _ _
    (loop.at_other (List ℕ × Json) 125 (spec.member_at is_utf8 (spec.value_at is_utf8 c.args.deepest)) _ _ _ _ _ c.loop.invariant _ _ c.loop-test.true (rw c.skip.ensures at c.in_ok-name.ensures) _ _ (sym c.skip-after.ensures ∙ c.in-Some.ensures) c.if-mark-eq125.false c.if-mark-ne44.true)

pub members_at-loop-preserved : goal.members_at-loop-preserved
members_at-loop-preserved t c = rw c.in_ok-push.ensures.items
    (loop.at_comma (List ℕ × Json) 125 (spec.member_at is_utf8 (spec.value_at is_utf8 c.args.deepest)) _ _ _ _ _ c.loop.invariant _ _ c.loop-test.true (rw c.skip.ensures at c.in_ok-name.ensures) _ _ (sym c.skip-after.ensures ∙ c.in-Some.ensures) c.if-mark-ne44.false)

pub members_at-returns : goal.members_at-returns
members_at-returns t c = none_fails _ _
    (loop.turns_over (List ℕ × Json) 125 (spec.member_at is_utf8 (spec.value_at is_utf8 c.args.deepest)) _ _ _ _ _ c.loop.invariant c.loop-test.false)

pub value_at-returns-in_default : goal.value_at-returns-in_default
value_at-returns-in_default t c = none_fails _ _ (opened.at_nothing is_utf8 c.args.deepest c.args.bytes.now c.in_default.ensures)

pub value_at-returns-in_err-text-in-34 : goal.value_at-returns-in_err-text-in-34
value_at-returns-in_err-text-in-34 t c =
    let p = err_from_is_err_and c.from_residual.result c.from_residual.ensures.1 in
    rw (p.1, p.2) (opened.text_fails is_utf8 c.args.deepest _ c.args.bytes.now _ c.in-Some.ensures c.in-34.is _ c.in_err-text-in-34.ensures)

pub value_at-returns-then-deepest-eq0 : goal.value_at-returns-then-deepest-eq0
value_at-returns-then-deepest-eq0 t c = none_fails _ _
    (opened.array_too_deep is_utf8 c.args.deepest _ c.args.bytes.now _ c.in-Some.ensures c.in-91.is c.if-deepest-eq0.true)

pub value_at-returns-in_err-items-in-91 : goal.value_at-returns-in_err-items-in-91
value_at-returns-in_err-items-in-91 t c =
    let p = err_from_is_err_and c.from_residual-in_err-items-in-91.result c.from_residual-in_err-items-in-91.ensures.1 in
    rw (p.1, p.2) (opened.array_fails is_utf8 c.args.deepest _ c.args.bytes.now _ c.in-Some.ensures c.in-91.is c.if-deepest-eq0.false _ c.in_err-items-in-91.ensures)

pub value_at-returns-then-deepest-eq0-2 : goal.value_at-returns-then-deepest-eq0-2
value_at-returns-then-deepest-eq0-2 t c = none_fails _ _
    (opened.object_too_deep is_utf8 c.args.deepest _ c.args.bytes.now _ c.in-Some.ensures c.in-123.is c.if-deepest-eq0-2.true)

pub value_at-returns-in_err-members-in-123 : goal.value_at-returns-in_err-members-in-123
value_at-returns-in_err-members-in-123 t c =
    let p = err_from_is_err_and c.from_residual-in_err-members-in-123.result c.from_residual-in_err-members-in-123.ensures.1 in
    rw (p.1, p.2) (opened.object_fails is_utf8 c.args.deepest _ c.args.bytes.now _ c.in-Some.ensures c.in-123.is c.if-deepest-eq0-2.false _ c.in_err-members-in-123.ensures)

pub value_at-returns-in-110 : goal.value_at-returns-in-110
value_at-returns-in-110 t c = rw (opened.at_n is_utf8 c.args.deepest _ c.args.bytes.now _ c.in-Some.ensures c.in-110.is) c.word_at.ensures

pub value_at-returns-in-116 : goal.value_at-returns-in-116
value_at-returns-in-116 t c = rw (opened.at_t is_utf8 c.args.deepest _ c.args.bytes.now _ c.in-Some.ensures c.in-116.is) c.word_at-in-116.ensures

pub value_at-returns-in-102 : goal.value_at-returns-in-102
value_at-returns-in-102 t c = rw (opened.at_f is_utf8 c.args.deepest _ c.args.bytes.now _ c.in-Some.ensures c.in-102.is) c.word_at-in-102.ensures

pub value_at-returns-in-34 : goal.value_at-returns-in-34
value_at-returns-in-34 t c = opened.text_found is_utf8 c.args.deepest _ c.args.bytes.now _ c.in-Some.ensures c.in-34.is _ _ c.in_ok-text-in-34.ensures

pub value_at-returns-in-91 : goal.value_at-returns-in-91
value_at-returns-in-91 t c = rw c.of.ensures (opened.array_found is_utf8 c.args.deepest _ c.args.bytes.now _ c.in-Some.ensures c.in-91.is c.if-deepest-eq0.false _ _ c.in_ok-items-in-91.ensures)

pub value_at-returns-in-123 : goal.value_at-returns-in-123
value_at-returns-in-123 t c = rw c.of-in-123.ensures (opened.object_found is_utf8 c.args.deepest _ c.args.bytes.now _ c.in-Some.ensures c.in-123.is c.if-deepest-eq0-2.false _ _ c.in_ok-members-in-123.ensures)

pub value_at-returns-in_err-number : goal.value_at-returns-in_err-number
value_at-returns-in_err-number t c =
    let p = err_from_is_err_and c.from_residual-in_err-number.result c.from_residual-in_err-number.ensures.1 in
    rw (p.1, p.2) (opened.number_fails is_utf8 c.args.deepest _ c.args.bytes.now _ c.in-Some.ensures (omega arith) (omega arith) (omega arith) (omega arith) (omega arith) (omega arith) _ c.in_err-number.ensures)

pub value_at-returns : goal.value_at-returns
value_at-returns t c =
    opened.number_found is_utf8 c.args.deepest _ c.args.bytes.now _ c.in-Some.ensures (omega arith) (omega arith) (omega arith) (omega arith) (omega arith) (omega arith) _ _ c.in_ok-number.ensures
