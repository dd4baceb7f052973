use Rattle.std.proofs.Common.{◌≡◌, ◌≤◌, ◌≢◌, ◌<◌, ◌*◌, ◌%◌, ◌++◌, sym, ◌∙◌, subst, true, false, inl, inr, arith}
use Rattle.std.proofs.lemmas.Int.{ints}
use mir.Syntax.{w64}
use mir.Val.{to_z, of_z}
use Rattle.decimal_text.specs.Scaling.{units_text}
use Rattle.geometry.specs.Units.{input_limit, unit_places}
use Rattle.unit_scanning.proofs.LeastTexts.{least_text}
use Rattle.unit_scanning.proofs.PlainNumbers.{product_small}
use Rattle.unit_scanning.proofs.least.least_number_at.Goals as goal
use Rattle.unit_scanning.proofs.least.least_number_at.Goals.{else-places-gt0-via-then-places-gt0+else-kept-eq0, else-places-gt0-via-else-places-gt0}

pub returns-clause-text : goal.returns-clause-text
returns-clause-text c =
    let small : c.in_ok-kept.kept * c.units_of_place.result ≤ input_limit = omega (arith, c.if-size-gt-INPUT_LIMIT.false) in
    let same : to_z w64 (of_z w64 c.with_sign.result) ≡ c.with_sign.result = omega (arith, ints, c.with_sign.ensures.within, small) in
    let last : 0 < c.in_ok-kept.places → c.in_ok-kept.kept % 10 ≢ 0 = λ some none. elim c.else-places-gt0.branch [
      | else-places-gt0-via-then-places-gt0+else-kept-eq0 w ↦ w.if-kept-eq0.false none
      | else-places-gt0-via-else-places-gt0 w ↦ absurd (omega (arith, some, w.if-places-gt0.false))
    ] in
    let some : c.sign_at-negative.result.0 ≡ true → 0 < c.in_ok-kept.kept * c.units_of_place.result = λ is. elim c.if-size-eq0.either [
      | inl some ↦ omega (arith, some.1)
      | inr plain ↦ let no : true ≡ false = sym is ∙ plain in cc
    ] in
    subst (λ z. c.args.bytes.now ≡ units_text z unit_places ++ c.in_ok-kept.rest.now) (sym (same ∙ c.with_sign.ensures.value))
    (least_text c.args.bytes.now _ _ _ _ _ _ _ _ _ c.sign_at-negative.ensures (sym c.is_whole.ensures ∙ c.if-not-is_whole.false) c.few_digits_at-whole.ensures.digits (omega (arith, c.if-count-eq0.false)) c.in_ok-kept.ensures.fraction
    c.in_ok-kept.ensures.few last c.units_of_place.ensures small some)
