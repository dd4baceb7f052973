use Rattle.std.proofs.Common.{◌≡◌, ◌≤◌, ◌*◌, sym, ◌∙◌, subst, true, refl, arith}
use Rattle.std.proofs.lemmas.Int.{ints}
use mir.Syntax.{w64}
use mir.Val.{to_z, of_z}
use Rattle.geometry.specs.Units.{input_limit}
use Rattle.unit_scanning.specs.Numbers.{IsUnits}
use Rattle.unit_scanning.proofs.PlainNumbers.{plain_is, product_small}
use Rattle.unit_scanning.proofs.plain.plain_units_at.Goals as goal

pub returns-clause-units : goal.returns-clause-units
returns-clause-units c he =
    let small : c.in_ok-value.value * c.units_of_place.result ≤ input_limit = omega (arith, c.if-size-gt-INPUT_LIMIT.false) in
    let same : to_z w64 (of_z w64 c.with_sign.result) ≡ c.with_sign.result = omega (arith, ints, c.with_sign.ensures.within, small) in
    subst (λ z. IsUnits c.args.bytes.now z true c.in_ok-value.rest.now) (sym (same ∙ c.with_sign.ensures.value))
    (plain_is c.args.bytes.now _ _ _ _ _ _ c.in_ok-value.value c.in_ok-value.places _ c.sign_at-negative.ensures (sym c.is_whole.ensures ∙ c.if-not-is_whole.false) c.few_digits_at-whole.ensures.digits c.in_ok-value.ensures.fraction
    c.in_ok-value.ensures.few (subst (λ p. c.in_ok-value.value * c.units_of_place.result ≡ c.in_ok-value.value * p) c.units_of_place.ensures refl) small he)
