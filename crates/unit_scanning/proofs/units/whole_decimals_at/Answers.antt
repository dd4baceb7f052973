use Rattle.std.proofs.Common.{◌≡◌, ℕ, ◌≤◌, ◌/◌, ◌%◌, sym, ◌∙◌, subst, true, arith}
use Rattle.std.proofs.lemmas.Int.{ints}
use mir.Syntax.{w64}
use mir.Val.{to_z, of_z}
use Rattle.unit_scanning.specs.Numbers.{IsNumberAt}
use Rattle.unit_scanning.proofs.NumberParts.{number_is_at}
use Rattle.unit_scanning.proofs.Rounded.{step_some, zero_decimals}
use Rattle.unit_scanning.proofs.units.whole_decimals_at.Goals as goal

pub returns-clause-whole : goal.returns-clause-whole
returns-clause-whole c =
    let size : ℕ = c.in_ok-value.value / c.in_ok-one.one in
    let none : c.in_ok-value.value % c.in_ok-one.one ≡ 0 = omega (arith, c.if-value-one-ne0.false) in
    let small : size ≤ c.args.limit = omega (arith, c.if-size-limit.false) in
    let same : to_z w64 (of_z w64 c.with_sign.result) ≡ c.with_sign.result = omega (arith, ints, c.with_sign.ensures.within, c.requires, small) in
    subst (λ z. IsNumberAt 0 c.args.limit c.args.bytes.now z true c.in_ok-value.rest.now) (sym (same ∙ c.with_sign.ensures.value))
    (number_is_at 0 c.args.limit c.args.bytes.now _ _ _ _ _ _ _ _ true c.sign_at-negative.ensures (sym c.is_whole.ensures ∙ c.if-not-is_whole.false) c.in_ok-whole.ensures.value c.in_ok-whole.ensures.rest
    c.in_ok-value.ensures.fraction (sym c.is_end.ensures ∙ c.if-not-is_end.false) (zero_decimals _ _ _ c.in_ok-one.one c.args.limit c.in_ok-one.ensures.value none small))
