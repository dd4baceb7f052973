use Rattle.std.proofs.Common.{◌≡◌, sym, ◌∙◌, subst, arith}
use Rattle.std.proofs.lemmas.Int.{ints}
use mir.Syntax.{w64}
use mir.Val.{to_z, of_z}
use Rattle.unit_scanning.specs.Numbers.{IsUnits}
use Rattle.unit_scanning.proofs.CutNumbers.{cut_is}
use Rattle.unit_scanning.proofs.cut.cut_units_at.Goals as goal

pub returns-clause-units : goal.returns-clause-units
returns-clause-units c =
    let same : to_z w64 (of_z w64 c.with_sign.result) ≡ c.with_sign.result = omega (arith, ints, c.with_sign.ensures.within, c.in_ok-size.ensures.small) in
    subst (λ z. IsUnits c.args.bytes.now z c.in_ok-size.exact c.few_digits_at-cut.result.2.now) (sym (same ∙ c.with_sign.ensures.value))
    (cut_is c.args.bytes.now _ _ _ _ _ _ _ _ _ _ _ _ _ c.sign_at-negative.ensures (sym c.is_whole.ensures ∙ c.if-not-is_whole.false) c.few_digits_at-whole.ensures.digits c.in_ok-kept.ensures.fraction
    c.few_digits_at-cut.ensures.digits c.in_ok-size.ensures.both (sym c.is_end.ensures ∙ c.if-not-is_end.false) (c.in_ok-size.ensures.value _))
