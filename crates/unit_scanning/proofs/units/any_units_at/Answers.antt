use Rattle.std.proofs.Common.{◌≡◌, sym, ◌∙◌, subst, arith}
use Rattle.std.proofs.lemmas.Int.{ints}
use mir.Syntax.{w64}
use mir.Val.{to_z, of_z}
use Rattle.geometry.specs.Units.{unit_places, input_limit}
use Rattle.unit_scanning.specs.Numbers.{IsUnits}
use Rattle.unit_scanning.proofs.NumberParts.{number_is_at}
use Rattle.unit_scanning.proofs.units.any_units_at.Goals as goal

pub returns-clause-units : goal.returns-clause-units
returns-clause-units c =
    let same : to_z w64 (of_z w64 c.with_sign.result) ≡ c.with_sign.result = omega (arith, ints, c.with_sign.ensures.within, c.in_ok-size.ensures.small) in
    subst (λ z. IsUnits c.args.bytes.now z c.in_ok-size.exact c.in_ok-value.rest.now) (sym (same ∙ c.with_sign.ensures.value))
    (number_is_at unit_places input_limit c.args.bytes.now _ _ _ _ _ _ _ _ _ c.sign_at-negative.ensures (sym c.is_whole.ensures ∙ c.if-not-is_whole.false) c.in_ok-whole.ensures.value c.in_ok-whole.ensures.rest
    c.in_ok-value.ensures.fraction (sym c.is_end.ensures ∙ c.if-not-is_end.false) (c.in_ok-size.ensures.value _))
