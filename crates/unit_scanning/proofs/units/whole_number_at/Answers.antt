use Rattle.std.proofs.Common.{◌≡◌, sym, ◌∙◌, subst, true, arith}
use Rattle.std.proofs.lemmas.Int.{ints}
use mir.Syntax.{w64}
use mir.Val.{to_z, of_z}
use Rattle.unit_scanning.specs.Numbers.{IsNumberAt}
use Rattle.unit_scanning.proofs.NumberParts.{number_is_at, no_fraction_of, whole_scales}
use Rattle.unit_scanning.proofs.units.whole_number_at.Goals as goal

pub returns-clause-whole : goal.returns-clause-whole
returns-clause-whole c =
    let same : to_z w64 (of_z w64 c.with_sign.result) ≡ c.with_sign.result = omega (arith, ints, c.with_sign.ensures.within, c.if-size-limit.false, c.requires) in
    subst (λ z. IsNumberAt 0 c.args.limit c.args.bytes.now z true c.in_ok-size.rest.now) (sym (same ∙ c.with_sign.ensures.value))
    (number_is_at 0 c.args.limit c.args.bytes.now _ _ _ _ _ _ _ _ true c.sign_at-negative.ensures (sym c.is_whole.ensures ∙ c.if-not-is_whole.false) c.in_ok-size.ensures.value c.in_ok-size.ensures.rest
    (no_fraction_of _ _) (sym c.is_end.ensures ∙ c.if-not-is_end.false) (whole_scales _ c.in_ok-size.size c.args.limit (omega (arith, c.if-size-limit.false))))
