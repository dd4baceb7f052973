use Rattle.std.proofs.Common.{arith, refl, ◌++◌}
use Rattle.std.proofs.lemmas.Bool.{cases_lt, false≢true}
use Rattle.std.proofs.lemmas.List.Elements.{All-append}
use Rattle.decimal_text.specs.Digits.{IsDigit, digits_value}
use Rattle.decimal_text.proofs.DigitsValue.{digits_value-cut, digits_value-lt, cut_past, digits_value_after-append, digits_value_after-ge}
use Rattle.decimal_text.proofs.RoundedFractions.{IsRounded-above, IsRoundedTo-down, IsRoundedTo-up, up_past}
use Rattle.decimal_text.proofs.rounding.cut_at.Goals as goal

pub returns-in_default : goal.returns-in_default
returns-in_default c =
    let kept = digits_value_after-append 0 c.args.kept_whole.now c.args.kept_fraction.now in
    let more = digits_value_after-ge (digits_value c.args.kept_whole.now) c.args.kept_fraction.now in
    λ u r. IsRounded-above _ _ u c.args.limit (cut_past (c.args.kept_whole.now ++ c.args.kept_fraction.now) _ c.args.limit (omega (arith, c.in_default.ensures.err))) r

pub returns-in_default-extend : goal.returns-in_default-extend
returns-in_default-extend c =
    let kept = digits_value_after-append 0 c.args.kept_whole.now c.args.kept_fraction.now in
    let past = rw (c.in-Ok.ensures.value, ← kept) at c.in_default-extend.ensures.err in
    λ u r. IsRounded-above _ _ u c.args.limit (cut_past (c.args.kept_whole.now ++ c.args.kept_fraction.now) _ c.args.limit past) r

pub returns-then-not-is_half : goal.returns-then-not-is_half
returns-then-not-is_half c = grind (arith, digits_value_after-append, false≢true, cases_lt, IsRoundedTo-down, digits_value-cut)

pub returns-then-down-limit : goal.returns-then-down-limit
returns-then-down-limit c = grind (arith, digits_value_after-append, All-append, up_past, digits_value-cut, digits_value-lt)

pub returns : goal.returns
returns c =
    let kept = digits_value_after-append 0 c.args.kept_whole.now c.args.kept_fraction.now in
    let down = rw (c.in-Ok.ensures.value, ← kept) at c.in-Ok-extend.ensures.value in
    let all = All-append IsDigit _ _ c.requires.cut_whole c.requires.cut_fraction in
    IsRoundedTo-up _ _ (digits_value (c.args.kept_whole.now ++ c.args.kept_fraction.now)) (digits_value (c.args.cut_whole.now ++ c.args.cut_fraction.now)) _ _
    (digits_value-cut (c.args.kept_whole.now ++ c.args.kept_fraction.now) (c.args.cut_whole.now ++ c.args.cut_fraction.now))
    (c.if-not-is_half.ensures.0 refl) (digits_value-lt (c.args.cut_whole.now ++ c.args.cut_fraction.now) all)
    (omega (arith, down)) c.write_zero-exact.ensures (omega (arith, down, c.in-Ok-extend.ensures.ok))
