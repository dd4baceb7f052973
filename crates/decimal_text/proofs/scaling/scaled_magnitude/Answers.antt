use Rattle.std.proofs.Common.{arith, ◌++◌, ◌<◌, ◌+◌, ◌≤◌, ◌≢◌, length, length-append, refl}
use Rattle.std.proofs.lemmas.Bool.{false≢true}
use Rattle.std.proofs.lemmas.List.Elements.{All-append}
use Rattle.decimal_text.specs.Digits.{IsDigit, digits_value}
use Rattle.decimal_text.specs.PartsInCode.{parts_in}
use Rattle.decimal_text.proofs.DigitsValue.{digits_value-lt}
use Rattle.decimal_text.proofs.RoundedFractions.{IsRoundedTo-zero, IsRoundedTo-tiny, IsRounded-above, far_past}
use Rattle.decimal_text.proofs.scaling.scaled_magnitude.Goals as goal

pub returns-then-write_zero : goal.returns-then-write_zero
returns-then-write_zero c =
    let n = parts_in c.args.parts in
    IsRoundedTo-zero (digits_value (n.whole ++ n.fraction)) _ _ c.args.limit _ (c.if-write_zero.ensures.0 refl) refl refl

pub returns-then-exponent_negative : goal.returns-then-exponent_negative
returns-then-exponent_negative c =
    let n = parts_in c.args.parts in
    let ds = n.whole ++ n.fraction in
    let small = digits_value-lt ds (All-append IsDigit _ _ c.requires.digits.whole c.requires.digits.fraction) in
    let some : digits_value ds ≢ 0 = λ e. false≢true (c.if-write_zero.ensures.1 e) in
    let far : length ds + (c.args.places + 0) < length n.fraction + digits_value n.exponent =
    omega (arith, length-append n.whole n.fraction, c.in_default.ensures.err) in
    rw c.if-exponent_negative.true (IsRoundedTo-tiny (digits_value ds) (length ds) (c.args.places + 0) _ c.args.limit _ small far refl refl some)

pub returns-in_default : goal.returns-in_default
returns-in_default c =
    let n = parts_in c.args.parts in
    let ds = n.whole ++ n.fraction in
    let some : digits_value ds ≢ 0 = λ e. false≢true (c.if-write_zero.ensures.1 e) in
    let far : (length n.fraction + 0) + 38 ≤ c.args.places + digits_value n.exponent = omega (arith, c.in_default.ensures.err) in
    rw c.if-exponent_negative.false
    (λ u r. IsRounded-above _ _ u c.args.limit (far_past (digits_value ds) (length n.fraction + 0) _ c.args.limit some c.requires.limit far) r)
