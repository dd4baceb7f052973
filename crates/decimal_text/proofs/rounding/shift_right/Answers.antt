use Rattle.std.proofs.Common.{arith, ◌++◌, length, length-append, refl}
use Rattle.std.proofs.lemmas.List.Elements.{All-append}
use Rattle.decimal_text.specs.Digits.{IsDigit, digits_value}
use Rattle.decimal_text.proofs.DigitsValue.{digits_value-lt}
use Rattle.decimal_text.proofs.RoundedFractions.{IsRoundedTo-cut}
use Rattle.decimal_text.proofs.rounding.shift_right.Goals as goal

pub returns-then-cut-total : goal.returns-then-cut-total
returns-then-cut-total c =
    let ds = c.args.whole.now ++ c.args.fraction.now in
    let small = digits_value-lt ds (All-append IsDigit _ _ c.requires.whole c.requires.fraction) in
    IsRoundedTo-cut (digits_value ds) (length ds) c.args.cut _ _ small
    (omega (arith, length-append c.args.whole.now c.args.fraction.now)) refl c.write_zero.ensures
