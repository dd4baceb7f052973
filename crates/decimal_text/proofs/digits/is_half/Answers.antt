use Rattle.std.proofs.Common.{rules, ◌++◌}
use Rattle.std.proofs.lemmas.List.Elements.{All-append}
use Rattle.decimal_text.specs.Digits.{IsDigit}
use Rattle.decimal_text.proofs.DigitsValue.{half_by_first}
use Rattle.decimal_text.proofs.digits.is_half.Goals as goal

pub returns : goal.returns
returns c =
    let all = All-append IsDigit _ _ c.requires.cut_whole c.requires.cut_fraction in
    let half = half_by_first (c.args.cut_whole.now ++ c.args.cut_fraction.now) all c.requires.some in
    search (rules, half)
