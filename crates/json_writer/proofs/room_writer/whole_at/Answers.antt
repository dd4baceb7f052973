use Rattle.std.proofs.Common.{◌/◌, ◌%◌, ◌+◌, [], ◌∷◌, ◌++◌, arith, ap, sym, ◌∙◌, take}
use Rattle.std.proofs.lemmas.Fmt.{decimal_digit}
use Rattle.std.proofs.lemmas.List.{append_assoc}
use Rattle.decimal_text.specs.Units.{fixed}
use Rattle.json_writer.proofs.Fixed.{two_digits, three_digits}
use Rattle.json_writer.proofs.room_writer.whole_at.Goals as goal

pub returns-then-number-lt10-clause-written : goal.returns-then-number-lt10-clause-written
returns-then-number-lt10-clause-written c =
    c.byte_at.ensures.written ∙ ap (λ t. take c.args.at c.args.room.now ++ t) (sym (decimal_digit c.args.number (omega arith)))

pub returns-then-number-lt1000-clause-written : goal.returns-then-number-lt1000-clause-written
returns-then-number-lt1000-clause-written c =
    let n = c.args.number in
    let old = take c.args.at c.args.room.now in
    let last = fixed 2 (n % 100) in
    c.two_at-then-number-lt1000.ensures.written ∙ ap (λ t. t ++ last) c.byte_at-second.ensures.written ∙ append_assoc old ((48 + n / 100) ∷ []) last
    ∙ ap (λ t. old ++ t) (sym (three_digits n (omega arith) (omega arith)))
