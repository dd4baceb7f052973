use Rattle.std.proofs.Common.{◌+◌, ◌/◌, ◌%◌, ◌^◌, ◌++◌, arith, ap, ◌∙◌, decimal, drop, take}
use Rattle.std.proofs.lemmas.List.{append_assoc}
use Rattle.std.proofs.Math.Nat.{one-le-pow}
use Rattle.decimal_text.specs.Parts.{fraction_text}
use Rattle.decimal_text.specs.Units.{fixed, trimmed}
use Rattle.json_writer.proofs.Fixed.{pow-18, rest-digits, rest-length}
use Rattle.json_writer.proofs.room_writer.some_places_at.Goals as goal

pub nonzero_div-size : goal.nonzero_div-size
nonzero_div-size c = omega (arith, c.pow-unit.ensures, one-le-pow c.args.places 10 (omega arith))

pub nonzero_rem-size : goal.nonzero_rem-size
nonzero_rem-size c = omega (arith, c.pow-unit.ensures, one-le-pow c.args.places 10 (omega arith))

pub overflow_add-unit : goal.overflow_add-unit
overflow_add-unit c = grind (arith, one-le-pow, pow-18 c.args.places c.requires.places)

pub rest_at-requires-clause-some : goal.rest_at-requires-clause-some
rest_at-requires-clause-some c = omega (arith, c.pow-unit.ensures, one-le-pow c.args.places 10 (omega arith))

pub rest_at-requires-clause-digits : goal.rest_at-requires-clause-digits
rest_at-requires-clause-digits c =
    let places = c.args.places in
    rw c.pow-unit.ensures (rest-length places (c.args.size % 10 ^ places) c.requires.places (omega (arith, one-le-pow places 10 (omega arith))))

pub returns-clause-written : goal.returns-clause-written
returns-clause-written c =
    let places = c.args.places in
    let left = c.args.size % 10 ^ places in
    let digits = rest-digits places left c.requires.places (omega (arith, one-le-pow places 10 (omega arith))) in
    let whole = rw c.pow-unit.ensures at c.whole_at-point.ensures.written in
    let rest = rw c.pow-unit.ensures at c.rest_at.ensures.written in
    rest ∙ ap (λ t. t ++ fraction_text (trimmed (drop 1 (decimal (10 ^ places + left))))) whole
    ∙ ap (λ ds. (take c.args.at c.args.room.now ++ decimal (c.args.size / 10 ^ places)) ++ fraction_text (trimmed ds)) digits
    ∙ append_assoc (take c.args.at c.args.room.now) (decimal (c.args.size / 10 ^ places)) (fraction_text (trimmed (fixed places left)))
