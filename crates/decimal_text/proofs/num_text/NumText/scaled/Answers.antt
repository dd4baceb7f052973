use Rattle.std.proofs.Common.{◌∙◌, ◌≡◌, sym, ap, unsigned_abs, Some, IfOk, ◌≤◌, subst}
use Rattle.std.proofs.lemmas.Int.{to_z-of_z}
use mir.Syntax.{w128}
use Rattle.decimal_text.specs.Parts.{parts_of}
use Rattle.decimal_text.specs.PartsInCode.{parts_in}
use Rattle.decimal_text.specs.Rounding.{rounded_of}
use Rattle.decimal_text.specs.Scaling.{numerator, denominator}
use Rattle.decimal_text.proofs.ScaledNumber.{scaled_of-read, rounded_of-limit}
use Rattle.decimal_text.proofs.SpellsParts.{no_number-from_parts}
use Rattle.decimal_text.proofs.num_text.NumText.scaled.Goals as goal
use Rattle.decimal_text.proofs.num_text.NumText.scaled.Goals.{After-scaled_number}

pub unreachable-requires : goal.unreachable-requires
unreachable-requires c = no_number-from_parts c.as_bytes.result.now _ c.as_bytes.ensures.text c.in-None.ensures.none c.as_bytes.ensures.number

answer : (c : After-scaled_number) → c.scaled_number.result
    ≡ rounded_of c.in-Some.parts.negative (numerator (parts_in c.in-Some.parts) c.args.places) (denominator (parts_in c.in-Some.parts)) (unsigned_abs c.args.limit)
answer c =
    let n = parts_in c.in-Some.parts in
    c.scaled_number.ensures
    ∙ ap (λ z. rounded_of n.negative (numerator n c.args.places) (denominator n) (unsigned_abs z)) (to_z-of_z w128 c.args.limit c.ranges.limit)

pub returns-clause-value : goal.returns-clause-value
returns-clause-value c =
    let same = c.as_bytes.ensures.text in
    let read : parts_of c.args.self.now ≡ Some (parts_in c.in-Some.parts) = ap parts_of (sym same) ∙ c.in-Some.ensures.some in
    answer c ∙ sym (scaled_of-read c.args.places (unsigned_abs c.args.limit) c.args.self.now (parts_in c.in-Some.parts) read)

pub returns-clause-within : goal.returns-clause-within
returns-clause-within c =
    let n = parts_in c.in-Some.parts in
    subst (λ r. IfOk r (λ s. unsigned_abs s.value ≤ unsigned_abs c.args.limit)) (sym (answer c))
    (rounded_of-limit n.negative (numerator n c.args.places) (denominator n) (unsigned_abs c.args.limit))
