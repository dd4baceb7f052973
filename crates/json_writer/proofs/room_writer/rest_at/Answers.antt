use Rattle.std.proofs.Common.{◌≡◌, ◌+◌, ◌<◌, ◌≤◌, ◌∷◌, ◌++◌, arith, ap, sym, ◌∙◌, subst, drop, take, decimal, length, slice_index}
use Rattle.std.proofs.lemmas.List.{length-take-le}
use Rattle.std.proofs.lemmas.Fmt.{first_decimal}
use Rattle.decimal_text.specs.Units.{trimmed}
use Rattle.json_writer.proofs.Fixed.{fraction-some}
use Rattle.json_writer.proofs.Rooms.{part_found, first_replaced}
use Rattle.json_writer.proofs.room_writer.rest_at.Goals as goal

pub trimmed_count-count-requires-clause-first : goal.trimmed_count-count-requires-clause-first
trimmed_count-count-requires-clause-first c =
    let digits = decimal c.args.number in
    let here : c.write_digits.result ≡ c.args.at = omega arith in
    let is = part_found c.args.at (c.args.at + 1 + c.args.places) c.write_digits.new.buf digits _ (rw here at c.write_digits.ensures.written) (omega arith) in
    subst (λ ds. 48 < slice_index ds 0) (sym is) (first_decimal c.args.number c.requires.some c.ranges.number.fits)

pub returns-clause-written : goal.returns-clause-written
returns-clause-written c =
    let n = c.args.number in
    let digits = decimal n in
    let count = c.trimmed_count-count.result in
    let here : c.write_digits.result ≡ c.args.at = omega arith in
    let behind = rw here at c.write_digits.ensures.written in
    let is = part_found c.args.at (c.args.at + 1 + c.args.places) c.write_digits.new.buf digits _ behind (omega arith) in
    let left : take count digits ≡ trimmed digits = subst (λ ds. take count ds ≡ trimmed ds) is c.trimmed_count-count.ensures.left in
    let short : count ≤ length digits = subst (λ ds. count ≤ length ds) is c.trimmed_count-count.ensures.within in
    let many : count ≡ length (trimmed digits) = sym (length-take-le count digits short) ∙ ap length left in
    let text = fraction-some n c.requires.some c.ranges.number.fits (omega arith) in
    first_replaced c.args.at count 46 c.args.room.now c.write_digits.new.buf digits _ (rw here at c.write_digits.ensures.before) behind c.trimmed_count-count.ensures.some short (omega arith)
    ∙ ap (λ ds. take c.args.at c.args.room.now ++ 46 ∷ drop 1 ds) left ∙ ap (λ t. take c.args.at c.args.room.now ++ t) (sym text)
