use Rattle.std.proofs.Common.{◌≡◌, ◌+◌, ◌-◌, ◌/◌, ◌++◌, arith, ap, ◌∙◌, length, take}
use Rattle.std.specs.Int.{leading_zeros, w64}
use Rattle.decimal_text.specs.Units.{fixed, trimmed}
use Rattle.json_writer.proofs.Fixed.{trimmed-front}
use Rattle.json_writer.proofs.Rooms.{cut_short}
use Rattle.json_writer.proofs.Words.{bytes_of, ending_zeros}
use Rattle.json_writer.proofs.room_writer.eight_at.Goals as goal

pub returns-clause-written : goal.returns-clause-written
returns-clause-written c =
    let n = c.args.number in
    let word = c.eight_word-word.result in
    let many = length (trimmed (fixed 8 n)) in
    let old = take c.args.at c.args.room.now in
    let zeros = ending_zeros n word c.eight_word-word.ensures in
    let place : c.word_at-end.result - leading_zeros w64 (word - 3472328296227680304) / 8 ≡ c.args.at + many = omega (arith, zeros) in
    let written = c.word_at-end.ensures.written ∙ ap (λ t. old ++ t) (bytes_of n word c.eight_word-word.ensures) in
    ap (λ m. take m c.word_at-end.new.room) place
    ∙ cut_short c.args.at many c.word_at-end.result c.args.room.now c.word_at-end.new.room (fixed 8 n) written (omega (arith, zeros)) (omega arith)
    ∙ ap (λ t. old ++ t) (trimmed-front (fixed 8 n))
