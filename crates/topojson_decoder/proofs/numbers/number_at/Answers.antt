use Rattle.std.proofs.Common.{◌≡◌, arith}
use Rattle.std.proofs.lemmas.Int.{ints}
use mir.Syntax.{w64}
use mir.Val.{to_z, of_z}
use Rattle.topojson_decoder.proofs.NumberParts.{number_reads}
use Rattle.topojson_decoder.proofs.numbers.number_at.Goals as goal

pub returns-in-None-clause-answers : goal.returns-in-None-clause-answers
returns-in-None-clause-answers c = rw c.in-Units.is c.value_number_at.ensures.answers

pub returns-in-Some-whole_number_at-clause-answers : goal.returns-in-Some-whole_number_at-clause-answers
returns-in-Some-whole_number_at-clause-answers c =
    let x : to_z w64 (of_z w64 c.in-Some-whole_number_at.value) ≡ c.in-Some-whole_number_at.value = omega (arith, ints, c.in-Some-whole_number_at.ensures.within, c.textless_bound.ensures.small) in
    rw (x, c.in-Whole.is) (λ counts. number_reads 0 _ c.in-Whole.bound c.args.depth_left c.args.bytes.now _ _ _ counts c.textless_bound.ensures.within c.in-Some-whole_number_at.ensures.whole)

pub returns-in-None-whole_number_at-clause-answers : goal.returns-in-None-whole_number_at-clause-answers
returns-in-None-whole_number_at-clause-answers c = rw c.in-Whole.is c.value_number_at-in-None-whole_number_at.ensures.answers
