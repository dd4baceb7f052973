use Rattle.std.proofs.Common.{◌≡◌, arith}
use Rattle.std.proofs.lemmas.Int.{ints}
use mir.Syntax.{w64}
use mir.Val.{to_z, of_z}
use Rattle.geometry.specs.Units.{unit_places, input_limit, position_limit}
use Rattle.unit_scanning.specs.Numbers.{IsWholeNumber}
use Rattle.unit_scanning.specs.Pairs.{ArePlainUnits}
use Rattle.topojson_decoder.specs.declared.numbers.Scale.TheVariants as scale
use Rattle.topojson_decoder.specs.Numbers.{IsPlainNumber}
use Rattle.topojson_decoder.proofs.NumberParts.{number_reads}
use Rattle.topojson_decoder.proofs.PairParts.{plain_pair_of}
use Rattle.topojson_decoder.proofs.pairs.plain_numbers_at.Goals as goal

pub returns-in_ok-x-in-Units-clause-pair : goal.returns-in_ok-x-in-Units-clause-pair
returns-in_ok-x-in-Units-clause-pair c =
    let x : to_z w64 (of_z w64 c.in_ok-x-in-Units.x) ≡ c.in_ok-x-in-Units.x = omega (arith, ints, c.in_ok-x-in-Units.ensures.first) in
    let y : to_z w64 (of_z w64 c.in_ok-x-in-Units.y) ≡ c.in_ok-x-in-Units.y = omega (arith, ints, c.in_ok-x-in-Units.ensures.second) in
    rw (x, y, c.in-Units.is)
    (plain_pair_of ArePlainUnits (IsPlainNumber scale.Units) (λ bs value rest u d counts. number_reads unit_places input_limit position_limit d bs rest value _ counts (omega arith) u)
    c.args.inside.now _ _ _ _ c.in_ok-x-in-Units.ensures.pair)

pub returns-in_ok-x-in-Whole-clause-pair : goal.returns-in_ok-x-in-Whole-clause-pair
returns-in_ok-x-in-Whole-clause-pair c =
    let x : to_z w64 (of_z w64 c.in_ok-x-in-Whole.x) ≡ c.in_ok-x-in-Whole.x = omega (arith, ints, c.in_ok-x-in-Whole.ensures.first, c.textless_bound.ensures.small) in
    let y : to_z w64 (of_z w64 c.in_ok-x-in-Whole.y) ≡ c.in_ok-x-in-Whole.y = omega (arith, ints, c.in_ok-x-in-Whole.ensures.second, c.textless_bound.ensures.small) in
    rw (x, y, c.in-Whole.is)
    (plain_pair_of (IsWholeNumber c.textless_bound.result) (IsPlainNumber (scale.Whole c.in-Whole.bound)) (λ bs value rest u d counts. number_reads 0 _ c.in-Whole.bound d bs rest value _ counts c.textless_bound.ensures.within u)
    c.args.inside.now _ _ _ _ c.in_ok-x-in-Whole.ensures.pair)
