use Rattle.std.proofs.Common.{◌≡◌, arith, to_z, of_z, w64}
use Rattle.std.proofs.lemmas.Int.{ints}
use Rattle.json_writer.proofs.Appending.{as_part, then}
use Rattle.topojson_writer.proofs.Whole.{bounds-text}
use Rattle.topojson_writer.proofs.bounds_writer.put_bounds_member.Goals as goal

pub returns-clause-text : goal.returns-clause-text
returns-clause-text g c =
    let left : to_z w64 (of_z w64 c.x.result) ≡ c.args.least.x = omega (arith, ints) in
    let bottom : to_z w64 (of_z w64 c.y.result) ≡ c.args.least.y = omega (arith, ints) in
    let right : to_z w64 (of_z w64 c.x-2.result) ≡ c.args.greatest.x = omega (arith, ints) in
    let top : to_z w64 (of_z w64 c.y-2.result) ≡ c.args.greatest.y = omega (arith, ints) in
    let numbers = rw (left, bottom, right, top) at c.put_array.ensures.text in
    as_part _ (bounds-text (c.args.least, c.args.greatest)) (then _ _ _ c.put.ensures.text numbers)
