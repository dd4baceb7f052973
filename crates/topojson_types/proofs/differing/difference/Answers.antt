use Rattle.std.proofs.Common.{◌≡◌, ◌-ℤ◌, arith, to_z, of_z, w64}
use Rattle.std.proofs.lemmas.Int.{ints}
use Rattle.topojson_types.proofs.differing.difference.Goals as goal

pub returns : goal.returns
returns c =
    let x : to_z w64 (of_z w64 (to_z w64 (of_z w64 c.x.result) -ℤ to_z w64 (of_z w64 c.x-2.result))) ≡ c.args.cell.x -ℤ c.args.before.x = omega (arith, ints) in
    let y : to_z w64 (of_z w64 (to_z w64 (of_z w64 c.y.result) -ℤ to_z w64 (of_z w64 c.y-2.result))) ≡ c.args.cell.y -ℤ c.args.before.y = omega (arith, ints) in
    rw (x, y) at c.at.ensures
