use Rattle.std.proofs.Common.{arith, ◌<◌, ◌^◌, unsigned_abs}
use Rattle.std.proofs.lemmas.Int.{to_z-of_z}
use mir.Syntax.{w64}
use Rattle.decimal_text.proofs.UnitsText.{reads-again}
use Rattle.decimal_text.proofs.units.units_again.Goals as goal

pub returns : goal.returns
returns c =
    let same = to_z-of_z w64 c.args.units c.ranges.units in
    let size = rw same at c.unsigned_abs-size.ensures.value in
    let small : unsigned_abs c.args.units < 10 ^ 64 = omega (arith, size, c.unsigned_abs-size.ensures.bound) in
    reads-again c.args.units c.args.places small
