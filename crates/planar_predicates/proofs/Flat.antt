-- What lies on a line.
use Rattle.std.proofs.Common.{◌≡◌, pos, arith}
use Rattle.std.proofs.lemmas.Int.{ints}
use Rattle.geometry.specs.Areas.{cross}
use Rattle.geometry.specs.Points.{Point}
use Rattle.guarded_meaning.proofs.Crosses.{cross_is}

pub flat_first : (a b : Point) → cross a b a ≡ pos 0
flat_first a b = omega (arith, ints, cross_is a b a)

pub flat_second : (a b : Point) → cross a b b ≡ pos 0
flat_second a b = omega (arith, ints, cross_is a b b)
