use Rattle.std.proofs.Common.{arith}
use Rattle.std.proofs.lemmas.Int.{ints, clamps}
use Rattle.topojson_types.proofs.bounding.greater.Goals as goal

pub at-requires : goal.at-requires
at-requires c = (omega (arith, ints, clamps), omega (arith, ints, clamps))
