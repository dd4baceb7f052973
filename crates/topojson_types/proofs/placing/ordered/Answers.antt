use Rattle.std.proofs.Common.{arith}
use Rattle.std.proofs.lemmas.Int.{ints, clamps}
use Rattle.topojson_types.proofs.placing.ordered.Goals as goal

pub at-requires : goal.at-requires
at-requires c = (omega (arith, ints, clamps), omega (arith, ints, clamps))

pub at-requires-2 : goal.at-requires-2
at-requires-2 c = (omega (arith, ints, clamps), omega (arith, ints, clamps))
