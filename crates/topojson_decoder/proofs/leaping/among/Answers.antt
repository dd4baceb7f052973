use Rattle.std.proofs.Common.{eqb, arith, w8}
use Rattle.std.proofs.lemmas.Simd.{bitmask_splat}
use Rattle.topojson_decoder.proofs.leaping.among.Goals as goal

pub returns : goal.returns
returns c = bitmask_splat w8 eqb c.args.lanes 64 c.args.byte c.requires (omega arith)
