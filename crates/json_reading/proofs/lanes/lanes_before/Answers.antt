use Rattle.std.proofs.Common.{eqb, sym, ap, ◌∙◌, arith, w8}
use lib.Count.{count_trailing_zeros}
use Rattle.std.proofs.lemmas.Simd.{bitmask_splat, leading_from_mask_l, trailing_mask_l}
use Rattle.json_reading.proofs.lanes.lanes_before.Goals as goal

pub returns-then-found-eq0 : goal.returns-then-found-eq0
returns-then-found-eq0 c =
    let found = bitmask_splat w8 eqb c.args.lanes 16 c.args.byte c.requires (omega arith) in
    sym (leading_from_mask_l (λ x. eqb x c.args.byte) c.args.lanes (sym found ∙ c.if-found-eq0.true) ∙ c.requires)

pub returns : goal.returns
returns c =
    let found = bitmask_splat w8 eqb c.args.lanes 16 c.args.byte c.requires (omega arith) in
    ap (count_trailing_zeros 64) found ∙ trailing_mask_l (λ x. eqb x c.args.byte) 64 c.args.lanes (omega arith) (omega arith)
