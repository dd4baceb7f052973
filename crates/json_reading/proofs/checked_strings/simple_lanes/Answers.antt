use Rattle.std.proofs.Common.{not, sym, ap, ◌∙◌, arith}
use lib.Count.{count_trailing_zeros}
use Rattle.std.proofs.lemmas.Simd.{leading_from_mask_l, trailing_mask_l}
use Rattle.json_reading.specs.Strings.{is_simple}
use Rattle.json_value.proofs.PlainLanes.{not_not}
use Rattle.json_reading.proofs.SimpleLanes.{marks}
use Rattle.json_reading.proofs.checked_strings.simple_lanes.Goals as goal

pub returns-then-found-eq0 : goal.returns-then-found-eq0
returns-then-found-eq0 c =
    let found = marks c.args.lanes c.requires in
    sym (not_not is_simple c.args.lanes ∙ leading_from_mask_l (λ x. not (is_simple x)) c.args.lanes (sym found ∙ c.if-found-eq0.true) ∙ c.requires)

pub returns : goal.returns
returns c =
    let found = marks c.args.lanes c.requires in
    ap (count_trailing_zeros 64) found ∙ trailing_mask_l (λ x. not (is_simple x)) 64 c.args.lanes (omega arith) (omega arith) ∙ sym (not_not is_simple c.args.lanes)
