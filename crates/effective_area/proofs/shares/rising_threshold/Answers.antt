use Rattle.std.proofs.Common.{◌<◌, ◌≤◌, ◌-◌, ap, arith, get_or, length, ◌∙◌}
use Rattle.std.proofs.lemmas.Bool.Decides.{nat_tests}
use Rattle.std.proofs.lemmas.Nat.{mul-le}
use Rattle.effective_area.proofs.ShareLaws.{rising_share, share_of_none}
use Rattle.effective_area.proofs.shares.rising_threshold.Goals as goal

pub returns-then-is_empty : goal.returns-then-is_empty
returns-then-is_empty c = share_of_none c.args.p c.args.q c.args.weights.now (grind (arith, nat_tests))

pub returns : goal.returns
returns c =
    let ws = c.args.weights.now in
    let some : 0 < length ws = grind (arith, nat_tests) in
    let within : c.least_part.result ≤ length ws = c.least_part.ensures.least (length ws) (mul-le c.args.p (length ws) c.args.q (length ws) c.requires.part (omega arith)) in
    ap (λ n. get_or ws (length ws - n) 0) c.max-kept.ensures ∙ rising_share ws c.requires.rising c.args.p c.args.q c.least_part.result some within c.least_part.ensures.enough c.least_part.ensures.least c.requires.part
