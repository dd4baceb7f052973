use Rattle.std.proofs.lemmas.Bool.{not-false}
use Rattle.guarded_reduction.proofs.Joining.{blocked_outside}
use Rattle.guarded_reduction.proofs.Queries.{outside}
use Rattle.guarded_reduction.proofs.index.blocking.Blocked.may_meet.Goals as goal

pub returns-then-not-is_point : goal.returns-then-not-is_point
returns-then-not-is_point c = λ e.
    let k = not-false c.is_aside.result e in
    blocked_outside c.args.e.now _ _ _ c.args.self.now.corner (c.is_aside.ensures.first k) (outside c.args.e.now c.args.self.now.corner (c.is_aside.ensures.triangle k))
