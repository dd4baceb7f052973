use Rattle.std.proofs.Common.{◌+◌, ap, cond, sym, ◌∙◌, [], ◌∷◌, ◌++◌}
use Rattle.std.proofs.lemmas.List.{append-nil}
use Rattle.guarded_reduction.specs.Indexes.{is_left_at}
use Rattle.guarded_reduction.proofs.Flattened.{kept_more}
use Rattle.guarded_reduction.proofs.reducing.kept_from.Goals as goal
use Rattle.guarded_reduction.proofs.reducing.kept_from.Goals.{then-is_left+in_ok-push, else-is_left}

pub loop-i-preserved : goal.loop-i-preserved
loop-i-preserved c =
    let more = kept_more (λ i. is_left_at c.args.stays.now (c.args.first + i)) c.loop-i.i c.is_left.result c.loop-i.kept.items c.if-is_left.kept.items c.is_left.ensures c.loop-i.invariant in
    elim c.if-is_left.branch [
      | then-is_left+in_ok-push w ↦ more (ap (λ v. v.items) w.kept-is ∙ w.in_ok-push.ensures.items ∙ ap (λ b. c.loop-i.kept.items ++ cond b (c.loop-i.i ∷ []) []) (sym w.if-is_left.true))
      | else-is_left w ↦ more (ap (λ v. v.items) w.kept-is ∙ sym (append-nil c.loop-i.kept.items) ∙ ap (λ b. c.loop-i.kept.items ++ cond b (c.loop-i.i ∷ []) []) (sym w.if-is_left.false))
    ]
