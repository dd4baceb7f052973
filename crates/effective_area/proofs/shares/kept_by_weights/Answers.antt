use Rattle.std.proofs.Common.{ap, cond, sym, ◌∙◌, [], ◌∷◌, ◌++◌}
use Rattle.std.proofs.lemmas.List.{append-nil}
use Rattle.effective_area.proofs.Gathered.{indexes_kept_more, indexes_kept_all}
use Rattle.effective_area.proofs.KeptWeights.{kept_at_is_reduced}
use Rattle.effective_area.specs.Shares.{kept_at}
use Rattle.effective_area.proofs.shares.kept_by_weights.Goals as goal
use Rattle.effective_area.proofs.shares.kept_by_weights.Goals.{then-stays+in_ok-push, else-stays}

pub weights-preserved : goal.weights-preserved
weights-preserved c =
    let more = indexes_kept_more c.args.threshold c.args.weights.now c.weights.i _ c.stays.result c.weights.kept.items c.if-stays.kept.items c.weights-test.true c.stays.ensures c.weights.invariant in
    elim c.if-stays.branch [
      | then-stays+in_ok-push w ↦ more (ap (λ v. v.items) w.kept-is ∙ w.in_ok-push.ensures.items ∙ ap (λ b. c.weights.kept.items ++ cond b (c.weights.i ∷ []) []) (sym w.if-stays.true))
      | else-stays w ↦ more (ap (λ v. v.items) w.kept-is ∙ sym (append-nil c.weights.kept.items) ∙ ap (λ b. c.weights.kept.items ++ cond b (c.weights.i ∷ []) []) (sym w.if-stays.false))
    ]

pub returns-clause-reduced : goal.returns-clause-reduced
returns-clause-reduced c ps e =
    indexes_kept_all c.args.threshold c.args.weights.now c.weights.i c.weights.kept.items c.weights.auto.i-end c.weights-test.false c.weights.invariant
    ∙ ap (kept_at c.args.threshold) e ∙ kept_at_is_reduced c.args.threshold ps
