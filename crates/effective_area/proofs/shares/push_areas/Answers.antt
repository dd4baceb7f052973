use Rattle.std.proofs.Common.{ap, sym, ◌∙◌, [], ◌++◌}
use Rattle.std.specs.List.{cons_option}
use Rattle.std.proofs.lemmas.List.{append-nil}
use Rattle.effective_area.proofs.Gathered.{areas_more}
use Rattle.effective_area.proofs.shares.push_areas.Goals as goal
use Rattle.effective_area.proofs.shares.push_areas.Goals.{in-Some+in_ok-push, in_default}

pub weights-preserved : goal.weights-preserved
weights-preserved c =
    let more = areas_more c.args.weights.now c.weights.weight-index _ c.area_of.result c.args.areas.now.items c.weights.areas.items c.match-area_of.areas.items c.weights-test.true c.area_of.ensures c.weights.invariant in
    elim c.match-area_of.branch [
      | in-Some+in_ok-push w ↦ more (ap (λ v. v.items) w.areas-is ∙ w.in_ok-push.ensures.items ∙ ap (λ o. c.weights.areas.items ++ cons_option o []) (sym w.in-Some.is))
      | in_default w ↦ more (ap (λ v. v.items) w.areas-is ∙ sym (append-nil c.weights.areas.items) ∙ ap (λ o. c.weights.areas.items ++ cons_option o []) (sym w.in_default.is))
    ]
