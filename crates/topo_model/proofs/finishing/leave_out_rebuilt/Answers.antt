use Rattle.std.proofs.Common.{map, ap, ◌∙◌}
use Rattle.std.proofs.lemmas.Result.{IfOk-weaker, on_ok_weaker}
use Rattle.geometry.specs.Lists.{map_some}
use Rattle.build_meaning.specs.Protected.{sparing}
use Rattle.topo_model.specs.Along.{objects_along}
use Rattle.topo_model.specs.Drops.{judged_refs, objects_drops}
use Rattle.topo_model.specs.Rebuilding.{Judging}
use Rattle.topo_model.proofs.finishing.leave_out_rebuilt.Goals as goal

pub returns-clause-objects : goal.returns-clause-objects
returns-clause-objects c =
    on_ok_weaker c.leave_out_small.result
    (λ h. h ∙ ap (λ (j : Judging). objects_along (sparing (judged_refs j.first j.later)) (map (map_some (λ v. v.items)) c.args.ways.now) c.args.objects.now)
    (c.by.ensures ∙ ap (λ r. record { first = map_some (λ r. r.now) c.args.first; later = r }) c.in_ok-later.ensures)) c.leave_out_small.ensures.objects

pub returns-clause-dropped : goal.returns-clause-dropped
returns-clause-dropped c =
    IfOk-weaker c.leave_out_small.result _ _
    (λ dropped h. h ∙ ap (λ (j : Judging). objects_drops j 0 (map (map_some (λ v. v.items)) c.args.ways.now) c.args.objects.now)
    (c.by.ensures ∙ ap (λ r. record { first = map_some (λ r. r.now) c.args.first; later = r }) c.in_ok-later.ensures)) c.leave_out_small.ensures.dropped
