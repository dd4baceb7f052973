use Rattle.std.proofs.Common.{◌≡◌, map, subst}
use Rattle.std.specs.Prelude.{IfOk}
use Rattle.geometry.specs.Lists.{map_some}
use Rattle.topo_model.specs.Drops.{objects_dropped}
use Rattle.topo_model.proofs.Drops.{sparing_is}
use Rattle.topo_model.proofs.leaving_out.leave_out_small.Goals as goal

pub returns-clause-dropped : goal.returns-clause-dropped
returns-clause-dropped c =
    subst (λ why. IfOk c.leave_out.result (λ dropped. dropped.items ≡ objects_dropped why 0 (map (map_some (λ v. v.items)) c.args.ways.now) c.args.objects.now)) (sparing_is c.args.judging.now) c.leave_out.ensures.dropped
