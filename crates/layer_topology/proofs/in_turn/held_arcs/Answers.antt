use Rattle.std.proofs.Common.{◌∙◌, Option, ap, map, sym}
use Rattle.std.proofs.lemmas.Result.{IfOk-weaker}
use Rattle.geometry.specs.Lists.{map_some}
use Rattle.layer_topology.proofs.DraftInTurn.{all_flags}
use Rattle.layer_topology.specs.InTurn.{held_by}
use Rattle.topo_model.specs.Uses.{answers}
use Rattle.layer_topology.proofs.in_turn.held_arcs.Goals as goal

pub returns-in-None : goal.returns-in-None
returns-in-None c =
    let ways = map (map_some (λ w. w.items)) c.args.ways.now in
    IfOk-weaker c.set_flags.result _ _
    (λ r h. h ∙ all_flags 0 c.args.arcs ∙ sym (ap (λ (f : Option _). answers (held_by (map_some (λ r. r.now) f) ways c.args.objects.now) 0 c.args.arcs) c.in-None.is)) c.set_flags.ensures
