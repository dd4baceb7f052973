use Rattle.std.proofs.Common.{◌∙◌, None}
use Rattle.std.proofs.lemmas.Result.{IfOk-weaker}
use Rattle.topo_model.proofs.Picks.{places_are}
use Rattle.layer_topology.proofs.topologies.own_positions.Goals as goal

pub returns : goal.returns
returns c = IfOk-weaker c.positions.result _ _ (λ line h. h ∙ places_are None c.as_slice.result.now ∙ c.as_slice.ensures) c.positions.ensures
