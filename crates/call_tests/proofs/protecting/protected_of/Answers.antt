use Rattle.std.proofs.Common.{List, Option, ap, subst, sym, ◌∙◌}
use Rattle.std.specs.List.{AllByRecursion}
use Rattle.geometry.specs.Points.{IsPosition, Point}
use Rattle.topo_model.proofs.Picks.{topology_places}
use Rattle.topo_model.proofs.Result.{are_positions}
use Rattle.topojson_types.specs.Decoding.{placed_arcs}
use Rattle.topojson_types.specs.declared.transform.Transform.{Transform}
use Rattle.call_tests.proofs.protecting.protected_of.Goals as goal

pub protected_rings-requires : goal.protected_rings-requires
protected_rings-requires c =
    let y = c.args.topology.now in
    subst (AllByRecursion (λ a. AllByRecursion IsPosition a))
    (sym (c.deref.ensures.value ∙ c.in_ok-placed.ensures ∙ ap (λ (t : Option Transform). placed_arcs t c.arcs.result.now) c.transform.ensures.transform ∙ ap (λ (arcs : List (List Point)). placed_arcs y.transform arcs) c.arcs.ensures.arcs))
    (are_positions y.transform y.arcs (topology_places y c.arcs.ensures.valid))
