use Rattle.std.proofs.Common.{◌∙◌, ◌++◌, ap, map, sym}
use Rattle.std.proofs.lemmas.Result.{IfOk-weaker}
use Rattle.build_meaning.specs.InTurn.{without_small}
use Rattle.build_meaning.specs.Thresholds.{placed_cells}
use Rattle.build_meaning.specs.declared.guards.Guards.{Guards}
use Rattle.layer_topology.specs.Levels.{calls_over, chosen_for, threshold_of}
use Rattle.layer_topology.proofs.Asked.{as_none}
use Rattle.layer_topology.proofs.TurnsLeft.{no_calls, topology_apart}
use Rattle.layer_topology.proofs.topologies.left_of_topology.Goals as goal

pub returns-then-is_at_once : goal.returns-then-is_at_once
returns-then-is_at_once g c =
    let a = c.args.asked in
    let y = c.args.topology in
    let once = sym c.is_at_once.ensures ∙ c.if-is_at_once.true in
    record {
      left = c.left_at_once.ensures.left;
      chosen = c.left_at_once.ensures.chosen;
      called = IfOk-weaker c.left_at_once.result _ _ (λ r h. no_calls a.guards a.level (map (placed_cells y.transform) y.arcs) (g.Q.Reducer.calls c.args.reducer.now) once) c.left_at_once.ensures.chosen;
    }

pub returns : goal.returns
returns g c =
    let a = c.args.asked in
    let y = c.args.topology in
    let apart = sym c.is_at_once.ensures ∙ c.if-is_at_once.false in
    let none = sym (as_none a.guards apart) in
    record {
      left = IfOk-weaker c.left_apart.result _ _ (λ r h. topology_apart a.guards a.level a.ring_limit y apart r.topology r.dropped.items r.removed_count h) c.left_apart.ensures.left;
      chosen = IfOk-weaker c.left_apart.result _ _ (λ r h. h ∙ ap (λ (u : Guards). chosen_for a.level (threshold_of u a.level (without_small u a.ring_limit y))) none) c.left_apart.ensures.chosen;
      called = IfOk-weaker c.left_apart.result _ _ (λ r h. h ∙ ap (λ (u : Guards). g.Q.Reducer.calls c.args.reducer.now ++ calls_over u a.level (map (placed_cells y.transform) y.arcs)) none) c.left_apart.ensures.called;
    }
