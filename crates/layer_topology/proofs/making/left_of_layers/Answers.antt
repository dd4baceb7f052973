use Rattle.std.proofs.Common.{◌∙◌, ◌++◌, ap, sym}
use Rattle.std.proofs.lemmas.Result.{IfOk-weaker}
use Rattle.build_meaning.specs.Assembled.{arcs_of_layers}
use Rattle.build_meaning.specs.declared.guards.Guards.{Guards}
use Rattle.layer_topology.specs.Levels.{calls_over, chosen_for}
use Rattle.layer_topology.specs.Written.{layers_threshold}
use Rattle.layer_topology.proofs.Asked.{as_none}
use Rattle.layer_topology.proofs.TurnsLeft.{layers_apart, no_calls}
use Rattle.layer_topology.proofs.making.left_of_layers.Goals as goal

pub returns-then-is_at_once : goal.returns-then-is_at_once
returns-then-is_at_once g c =
    let a = c.args.asked in
    let once = sym c.is_at_once.ensures ∙ c.if-is_at_once.true in
    record {
      left = c.left_at_once.ensures.left;
      chosen = c.left_at_once.ensures.chosen;
      called = IfOk-weaker c.left_at_once.result _ _ (λ r h. no_calls a.guards a.level (arcs_of_layers c.args.layers.items) (g.Q.Reducer.calls c.args.reducer.now) once) c.left_at_once.ensures.chosen;
      few = c.left_at_once.ensures.few;
    }

pub returns : goal.returns
returns g c =
    let a = c.args.asked in
    let ls = c.args.layers.items in
    let apart = sym c.is_at_once.ensures ∙ c.if-is_at_once.false in
    let none = sym (as_none a.guards apart) in
    record {
      left = IfOk-weaker c.left_apart.result _ _ (λ r h. layers_apart a.guards a.level a.ring_limit ls apart r.topology r.dropped.items r.removed_count h) c.left_apart.ensures.left;
      chosen = IfOk-weaker c.left_apart.result _ _ (λ r h. h ∙ ap (λ (u : Guards). chosen_for a.level (layers_threshold u a.level a.ring_limit ls)) none) c.left_apart.ensures.chosen;
      called = IfOk-weaker c.left_apart.result _ _ (λ r h. h ∙ ap (λ (u : Guards). g.Q.Reducer.calls c.args.reducer.now ++ calls_over u a.level (arcs_of_layers ls)) none) c.left_apart.ensures.called;
      few = c.left_apart.ensures.few;
    }
