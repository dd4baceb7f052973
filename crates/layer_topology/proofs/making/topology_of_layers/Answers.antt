use Rattle.std.proofs.Common.{rules, ◌++◌, ◌∙◌, ap, subst}
use Rattle.build_meaning.specs.Assembled.{arcs_of_layers}
use Rattle.build_meaning.specs.InTurn.{layers_left_in_turn}
use Rattle.byte_ends.specs.Ends.{saturated}
use Rattle.layer_topology.specs.Levels.{calls_over, chosen_for}
use Rattle.layer_topology.specs.Topologies.{IsLeft}
use Rattle.layer_topology.specs.Written.{written_threshold}
use Rattle.layer_topology.proofs.GuardedMade.{as_written, cells_under, plain_under, same_threshold}
use Rattle.layer_topology.proofs.making.topology_of_layers.Goals as goal

pub on_grid-requires-clause-plain : goal.on_grid-requires-clause-plain
on_grid-requires-clause-plain g c =
    let e = c.snapped_layers-snapped.ensures in
    plain_under c.args.asked.guards _ c.args.asked.ring_limit c.args.grid c.args.layers.items _ _ _ e.grid e.snapped c.in_ok-left.ensures.left.topology_is
    c.without_small_keeps.ensures

pub on_grid-requires-clause-on : goal.on_grid-requires-clause-on
on_grid-requires-clause-on g c =
    let e = c.snapped_layers-snapped.ensures in
    cells_under c.args.asked.guards _ c.args.asked.ring_limit c.args.grid c.args.layers.items _ _ _ e.grid e.snapped c.in_ok-left.ensures.left.topology_is
    c.snapped_are_on.ensures c.built_cells_are_on.ensures c.without_small_on_grid.ensures c.requires.taken

pub returns : goal.returns
returns g c =
    let guards = c.args.asked.guards in
    let limit = c.args.asked.ring_limit in
    let e = c.snapped_layers-snapped.ensures in
    let t = written_threshold guards c.args.grid c.args.asked.level limit c.args.layers.items in
    let same =
    same_threshold c.snapped_are_on.ensures c.left_on_grid.ensures c.built_cells_are_on.ensures c.without_small_on_grid.ensures c.without_small_keeps.ensures guards c.args.asked.level limit c.args.grid
    c.args.layers.items _ e.snapped c.requires.taken in
    let left = c.in_ok-left.left in
    let got : IsLeft (layers_left_in_turn guards t limit c.snapped_layers-snapped.result.0.items) left.topology left.dropped.items left.removed_count =
    subst (λ n. IsLeft (layers_left_in_turn guards n limit c.snapped_layers-snapped.result.0.items) left.topology left.dropped.items left.removed_count) same c.in_ok-left.ensures.left in
    record {
      left = record {
        topology_is = as_written guards t limit c.args.grid c.args.layers.items _ _ _ e.grid e.snapped got.topology_is _ c.in_ok-topology.ensures;
        dropped_are = got.dropped_are ∙ ap (λ m. (layers_left_in_turn guards t limit m).dropped) e.snapped;
        count_is = got.count_is ∙ ap (λ m. saturated (layers_left_in_turn guards t limit m).removed_count) e.snapped;
      };
      chosen = c.in_ok-left.ensures.chosen ∙ ap (chosen_for c.args.asked.level) same;
      called = c.in_ok-left.ensures.called ∙ ap (λ m. g.Q.Reducer.calls c.args.reducer.now ++ calls_over guards c.args.asked.level (arcs_of_layers m)) e.snapped;
      few = search rules;
    }
