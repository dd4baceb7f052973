use Rattle.std.proofs.Common.{◌≡◌, ◌++◌, map}
use Rattle.std.specs.List.{AllByRecursion}
use Rattle.std.specs.Option.{option_copied}
use Rattle.std.specs.Vec.Iter.{into_iter_items}
use Rattle.effective_area.specs.Calls.{calls_for}
use Rattle.elimination_meaning.specs.Elimination.{reduce}
use Rattle.build_meaning.specs.Simplified.{retained_arcs}
use Rattle.build_meaning.specs.Thresholds.{placed_cells}
use Rattle.topojson_types.specs.Validity.{IsArc}
use Rattle.layer_topology.proofs.topologies.reduced_arcs.Given as goal

-- those so far, and the calls for them
abbrev pub invariant-arcs : goal.invariant-arcs
invariant-arcs g l = record {
  valid : AllByRecursion (IsArc (option_copied l.transform)) (into_iter_items l.arc-iterator);
  left : l.left.items ≡ retained_arcs (map (λ cells. reduce l.t (placed_cells (option_copied l.transform) cells)) l.yielded) l.yielded;
  called : g.Q.Reducer.calls l.reducer ≡ g.Q.Reducer.calls l.fn.reducer ++ calls_for l.t (map (placed_cells (option_copied l.transform)) l.yielded);
}
