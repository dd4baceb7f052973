use Rattle.std.proofs.Common.{◌≡◌, ◌++◌, ◌≤◌, length, map}
use Rattle.std.specs.List.{AllByRecursion}
use Rattle.std.specs.Vec.Iter.{into_iter_items}
use Rattle.effective_area.specs.Calls.{calls_for}
use Rattle.elimination_meaning.specs.Elimination.{reduce}
use Rattle.build_meaning.specs.Simplified.{retained_arcs}
use Rattle.layer_topology.proofs.choosing.reduced_arcs.Given as goal

-- those so far, and the calls for them
abbrev pub invariant-arcs : goal.invariant-arcs
invariant-arcs g l = record {
  long : AllByRecursion (λ arc. 2 ≤ length arc) (into_iter_items l.arc-iterator);
  left : l.left.items ≡ retained_arcs (map (reduce l.threshold) l.yielded) l.yielded;
  called : g.Q.Reducer.calls l.reducer ≡ g.Q.Reducer.calls l.fn.reducer ++ calls_for l.threshold l.yielded;
}
