use Rattle.std.proofs.Common.{◌≤◌, ◌∙◌, ◌++◌, List, [], ◌∷◌, length, ap, subst}
use Rattle.std.specs.List.{AllByRecursion}
use Rattle.effective_area.specs.Calls.{call_at}
use Rattle.effective_area.proofs.CallLists.{one_called}
use Rattle.elimination_meaning.specs.Elimination.{reduce}
use Rattle.geometry.specs.Points.{Point}
use Rattle.build_meaning.specs.Simplified.{retained}
use Rattle.topo_model.proofs.RetainedArcs.{retained_more}
use Rattle.layer_topology.proofs.choosing.reduced_arcs.Goals as goal

pub arcs-preserved : goal.arcs-preserved
arcs-preserved g c =
    let long = subst (AllByRecursion (λ (arc : List Point). 2 ≤ length arc)) c.in-Some.ensures.steps.0 c.arcs.invariant.long in
    record {
      long = long.1;
      left = retained_more (reduce c.args.threshold) c.arcs.yielded c.in-Some.arc _ c.arcs.left.items c.push.new.self.items c.arcs.invariant.left
          (c.in_ok-reduced_line.ensures.retained ∙ ap (λ arc. retained (reduce c.args.threshold arc) arc) c.as_slice.ensures) c.in_ok-push.ensures.items;
      called = one_called c.args.threshold _ _ _ c.arcs.yielded c.in-Some.arc c.arcs.invariant.called (c.in_ok-reduced_line.ensures.called
          ∙ ap (λ arc. g.Q.Reducer.calls c.arcs.reducer ++ call_at c.args.threshold arc ∷ []) c.as_slice.ensures);
    }
