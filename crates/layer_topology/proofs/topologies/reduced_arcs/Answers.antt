use Rattle.std.proofs.Common.{◌∙◌, ◌++◌, List, ap, subst, sym}
use Rattle.std.specs.List.{AllByRecursion}
use Rattle.std.specs.Option.{option_copied}
use Rattle.std.proofs.lemmas.List.{map_push}
use Rattle.effective_area.specs.Calls.{calls_for}
use Rattle.effective_area.proofs.CallLists.{one_called}
use Rattle.elimination_meaning.specs.Elimination.{reduce}
use Rattle.geometry.specs.Points.{Point}
use Rattle.build_meaning.specs.Thresholds.{placed_cells}
use Rattle.topojson_types.specs.Validity.{IsArc}
use Rattle.topo_model.proofs.RetainedArcs.{retained_more}
use Rattle.layer_topology.proofs.topologies.reduced_arcs.Goals as goal

pub arcs-preserved : goal.arcs-preserved
arcs-preserved g c =
    let valid = subst (AllByRecursion (IsArc (option_copied c.args.transform))) c.in-Some.ensures.steps.0 c.arcs.invariant.valid in
    let place = λ (cells : List Point). placed_cells (option_copied c.args.transform) cells in
    let numbers = λ (cells : List Point). reduce c.args.t (placed_cells (option_copied c.args.transform) cells) in
    record {
      valid = valid.1;
      left = retained_more numbers c.arcs.yielded c.in-Some.arc _ c.arcs.left.items c.push.new.self.items c.arcs.invariant.left
          c.in_ok-reduced_arc.ensures.retained c.in_ok-push.ensures.items;
      called = one_called c.args.t _ _ _ _ (place c.in-Some.arc) (c.arcs.invariant.called) c.in_ok-reduced_arc.ensures.called
          ∙ ap (λ arcs. g.Q.Reducer.calls c.args.reducer.now ++ calls_for c.args.t arcs) (sym (map_push place c.arcs.yielded c.in-Some.arc));
    }
