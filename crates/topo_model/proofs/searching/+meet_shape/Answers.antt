use Rattle.std.proofs.Common.{◌≡◌, ℕ, List, ◌∷◌, ◌++◌, [], Option, map, ap, sym, ◌∙◌}
use Rattle.geometry.specs.Paths.{of_parts}
use Rattle.build_meaning.specs.OuterRings.{outer_rings}
use Rattle.topo_model.specs.Searching.{Found, all_met, at_way}
use Rattle.topo_model.proofs.BestRing.{part_met, parts_met, rings_at}
use Rattle.topo_model.proofs.searching.+meet_shape.Goals as goal

pub shapes-preserved : goal.shapes-preserved
shapes-preserved t c =
    let e : c.enter.new.way.items ≡ c.args.way.now.items ++ (c.shapes.number ∷ []) = c.in_ok-enter-in-Group.ensures ∙ ap (λ w. w ++ (c.shapes.number ∷ [])) c.shapes.invariant.0 in (
      c.leave.ensures c.args.way.now.items c.shapes.number (◌∙◌ {A = List ℕ} c.in_ok-meet_shape-in-Group.ensures.way e),
      part_met c.args.arcs.now outer_rings c.args.way.now.items c.shapes.number c.shapes.number c.shapes.best c.meet_shape.new.best _ c.as_slice-shape-items.result.now c.shape-item.result
          c.shapes-test.true c.shape-item.is c.shapes.invariant.1
          (◌∙◌ {A = Option Found} c.in_ok-meet_shape-in-Group.ensures.best (ap (λ w. all_met c.args.arcs.now c.shapes.best (at_way w (outer_rings c.shape-item.result))) e)),
    )

pub returns-after-shapes-clause-best : goal.returns-after-shapes-clause-best
returns-after-shapes-clause-best t c =
    parts_met c.args.arcs.now outer_rings c.args.way.now.items c.shapes.number c.shapes.number c.shapes.best _ c.as_slice-shape-items.result.now c.shapes-test.false c.shapes.invariant.1
    ∙ ap (λ xs. all_met c.args.arcs.now c.args.best.now (at_way c.args.way.now.items xs))
    (sym (ap outer_rings c.in-Group.is ∙ rings_at.group c.in-Group.shapes ∙ ap (λ ss. of_parts 0 (map outer_rings ss)) (sym c.as_slice-shape-items.ensures)))
