use Rattle.planar_predicates.proofs.Boxes.{holds_in, lies_in_trans}
use Rattle.guarded_reduction.proofs.Queries.{holds_triangle, reaches}
use Rattle.guarded_meaning.proofs.Box.{box_law}
use Rattle.guarded_reduction.proofs.index.corner.reach_of.Goals as goal

pub returns-clause-triangle : goal.returns-clause-triangle
returns-clause-triangle c = holds_triangle box_law c.joined-2.result c.args.c.now (holds_in _ _ _ c.joined-2.ensures.first c.around.ensures)
    (holds_in _ _ _ (lies_in_trans _ _ _ c.joined.ensures.first c.joined-2.ensures.second) c.around-2.ensures)
    (holds_in _ _ _ (lies_in_trans _ _ _ c.joined.ensures.second c.joined-2.ensures.second) c.around-3.ensures)

pub returns-clause-holders : goal.returns-clause-holders
returns-clause-holders c = reaches c.joined-2.result c.args.c.now (returns-clause-triangle c)

pub returns-clause-before : goal.returns-clause-before
returns-clause-before c = holds_in _ _ _ c.joined-2.ensures.first c.around.ensures
