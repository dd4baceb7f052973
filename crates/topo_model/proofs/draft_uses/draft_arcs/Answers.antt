use Rattle.std.proofs.Common.{ap, ◌∙◌}
use Rattle.std.proofs.lemmas.Result.{IfOk-weaker}
use Rattle.build_meaning.specs.Trimming.{is_used}
use Rattle.topo_model.specs.DraftUses.{with_refs}
use Rattle.topo_model.specs.Uses.{answers}
use Rattle.topo_model.proofs.Along.{cells_stay, placed_plainly}
use Rattle.topo_model.proofs.draft_uses.draft_arcs.Goals as goal

pub returns : goal.returns
returns c =
    IfOk-weaker c.arcs_used.result _ _
    (λ used h. h ∙ ap (λ os. answers (is_used os) 0 c.args.arcs) (placed_plainly (λ p. p) with_refs c.args.objects.now ∙ cells_stay with_refs c.args.objects.now)) c.arcs_used.ensures
