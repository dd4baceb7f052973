use Rattle.std.proofs.Common.{◌∙◌, Bool, true, false, Some, ap, refl, subst, sym}
use Rattle.std.proofs.lemmas.Result.{IfOk-weaker}
use Rattle.std.specs.List.{AllByRecursion}
use Rattle.geometry.specs.Points.{IsPosition}
use Rattle.layer_topology.proofs.DraftInTurn.{positions_are}
use Rattle.layer_topology.specs.InTurn.{IsLeftInTurn}
use Rattle.topo_model.specs.DraftUses.{draft_contents}
use Rattle.topo_model.specs.Rebuilding.{Rebuilding}
use Rattle.layer_topology.proofs.in_turn.left_judged.Goals as goal

pub of-requires-clause-places : goal.of-requires-clause-places
of-requires-clause-places c = subst (AllByRecursion (λ a. AllByRecursion IsPosition a)) (sym c.requires.placed) (positions_are c.args.transform c.args.arcs.now c.requires.valid.arcs)

pub of-requires-clause-limit : goal.of-requires-clause-limit
of-requires-clause-limit c = c.requires.limit

pub left_in_turn-requires-clause-judged : goal.left_in_turn-requires-clause-judged
left_in_turn-requires-clause-judged c = (true, ap (λ (r : Rebuilding). Some r) c.in_ok-first.ensures)

pub returns-then-goes_first : goal.returns-then-goes_first
returns-then-goes_first c =
    let a = c.args.asked in
    let left = c.in_ok-left.left in
    subst (λ (b : Bool). IsLeftInTurn b a.guards a.level a.ring_limit c.args.objects.items (draft_contents c.args.objects.items c.args.arcs.now c.args.transform) left.topology left.dropped.items left.removed_count left.chosen)
    (sym (sym c.goes_first.ensures ∙ c.if-goes_first.true)) (c.in_ok-left.ensures.left true (ap (λ (r : Rebuilding). Some r) c.in_ok-first.ensures))

pub returns : goal.returns
returns c =
    let a = c.args.asked in
    IfOk-weaker c.left_in_turn-2.result _ _
    (λ r h. subst (λ (b : Bool). IsLeftInTurn b a.guards a.level a.ring_limit c.args.objects.items (draft_contents c.args.objects.items c.args.arcs.now c.args.transform) r.topology r.dropped.items r.removed_count r.chosen)
    (sym (sym c.goes_first.ensures ∙ c.if-goes_first.false)) (h false refl)) c.left_in_turn-2.ensures.left
