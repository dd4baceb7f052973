use Rattle.std.proofs.Common.{◌+◌, ◌<◌, ◌∙◌, List, ℕ, length, length-set, ap, arith, subst, sym}
use Rattle.guarded_reduction.specs.Cells.{AreChained, list_at}
use Rattle.guarded_reduction.proofs.Cells.{chained_more, chained_past}
use Rattle.guarded_reduction.proofs.index.cell_lists.put_on_lists.Goals as goal
use Rattle.guarded_reduction.proofs.index.cell_lists.put_on_lists.Goals.{then-is_left, else-is_left}

pub places-preserved : goal.places-preserved
places-preserved c =
    let on = c.list_at-list.ensures.value ∙ ap (list_at c.args.bits c.args.mask) c.position_of.ensures in
    let within : c.list_at-list.result < length c.places.firsts = omega (arith, c.list_at-list.ensures.within, c.requires.mask, c.places.invariant.many) in
    let are : List ℕ → Type 0 = λ firsts. AreChained c.args.bits c.args.mask c.args.positions.now c.args.present.now firsts c.push.new.self.items (c.places.place + 1) in
    elim c.if-is_left.branch [
      | then-is_left w ↦ record {
        many = ap length w.firsts-is ∙ length-set c.places.firsts c.list_at-list.result c.in_ok-number.number ∙ c.places.invariant.many;
        chained = subst are (sym w.firsts-is) (chained_more _ _ _ _ _ _ _ _ _ _ c.places.invariant.chained on within c.in_ok-number.ensures c.in_ok-push.ensures.items);
      }
      | else-is_left w ↦ record {
        many = ap length w.firsts-is ∙ c.places.invariant.many;
        chained = subst are (sym w.firsts-is) (chained_past _ _ _ _ _ _ _ _ _ _ c.places.invariant.chained on within c.in_ok-number.ensures c.in_ok-push.ensures.items (sym c.is_left.ensures ∙ w.if-is_left.false));
      }
    ]
