use Rattle.std.proofs.Common.{◌≡◌, false, true, ap, subst, sym, ◌∙◌}
use Rattle.guarded_reduction.specs.Linking.{Linked, is_fixed}
use Rattle.guarded_reduction.specs.Moves.{keeps_all}
use Rattle.guarded_reduction.specs.States.{IsFixing, IsNext, IsQueued}
use Rattle.guarded_reduction.proofs.Queued.{next_fixed, one_fixed}
use Rattle.guarded_reduction.proofs.queue.looking.next_going.Goals as goal

pub corners-preserved : goal.corners-preserved
corners-preserved c =
    let s = c.next_corner.new.places in
    let e = c.in-Some.entry in
    let same = c.in_ok-entry.ensures.same in
    let n = subst (λ (x : Linked). IsNext c.args.threshold x c.next_corner.new.queue c.next_corner.new.waiting e) (sym same) (rw c.in-Some.is at c.in_ok-entry.ensures.next) in
    let gone : keeps_all s e.place c.args.rings.now ≡ false = ap (keeps_all s e.place) (sym c.corners.invariant.rings) ∙ sym c.keeps.ensures ∙ c.if-keeps.false in
    record {
      queued = subst (λ (x : Linked). IsQueued c.args.threshold x c.next_corner.new.queue c.next_corner.new.waiting) (sym c.fix.ensures.fixed)
          (next_fixed c.args.threshold s c.next_corner.new.queue c.next_corner.new.waiting e (subst (λ (x : Linked). is_fixed x e.place ≡ true) c.fix.ensures.fixed c.fix.ensures.stays) n);
      fixing = subst (IsFixing c.args.places.now c.args.rings.now) (sym c.fix.ensures.fixed) (one_fixed c.args.places.now s c.args.rings.now e.place (subst (IsFixing c.args.places.now c.args.rings.now) (sym same) c.corners.invariant.fixing) n.due.corner gone);
      rings = c.corners.invariant.rings;
    }
