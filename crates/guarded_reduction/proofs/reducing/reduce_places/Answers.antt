use Rattle.std.proofs.Common.{◌≡◌, ◌+◌, ◌-◌, suc, ap, sym, subst, ◌∙◌, arith}
use Rattle.guarded_meaning.specs.Elimination.{eliminate_arcs, remaining_arcs}
use Rattle.guarded_meaning.specs.Guards.{guarded_by}
use Rattle.guarded_reduction.specs.Keeping.{IsKeeping}
use Rattle.guarded_reduction.specs.Linking.{IsShowing, Linked, unlinked}
use Rattle.guarded_reduction.specs.Numbers.{left_arcs}
use Rattle.guarded_reduction.proofs.Keeping.{IsGoing, first_keeping, fixed_still, going, owners_at}
use Rattle.guarded_reduction.proofs.Next.{goes_next, no_step, none_next, one_step, showing_next}
use Rattle.guarded_reduction.proofs.Showing.{chained}
use Rattle.guarded_reduction.proofs.Starts.{begins, first_showing}
use Rattle.guarded_reduction.proofs.reducing.reduce_places.Goals as goal

pub corners-init : goal.corners-init
corners-init c = record {
  queued = c.in_ok-begin_round.ensures.queued;
  round = c.next_threshold-round.ensures.within;
  showing = subst (IsShowing c.args.arcs.now) (sym c.requires.first) (first_showing c.args.places.now.no_crossings c.args.arcs.now);
  flag = ap (λ (s : Linked). s.no_crossings) c.requires.first;
  keeping = first_keeping c.args.places.now.no_crossings c.args.arcs.now c.args.rings.now c.args.places.now c.in_ok-kept.kept c.requires.first c.in_ok-kept.ensures.rings c.in_ok-kept.ensures.counted c.requires.meet;
  rest = begins (guarded_by c.args.places.now.no_crossings c.args.rings.now) c.args.threshold c.args.places.now.no_crossings c.args.arcs.now c.args.places.now c.len-n.result c.requires.first c.len-n.ensures;
}

pub next_in_rounds-requires-clause-chained : goal.next_in_rounds-requires-clause-chained
next_in_rounds-requires-clause-chained c = chained c.args.arcs.now c.corners.places c.corners.invariant.showing

pub next_in_rounds-requires-clause-owners : goal.next_in_rounds-requires-clause-owners
next_in_rounds-requires-clause-owners c = owners_at c.args.arcs.now c.args.rings.now c.corners.places c.corners.kept c.corners.invariant.showing c.corners.invariant.keeping

pub take_out-requires-clause-chained : goal.take_out-requires-clause-chained
take_out-requires-clause-chained c = chained c.args.arcs.now c.next_in_rounds.new.places
    (fixed_still c.args.arcs.now c.args.rings.now c.corners.places c.corners.invariant.showing c.corners.kept c.corners.invariant.keeping c.next_in_rounds.new.places c.in_ok-next.ensures.fixing).showing

pub corners-preserved : goal.corners-preserved
corners-preserved c =
    let arcs = c.args.arcs.now in
    let rings = c.args.rings.now in
    let b = c.args.places.now.no_crossings in
    let s = c.next_in_rounds.new.places in
    let n = rw c.in-Some.is at c.in_ok-next.ensures.next in
    let f = fixed_still arcs rings c.corners.places c.corners.invariant.showing c.corners.kept c.corners.invariant.keeping s c.in_ok-next.ensures.fixing in
    let on : IsGoing arcs rings s c.corners.kept c.next_in_rounds.new.rings c.in-Some.entry.place = going arcs rings s f.showing c.corners.kept c.next_in_rounds.new.rings f.keeping c.law.ensures c.in-Some.entry.place n.due.corner
    (rw c.in-Some.is at c.in_ok-next.ensures.stay) (rw c.in-Some.is at c.in_ok-next.ensures.counted) in
    let steps : c.len-n.result - c.corners._step ≡ suc (c.len-n.result - (c.corners._step + 1)) = omega (arith, c.corners-test.true) in
    record {
      queued = c.in_ok-take_out.ensures.queued;
      round = c.in_ok-next.ensures.round;
      showing = subst (IsShowing arcs) (sym c.in_ok-take_out.ensures.places)
          (showing_next b rings arcs c.next_in_rounds.new.round s f.showing (f.flag ∙ c.corners.invariant.flag) f.keeping.fixed c.next_in_rounds.new.queue c.next_in_rounds.new.waiting c.in-Some.entry n on.stay c.law.ensures);
      flag = ap (λ (x : Linked). x.no_crossings) c.in_ok-take_out.ensures.places ∙ f.flag ∙ c.corners.invariant.flag;
      keeping = subst (λ (x : Linked). IsKeeping arcs rings x c.next_in_rounds.new.rings) (sym c.in_ok-take_out.ensures.places) on.keeping;
      rest = ap (λ (x : Linked). eliminate_arcs (guarded_by b rings) (c.len-n.result - (c.corners._step + 1)) c.args.threshold (left_arcs arcs x.left)) c.in_ok-take_out.ensures.places
          ∙ one_step (guarded_by b rings) (c.len-n.result - c.corners._step) (c.len-n.result - (c.corners._step + 1)) c.args.threshold (left_arcs arcs s.left)
          (left_arcs arcs (unlinked c.in-Some.entry.place s).left) (remaining_arcs (guarded_by b rings) c.args.threshold arcs) steps
          (goes_next b rings arcs c.next_in_rounds.new.round s f.showing (f.flag ∙ c.corners.invariant.flag) f.keeping.fixed c.next_in_rounds.new.queue c.next_in_rounds.new.waiting c.in-Some.entry n on.stay c.args.threshold c.in_ok-next.ensures.round c.law.ensures)
          (ap (λ bs. eliminate_arcs (guarded_by b rings) (c.len-n.result - c.corners._step) c.args.threshold (left_arcs arcs bs)) f.left ∙ c.corners.invariant.rest);
    }

pub returns-in_default-clause-left : goal.returns-in_default-clause-left
returns-in_default-clause-left c =
    let arcs = c.args.arcs.now in
    let rings = c.args.rings.now in
    let b = c.args.places.now.no_crossings in
    let s = c.next_in_rounds.new.places in
    let n = rw c.in_default.is at c.in_ok-next.ensures.none in
    let f = fixed_still arcs rings c.corners.places c.corners.invariant.showing c.corners.kept c.corners.invariant.keeping s c.in_ok-next.ensures.fixing in
    no_step (guarded_by b rings) (c.len-n.result - c.corners._step) c.args.threshold (left_arcs arcs s.left) (remaining_arcs (guarded_by b rings) c.args.threshold arcs)
    (none_next b rings arcs c.args.threshold s f.showing (f.flag ∙ c.corners.invariant.flag) f.keeping.fixed c.next_in_rounds.new.waiting n)
    (ap (λ bs. eliminate_arcs (guarded_by b rings) (c.len-n.result - c.corners._step) c.args.threshold (left_arcs arcs bs)) f.left ∙ c.corners.invariant.rest)
