use Rattle.std.proofs.Common.{subst, sym, ◌∙◌}
use Rattle.guarded_reduction.specs.Moves.{Counted}
use Rattle.guarded_reduction.specs.States.{IsFixing}
use Rattle.guarded_reduction.proofs.Queued.{fixed_more}
use Rattle.guarded_reduction.proofs.queue.rounds.next_in_rounds.Goals as goal

pub returns-clause-fixing : goal.returns-clause-fixing
returns-clause-fixing c = fixed_more c.args.places.now c.rounds.places c.next_going-2.new.places c.args.rings.now c.rounds.invariant.fixing
    (subst (λ (g : Counted). IsFixing c.rounds.places g c.next_going-2.new.places) c.rounds.invariant.rings c.in_ok-last.ensures.fixing)

pub returns-in-Some-clause-fixing : goal.returns-in-Some-clause-fixing
returns-in-Some-clause-fixing c = fixed_more c.args.places.now c.rounds.places c.next_going.new.places c.args.rings.now c.rounds.invariant.fixing
    (subst (λ (g : Counted). IsFixing c.rounds.places g c.next_going.new.places) c.rounds.invariant.rings c.in_ok-entry.ensures.fixing)

pub rounds-preserved : goal.rounds-preserved
rounds-preserved c = record {
  queued = c.in_ok-begin_next_round.ensures.queued;
  fixing = subst (IsFixing c.args.places.now c.args.rings.now) (sym c.in_ok-begin_next_round.ensures.same)
      (fixed_more c.args.places.now c.rounds.places c.next_going.new.places c.args.rings.now c.rounds.invariant.fixing
      (subst (λ (g : Counted). IsFixing c.rounds.places g c.next_going.new.places) c.rounds.invariant.rings c.in_ok-entry.ensures.fixing));
  rings = (rw c.in_default.is at c.in_ok-entry.ensures.same) ∙ c.rounds.invariant.rings;
  round = c.in_ok-begin_next_round.ensures.within;
}
