use Rattle.std.proofs.Common.{◌∙◌, arith, inr}
use Rattle.guarded_reduction.proofs.Queued.{come_to_wait, comes_next, drop_held, drop_stale}
use Rattle.guarded_reduction.proofs.queue.looking.next_corner.Goals as goal

pub entries-preserved-then-not-is_current : goal.entries-preserved-then-not-is_current
entries-preserved-then-not-is_current c = record {
  queued = drop_stale c.args.threshold c.args.places.now c.entries.queue c.pop.new.self c.entries.waiting c.in-Some.field-0.0 c.entries.invariant.queued c.in-Some.ensures.permutation (rw (c.look_ahead.ensures, c.entries.invariant.same) at (c.is_current.ensures.stale c.if-not-is_current.true));
  held = c.entries.invariant.held;
  fewer = omega (arith, c.in-Some.ensures.fewer, c.entries.invariant.fewer);
  same = c.look_ahead.ensures ∙ c.entries.invariant.same;
}

pub returns-in_default-2-clause-next : goal.returns-in_default-2-clause-next
returns-in_default-2-clause-next c =
    let s = c.args.places.now in
    comes_next c.args.threshold s c.entries.queue c.pop.new.self c.entries.waiting c.in-Some.field-0.0 c.entries.invariant.queued c.in-Some.ensures.permutation c.in-Some.ensures.first
    (rw (c.look_ahead.ensures, c.entries.invariant.same) at (c.is_current.ensures.current c.if-not-is_current.false))
    (rw (c.in_default-2.is, c.look_ahead.ensures, c.entries.invariant.same) at c.in_ok-holder.ensures.none)

pub entries-preserved : goal.entries-preserved
entries-preserved c = record {
  queued = come_to_wait c.args.threshold c.args.places.now c.entries.queue c.pop.new.self c.entries.waiting c.in-Some.field-0.0 c.entries.invariant.queued c.in-Some.ensures.permutation c.wait_on.new.waiting
      c.in_ok-wait_on.ensures.kept (rw (c.in_ok-holder.ensures.same, c.look_ahead.ensures, c.entries.invariant.same) at c.in_ok-wait_on.ensures.held);
  held = inr (rw (c.in_ok-holder.ensures.same, c.look_ahead.ensures, c.entries.invariant.same) at c.in_ok-wait_on.ensures.held);
  fewer = omega (arith, c.in-Some.ensures.fewer, c.entries.invariant.fewer);
  same = c.in_ok-holder.ensures.same ∙ c.look_ahead.ensures ∙ c.entries.invariant.same;
}

pub entries-preserved-then-place-held : goal.entries-preserved-then-place-held
entries-preserved-then-place-held c = record {
  queued = drop_held c.args.threshold c.args.places.now c.entries.queue c.pop.new.self c.entries.waiting c.in-Some.field-0.0 c.entries.invariant.queued c.in-Some.ensures.permutation c.entries.held c.if-place-held.true
      c.entries.invariant.held;
  held = c.entries.invariant.held;
  fewer = omega (arith, c.in-Some.ensures.fewer, c.entries.invariant.fewer);
  same = c.look_ahead.ensures ∙ c.entries.invariant.same;
}
