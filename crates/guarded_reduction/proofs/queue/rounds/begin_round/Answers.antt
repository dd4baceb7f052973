use Rattle.std.proofs.Common.{arith}
use Rattle.guarded_reduction.proofs.Heap.{one_more_below, one_more_from, queued_alike, round_queued, still_sound}
use Rattle.guarded_reduction.proofs.queue.rounds.begin_round.Goals as goal

pub loop-place-preserved : goal.loop-place-preserved
loop-place-preserved c = record {
  has = λ v l h. one_more_from c.args.from c.args.until c.args.places.now c.loop-place.corners.items c.push_from.new.corners.items v c.loop-place.place c.in_ok-push_from.ensures c.loop-place.invariant.has l h;
  below = λ v l h. one_more_below c.args.from c.args.until c.args.places.now c.loop-place.corners.items c.push_from.new.corners.items v c.loop-place.place c.in_ok-push_from.ensures c.loop-place.invariant.below l h;
  sound = still_sound c.args.from c.args.until c.args.places.now c.loop-place.corners.items c.push_from.new.corners.items c.loop-place.place c.in_ok-push_from.ensures c.loop-place.invariant.sound;
}

pub returns-clause-queued : goal.returns-clause-queued
returns-clause-queued c =
    queued_alike c.args.until c.args.places.now c.loop-place.corners.items c.fill.new.self c.args.waiting.now c.fill.ensures
    (round_queued c.args.from c.args.until c.args.places.now c.loop-place.corners.items c.args.waiting.now c.loop-place.place c.requires (omega (arith, c.loop-place-test.false, c.len-place-end.ensures)) c.loop-place.invariant.has c.loop-place.invariant.sound)
