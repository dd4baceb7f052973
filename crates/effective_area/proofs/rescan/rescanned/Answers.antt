use Rattle.std.proofs.Common.{arith, ℕ, ◌-◌, ◌*◌, ◌/◌, ◌<◌, List, All, length, not, eqb, min, subst, sym}
use Rattle.std.proofs.lemmas.List.Elements.{All-filter}
use Rattle.std.proofs.lemmas.List.FromFn.{length-range_with_len}
use Rattle.effective_area.specs.Counts.{AreasRose, RoseBy}
use Rattle.effective_area.specs.Vertices.{candidate_corner}
use Rattle.effective_area.proofs.Counts.{by_none, look_computed, look_counted, rose_computed}
use Rattle.effective_area.proofs.Scan.{start_rest, turn_rest, turn_shorter, stop_over, stop_none, stop_end, all_inside}
use Rattle.effective_area.proofs.rescan.rescanned.Goals as goal
use Rattle.effective_area.proofs.rescan.rescanned.Goals.{in_default-via-in-Some+else-corner-t, in_default-via-in_default}

pub loop-turn-init : goal.loop-turn-init
loop-turn-init c = grind (arith, all_inside, start_rest, length-range_with_len, by_none)

pub returns-in_default-clause-kept : goal.returns-in_default-clause-kept
returns-in_default-clause-kept c = grind (arith, stop_over, stop_none)

pub returns-in_default-clause-counted : goal.returns-in_default-clause-counted
returns-in_default-clause-counted c =
    c.loop-turn.invariant.counted c.least_corner.new.steps (look_counted (length c.loop-turn.present.items) 0 _ _ _ (subst (λ (is : List ℕ). RoseBy (length is - 2) 0 c.loop-turn.steps c.least_corner.new.steps) c.deref.ensures.value c.least_corner.ensures.counted) (by_none 0 0 _) (omega arith))

pub loop-turn-preserved : goal.loop-turn-preserved
loop-turn-preserved c =
    let v = c.loop-turn.invariant in
    let shorter = turn_shorter c.args.t c.args.arc.now c.loop-turn.present.items c.deref.result.now c.take_out.new.present.items (candidate_corner c.in-Some.corner) c.deref.ensures.value c.in-Some.ensures.least c.if-corner-t.true c.take_out.ensures in
    record {
      inside = subst (λ (is : List ℕ). All (λ i. i < length c.args.arc.now) is) (sym c.take_out.ensures) (All-filter (λ i. not (eqb i c.in-Some.corner.index)) (λ i. i < length c.args.arc.now) c.loop-turn.present.items c.loop-turn.invariant.inside);
      few = omega (arith, shorter, v.few);
      counted = λ s h. v.counted s (look_counted (length c.loop-turn.present.items) (length c.take_out.new.present.items) _ _ s (subst (λ (is : List ℕ). RoseBy (length is - 2) 0 c.loop-turn.steps c.least_corner.new.steps) c.deref.ensures.value c.least_corner.ensures.counted) h (omega (arith, shorter)));
      computed = rose_computed (min ((length c.args.arc.now) - (length c.take_out.new.present.items)) ((length c.args.arc.now) - 2)) ((length c.args.arc.now) - 2) c.args.steps.now c.least_corner.new.steps (look_computed (length c.args.arc.now) (length c.loop-turn.present.items) c.args.steps.now c.loop-turn.steps c.least_corner.new.steps v.computed (subst (λ (is : List ℕ). AreasRose (length is - 2) c.loop-turn.steps c.least_corner.new.steps) c.deref.ensures.value c.least_corner.ensures.computed) (omega (arith, v.few))) (omega arith);
      rest = turn_rest c.args.t c.loop-turn._turn c.args.arc.now c.loop-turn.present.items c.deref.result.now c.take_out.new.present.items (candidate_corner c.in-Some.corner) c.loop-turn-test.true c.deref.ensures.value c.in-Some.ensures.least c.if-corner-t.true c.take_out.ensures c.loop-turn.invariant.rest;
    }

pub returns-clause-kept : goal.returns-clause-kept
returns-clause-kept c = stop_end c.args.t c.loop-turn._turn c.args.arc.now c.loop-turn.present.items c.loop-turn-test.false c.loop-turn.invariant.rest

pub returns-clause-counted : goal.returns-clause-counted
returns-clause-counted c = c.loop-turn.invariant.counted c.loop-turn.steps (by_none ((length c.loop-turn.present.items - 2) * (length c.loop-turn.present.items - 1) / 2) 0 c.loop-turn.steps)
