use Rattle.std.proofs.Common.{◌++◌, arith, rules, refl}
use Rattle.effective_area.proofs.Counts.{by_none, turn_counted}
use Rattle.effective_area.proofs.Queues.{pushed_after}
use Rattle.effective_area.proofs.Turns.{old_ready, new_ready, renews, unlinks_on, some_left, turn_state, turn_fits, none_under}
use Rattle.effective_area.proofs.taking.take_first.Goals as goal

pub goes_after-is_first_known-requires-clause-other : goal.goes_after-is_first_known-requires-clause-other
goes_after-is_first_known-requires-clause-other c =
    let s = c.requires.state in
    let r = old_ready c.args.t c.args.arc.now c.args.links.now (c.args.sorted.now.items ++ c.args.heap.now.items) (c.pop_current.new.sorted.items ++ c.pop_current.new.heap.items) s.0 s.1 c.in-Some.entry c.ahead-first.result c.following-last.result s.2 c.in-Some.ensures.left c.in-Some.ensures.current
    c.ahead-first.ensures.first c.ahead-first.ensures.inside c.following-last.ensures.last c.following-last.ensures.inside in
    r.ahead.within

pub goes_after-is_last_known-requires-clause-other : goal.goes_after-is_last_known-requires-clause-other
goes_after-is_last_known-requires-clause-other c =
    let s = c.requires.state in
    let r = old_ready c.args.t c.args.arc.now c.args.links.now (c.args.sorted.now.items ++ c.args.heap.now.items) (c.pop_current.new.sorted.items ++ c.pop_current.new.heap.items) s.0 s.1 c.in-Some.entry c.ahead-first.result c.following-last.result s.2 c.in-Some.ensures.left c.in-Some.ensures.current
    c.ahead-first.ensures.first c.ahead-first.ensures.inside c.following-last.ensures.last c.following-last.ensures.inside in
    r.following.within

pub note_area-requires-clause-fits : goal.note_area-requires-clause-fits
note_area-requires-clause-fits c = grind (arith, turn_fits)

pub note_area-requires-2-clause-fits : goal.note_area-requires-2-clause-fits
note_area-requires-2-clause-fits c = grind (arith, turn_fits, unlinks_on)

pub push_first-requires : goal.push_first-requires
push_first-requires c =
    let s = c.requires.state in
    let h = s.2.sound c.in-Some.entry (c.in-Some.ensures.left.member c.in-Some.entry refl) in
    let r = new_ready c.args.t c.args.arc.now c.args.links.now c.note_area-2.new.links (c.args.sorted.now.items ++ c.args.heap.now.items) (c.pop_current.new.sorted.items ++ c.pop_current.new.heap.items) s.0 s.1 c.in-Some.entry c.ahead-first.result c.following-last.result s.2 c.in-Some.ensures.left c.in-Some.ensures.current
    (unlinks_on c.args.arc.now c.args.links.now c.note_area.new.links c.note_area-2.new.links c.in-Some.entry.before c.in-Some.entry.index c.in-Some.entry.after c.in-Some.entry.after (unlinks_on c.args.arc.now c.args.links.now c.unlink.new.links c.note_area.new.links c.in-Some.entry.before c.in-Some.entry.index c.in-Some.entry.after c.in-Some.entry.before c.unlink.ensures.links c.note_area.ensures.cached) c.note_area-2.ensures.cached)
    (renews c.args.arc.now c.args.links.now c.unlink.new.links c.note_area.new.links c.note_area-2.new.links c.in-Some.entry.before c.in-Some.entry.after (omega (arith, h.before, h.after)) c.unlink.ensures.areas c.note_area.ensures.cached c.note_area-2.ensures.cached)
    c.ahead-first.ensures.first c.ahead-first.ensures.inside c.following-last.ensures.last c.following-last.ensures.inside in
    record {
      inner = r.before;
      outer = r.ahead;
      size = search rules;
      order = search rules;
    }

pub push_first-requires-2 : goal.push_first-requires-2
push_first-requires-2 c =
    let s = c.requires.state in
    let h = s.2.sound c.in-Some.entry (c.in-Some.ensures.left.member c.in-Some.entry refl) in
    let r = new_ready c.args.t c.args.arc.now c.args.links.now c.note_area-2.new.links (c.args.sorted.now.items ++ c.args.heap.now.items) (c.pop_current.new.sorted.items ++ c.pop_current.new.heap.items) s.0 s.1 c.in-Some.entry c.ahead-first.result c.following-last.result s.2 c.in-Some.ensures.left c.in-Some.ensures.current
    (unlinks_on c.args.arc.now c.args.links.now c.note_area.new.links c.note_area-2.new.links c.in-Some.entry.before c.in-Some.entry.index c.in-Some.entry.after c.in-Some.entry.after (unlinks_on c.args.arc.now c.args.links.now c.unlink.new.links c.note_area.new.links c.in-Some.entry.before c.in-Some.entry.index c.in-Some.entry.after c.in-Some.entry.before c.unlink.ensures.links c.note_area.ensures.cached) c.note_area-2.ensures.cached)
    (renews c.args.arc.now c.args.links.now c.unlink.new.links c.note_area.new.links c.note_area-2.new.links c.in-Some.entry.before c.in-Some.entry.after (omega (arith, h.before, h.after)) c.unlink.ensures.areas c.note_area.ensures.cached c.note_area-2.ensures.cached)
    c.ahead-first.ensures.first c.ahead-first.ensures.inside c.following-last.ensures.last c.following-last.ensures.inside in
    record {
      inner = r.after;
      outer = r.following;
      size = search rules;
      order = search rules;
    }

pub returns-clause-taken : goal.returns-clause-taken
returns-clause-taken c left vs s =
    let h = s.sound c.in-Some.entry (c.in-Some.ensures.left.member c.in-Some.entry refl) in
    let r = new_ready c.args.t c.args.arc.now c.args.links.now c.note_area-2.new.links (c.args.sorted.now.items ++ c.args.heap.now.items) (c.pop_current.new.sorted.items ++ c.pop_current.new.heap.items) left vs c.in-Some.entry c.ahead-first.result c.following-last.result s c.in-Some.ensures.left c.in-Some.ensures.current
    (unlinks_on c.args.arc.now c.args.links.now c.note_area.new.links c.note_area-2.new.links c.in-Some.entry.before c.in-Some.entry.index c.in-Some.entry.after c.in-Some.entry.after (unlinks_on c.args.arc.now c.args.links.now c.unlink.new.links c.note_area.new.links c.in-Some.entry.before c.in-Some.entry.index c.in-Some.entry.after c.in-Some.entry.before c.unlink.ensures.links c.note_area.ensures.cached) c.note_area-2.ensures.cached)
    (renews c.args.arc.now c.args.links.now c.unlink.new.links c.note_area.new.links c.note_area-2.new.links c.in-Some.entry.before c.in-Some.entry.after (omega (arith, h.before, h.after)) c.unlink.ensures.areas c.note_area.ensures.cached c.note_area-2.ensures.cached)
    c.ahead-first.ensures.first c.ahead-first.ensures.inside c.following-last.ensures.last c.following-last.ensures.inside in
    turn_state c.args.t c.args.arc.now c.args.links.now c.note_area-2.new.links (c.args.sorted.now.items ++ c.args.heap.now.items) (c.pop_current.new.sorted.items ++ c.pop_current.new.heap.items) (c.pop_current.new.sorted.items ++ c.push_first.new.heap.items)
    (c.pop_current.new.sorted.items ++ c.push_first-2.new.heap.items) left vs c.in-Some.entry c.ahead-first.result c.following-last.result c.goes_after-is_first_known.result c.goes_after-is_last_known.result s
    c.in-Some.ensures.left c.in-Some.ensures.current (unlinks_on c.args.arc.now c.args.links.now c.note_area.new.links c.note_area-2.new.links c.in-Some.entry.before c.in-Some.entry.index c.in-Some.entry.after c.in-Some.entry.after (unlinks_on c.args.arc.now c.args.links.now c.unlink.new.links c.note_area.new.links c.in-Some.entry.before c.in-Some.entry.index c.in-Some.entry.after c.in-Some.entry.before c.unlink.ensures.links c.note_area.ensures.cached) c.note_area-2.ensures.cached)
    (renews c.args.arc.now c.args.links.now c.unlink.new.links c.note_area.new.links c.note_area-2.new.links c.in-Some.entry.before c.in-Some.entry.after (omega (arith, h.before, h.after)) c.unlink.ensures.areas c.note_area.ensures.cached c.note_area-2.ensures.cached)
    r.before r.ahead r.after r.following
    c.ahead-first.ensures.inside c.ahead-first.ensures.first c.following-last.ensures.inside c.following-last.ensures.last c.goes_after-is_first_known.ensures c.goes_after-is_last_known.ensures
    (pushed_after c.args.t c.args.arc.now c.note_area-2.new.links c.pop_current.new.sorted.items c.pop_current.new.heap.items c.push_first.new.heap.items c.in-Some.entry.before c.ahead-first.result c.goes_after-is_first_known.result c.in_ok-push_first.ensures.pushed)
    (pushed_after c.args.t c.args.arc.now c.note_area-2.new.links c.pop_current.new.sorted.items c.push_first.new.heap.items c.push_first-2.new.heap.items c.in-Some.entry.after c.following-last.result c.goes_after-is_last_known.result c.in_ok-push_first-2.ensures.pushed)

pub returns-in_default-clause-taken : goal.returns-in_default-clause-taken
returns-in_default-clause-taken c left vs s = grind (arith, none_under)

pub returns-in_err-push_first-clause-counted : goal.returns-in_err-push_first-clause-counted
returns-in_err-push_first-clause-counted c left vs s =
    let some = some_left c.args.t c.args.arc.now c.args.links.now c.unlink.new.links (c.args.sorted.now.items ++ c.args.heap.now.items) (c.pop_current.new.sorted.items ++ c.pop_current.new.heap.items) (c.pop_current.new.sorted.items ++ c.pop_current.new.heap.items) left vs c.in-Some.entry s c.in-Some.ensures.left c.in-Some.ensures.current c.unlink.ensures.links in
    turn_counted left _ _ _ _ _ c.note_area.ensures.counted c.note_area-2.ensures.counted c.push_first.ensures.counted (by_none 0 1 _) some

pub returns-in_err-push_first-2-clause-counted : goal.returns-in_err-push_first-2-clause-counted
returns-in_err-push_first-2-clause-counted c left vs s =
    let some = some_left c.args.t c.args.arc.now c.args.links.now c.unlink.new.links (c.args.sorted.now.items ++ c.args.heap.now.items) (c.pop_current.new.sorted.items ++ c.pop_current.new.heap.items) (c.pop_current.new.sorted.items ++ c.pop_current.new.heap.items) left vs c.in-Some.entry s c.in-Some.ensures.left c.in-Some.ensures.current c.unlink.ensures.links in
    turn_counted left _ _ _ _ _ c.note_area.ensures.counted c.note_area-2.ensures.counted c.push_first.ensures.counted c.push_first-2.ensures.counted some

pub returns-clause-counted : goal.returns-clause-counted
returns-clause-counted c left vs s =
    let some = some_left c.args.t c.args.arc.now c.args.links.now c.unlink.new.links (c.args.sorted.now.items ++ c.args.heap.now.items) (c.pop_current.new.sorted.items ++ c.pop_current.new.heap.items) (c.pop_current.new.sorted.items ++ c.pop_current.new.heap.items) left vs c.in-Some.entry s c.in-Some.ensures.left c.in-Some.ensures.current c.unlink.ensures.links in
    turn_counted left _ _ _ _ _ c.note_area.ensures.counted c.note_area-2.ensures.counted c.push_first.ensures.counted c.push_first-2.ensures.counted some
