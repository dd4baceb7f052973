use Rattle.std.proofs.Common.{◌-◌, length, rules}
use Rattle.std.specs.Ordering.{is_lt}
use Rattle.std.proofs.lemmas.Fn.{always_returns_same}
use Rattle.effective_area.specs.Links.{queue_cmp}
use Rattle.effective_area.proofs.Queues.{queue_order}
use Rattle.effective_area.proofs.HeapLaws.{corners_moved}
use Rattle.effective_area.proofs.Turns.{start_state}
use Rattle.effective_area.proofs.heap_links.sorted_entries.Goals as goal

pub returns-clause-state : goal.returns-clause-state
returns-clause-state c =
    start_state c.args.t c.args.arc.now c.args.links.now c.sort_unstable_by.new.self.items c.requires.two c.requires.first c.requires.cached
    (corners_moved c.args.t c.args.arc.now c.args.links.now c.first_entries.new.entries.items c.sort_unstable_by.new.self.items (length c.args.arc.now - 1) c.sort_unstable_by.ensures.permutation c.in_ok-first_entries.ensures.has)

pub returns-clause-sorted : goal.returns-clause-sorted
returns-clause-sorted c =
    c.sort_unstable_by.ensures.sorted (λ x y. is_lt (queue_cmp c.args.arc.now x y)) (queue_order c.args.arc.now) (always_returns_same _ _ _ (λ a r f h. search rules))
