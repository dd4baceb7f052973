use Rattle.std.proofs.Common.{◌++◌, subst}
use Rattle.effective_area.specs.Links.{RemovesFirst}
use Rattle.effective_area.proofs.Turns.{none_first, many_stay}
use Rattle.effective_area.proofs.heap_links.eliminate.Goals as goal

pub returns-clause-kept : goal.returns-clause-kept
returns-clause-kept c =
    let s = c.corners.invariant.state in
    let items = c.take_first.new.sorted.items ++ c.take_first.new.heap.items in
    none_first c.args.t c.args.arc.now c.corners.links c.take_first.new.links (c.corners.sorted.items ++ c.corners.heap.items) items c.corners.left s.0 s.1
    (subst (λ o. RemovesFirst c.args.t c.args.arc.now c.take_first.new.links items c.corners.left s.0 o) c.in_default.is (c.in_ok-_entry.ensures.taken c.corners.left s.0 s.1))

pub returns-clause-many : goal.returns-clause-many
returns-clause-many c =
    let s = c.corners.invariant.state in
    let items = c.take_first.new.sorted.items ++ c.take_first.new.heap.items in
    many_stay c.args.t c.args.arc.now c.corners.links c.take_first.new.links (c.corners.sorted.items ++ c.corners.heap.items) items c.corners.left s.0 s.1
    (subst (λ o. RemovesFirst c.args.t c.args.arc.now c.take_first.new.links items c.corners.left s.0 o) c.in_default.is (c.in_ok-_entry.ensures.taken c.corners.left s.0 s.1))
