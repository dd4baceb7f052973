use Rattle.std.proofs.Common.{arith, take}
use Rattle.std.proofs.lemmas.List.{take_more}
use Rattle.worked_examples.proofs.Later.{held_later}
use Rattle.worked_examples.proofs.memory_files.MemoryFiles.bytes.Goals as goal
use Rattle.worked_examples.proofs.memory_files.MemoryFiles.bytes.Goals.{then-eq, else-eq}

pub entries-preserved : goal.entries-preserved
entries-preserved c =
    let items = c.args.self.now.entries.items in
    let same = c.deref-entry-items.ensures.value in
    let within = rw same at c.entries-test.true in
    let here = take_more items c.entries.entry-index c.entry-item.result within in
    let later = held_later (take c.entries.entry-index items) c.entry-item.result c.args.name.now in
    elim c.if-eq.branch [
      | then-eq w ↦ grind (arith, here, later, c.entry-item.is, c.entries.invariant, c.eq.ensures, c.as_str.ensures.value, same, w.if-eq, w.found-is, w.as_slice.ensures.value)
      | else-eq w ↦ grind (arith, here, later, c.entry-item.is, c.entries.invariant, c.eq.ensures, c.as_str.ensures.value, same, w.if-eq, w.found-is)
    ]
