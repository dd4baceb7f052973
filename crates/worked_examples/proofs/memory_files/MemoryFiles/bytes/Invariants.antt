use Rattle.std.proofs.Common.{◌≡◌, take}
use Rattle.std.specs.Option.{option_map}
use Rattle.worked_examples.specs.Held.{held}
use Rattle.worked_examples.proofs.memory_files.MemoryFiles.bytes.Given as goal

abbrev pub invariant-entries : goal.invariant-entries
invariant-entries l = option_map (λ b. b.now) l.found ≡ held (take l.entry-index l.self.entries.items) l.name
