-- A text that is written part by part.
use Rattle.std.specs.Prelude.{ℕ, List, Result, Ok, Err}
use Rattle.byte_ends.specs.Ends.{Drained}
use Rattle.byte_ends.specs.Writes.{Writes}
use Rattle.byte_ends.specs.declared.sink.WriteFault.{WriteFault}

-- how far a text is written: the count of its bytes so far, or the fault that cut it short
abbrev pub Progress : Type 0
Progress = Result ℕ WriteFault

-- A writer of this part of a text did this to its sink: it wrote the part, as `Writes` says, where the text was written so far,
-- and left the sink and the fault as they were where there was one.
pub data Continues : Drained → Drained → Progress → List ℕ → Progress → Type 0 where
  goes_on : {old new : Drained} {part : List ℕ} {result : Progress} (count : ℕ) → Writes old new count part result → Continues old new (Ok count) part result
  stays : {sink : Drained} {part : List ℕ} (fault : WriteFault) → Continues sink sink (Err fault) part (Err fault)
