-- What a writer of a text does to a sink.
use Rattle.std.specs.Prelude.{◌≡◌, ℕ, ◌+◌, ◌<◌, true, List, length, Result, Ok, Err}
use Rattle.byte_ends.specs.Ends.{Drained, Takes, saturated}
use Rattle.byte_ends.specs.declared.sink.WriteFault.{WriteFault}
use Rattle.byte_ends.specs.declared.sink.WriteFault.TheVariants.{Write}

-- the sink wasn't broken, took the whole text and isn't broken then, and the answer counts on from `count` by the text's length
pub record WritesAll (old new : Drained) (count : ℕ) (text : List ℕ) (answer : ℕ) : Type 0 where
  pub unbroken : old.failures ≡ 0
  pub took : Takes old new text (length text)
  pub counted : answer ≡ saturated (count + length text)
  pub sound : new.failures ≡ 0

-- the sink took a prefix of the text and is broken, and `sent` counts on from `count` by the prefix's length; a sink that was broken before
-- stays as it was
pub record WritesPrefix (old new : Drained) (count : ℕ) (text : List ℕ) (sent : ℕ) : Type 0 where
  pub broken : 0 < old.failures → new ≡ old
  pub many : ℕ
  pub took : Takes old new text many
  pub counted : sent ≡ saturated (count + many)
  pub failed : 0 < new.failures

-- a writer of this text did this to its sink: all of it at `Ok`, a prefix of it at `Write`, and there is no other answer
abbrev pub Writes : Drained → Drained → ℕ → List ℕ → Result ℕ WriteFault → Type 0
Writes old new count text (Ok answer) = WritesAll old new count text answer
Writes old new count text (Err (Write sent)) = WritesPrefix old new count text sent

-- a writer that flushes after this text did this to its sink: at `Ok` all of it is taken and passed on
abbrev pub Sends : Drained → Drained → ℕ → List ℕ → Result ℕ WriteFault → Type 0
Sends old new count text (Ok answer) = WritesAll old new count text answer × (new.flushed ≡ true)
Sends old new count text (Err (Write sent)) = WritesPrefix old new count text sent
