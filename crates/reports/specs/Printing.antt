-- A text that is printed: where its device fails it is cut short, and that is all there is to say.
use Rattle.std.specs.Prelude.{◌≡◌, ◌<◌, ℕ, true, List, length}
use Rattle.byte_ends.specs.Ends.{Drained, Takes}

-- the sink took the whole text and passed it on, or a prefix of the text where its device failed; one that was broken before stays as it was
pub record Prints (old new : Drained) (text : List ℕ) : Type 0 where
  pub many : ℕ
  pub taken : Takes old new text many
  pub whole : new.failures ≡ 0 → (many ≡ length text) × (new.flushed ≡ true)
  pub broken : 0 < old.failures → new ≡ old
