use Rattle.std.proofs.Common.{◌≡◌, drop}
use Rattle.json_value.specs.Reading.{after_word}
use Rattle.json_reading.proofs.checked_bytes.expected_word.Given as goal

-- the bytes of the word that are left are wanted of the rest
abbrev pub invariant-loop-byte : goal.invariant-loop-byte
invariant-loop-byte l = after_word (drop l.byte-index l.word) l.rest ≡ after_word l.word l.bytes
