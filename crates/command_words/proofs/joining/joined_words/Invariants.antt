use Rattle.std.proofs.Common.{◌≡◌, ◌++◌, map, drop}
use Rattle.std.specs.String.{string_bytes}
use Rattle.command_words.specs.Joined.{joined, joined_from, place_of}
use Rattle.command_words.proofs.joining.joined_words.Given as goal

abbrev pub invariant-loop-word : goal.invariant-loop-word
invariant-loop-word l =
    joined (map string_bytes l.words) ≡ map string_bytes l.joined.items ++ joined_from (place_of l.place) (map string_bytes (drop l.word-index l.words))
