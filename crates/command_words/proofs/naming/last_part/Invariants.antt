use denote.Shadow.{shadow}
use denote.Text.{Utf8}
use Rattle.command_words.proofs.naming.last_part.Given as goal

abbrev pub invariant-loop-part : goal.invariant-loop-part
invariant-loop-part l = shadow (Utf8 l.last)
