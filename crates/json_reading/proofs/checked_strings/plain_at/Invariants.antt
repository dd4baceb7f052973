use Rattle.std.proofs.Common.{length}
use Rattle.json_reading.specs.Strings.{PassesSimple}
use Rattle.json_reading.proofs.checked_strings.plain_at.Given as goal

abbrev pub invariant-loop-first : goal.invariant-loop-first
invariant-loop-first l = PassesSimple l.inside l.rest

abbrev pub decreases-loop-first : goal.decreases-loop-first
decreases-loop-first l = length l.rest
