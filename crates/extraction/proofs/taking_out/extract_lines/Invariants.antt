use Rattle.std.proofs.Common.{false, map}
use Rattle.extraction.specs.Extracts.{TakesApart, no_refs}
use Rattle.extraction.proofs.taking_out.extract_lines.Given as goal

abbrev pub invariant-lines : goal.invariant-lines
invariant-lines l = TakesApart (map (λ p. (false, p)) l.yielded) (map (no_refs false) l.yielded) l.initial.outlines l.made.items l.outlines
