use Rattle.std.proofs.Common.{true, map}
use Rattle.extraction.specs.Extracts.{TakesApart, no_refs}
use Rattle.extraction.proofs.taking_out.extract_rings.Given as goal

abbrev pub invariant-rings : goal.invariant-rings
invariant-rings l = TakesApart (map (λ p. (true, p)) l.yielded) (map (no_refs true) l.yielded) l.initial.outlines l.made.items l.outlines
