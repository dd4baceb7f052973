use Rattle.std.proofs.Common.{true, map}
use Rattle.geometry.specs.Lists.{joined}
use Rattle.extraction.specs.Extracts.{TakesApart, no_refs}
use Rattle.extraction.proofs.taking_out.extract_areas.Given as goal

abbrev pub invariant-areas : goal.invariant-areas
invariant-areas l = TakesApart (joined (map (map (λ p. (true, p))) l.yielded)) (map (map (no_refs true)) l.yielded) l.initial.outlines l.made.items l.outlines
