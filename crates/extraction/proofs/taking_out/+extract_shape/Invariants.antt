use Rattle.std.proofs.Common.{map}
use Rattle.geometry.specs.Lists.{joined}
use Rattle.geometry.specs.Pruning.{lines_and_rings}
use Rattle.extraction.specs.Extracts.{TakesApart, no_refs, relined}
use Rattle.extraction.proofs.taking_out.+extract_shape.Given as goal

abbrev pub invariant-shapes : goal.invariant-shapes
invariant-shapes l = TakesApart (joined (map lines_and_rings l.yielded)) (map (relined no_refs) l.yielded) l.initial.outlines l.made.items l.outlines
