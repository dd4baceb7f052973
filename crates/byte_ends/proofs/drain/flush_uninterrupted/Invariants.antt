-- An interrupted flush leaves what was taken.
use Rattle.std.specs.Io.KnownBytes.{Keeps}
use Rattle.byte_ends.proofs.drain.flush_uninterrupted.Given as goal

abbrev pub invariant-loop : goal.invariant-loop
invariant-loop g l = Keeps (g.W.Write.contents l.fn.writer) (g.W.Write.contents l.writer)
