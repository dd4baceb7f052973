-- A text that was written and flushed is printed.
use Rattle.std.proofs.Common.{ℕ, List, length, refl, arith, Result, Ok, Err}
use Rattle.byte_ends.specs.Ends.{Drained}
use Rattle.byte_ends.specs.Writes.{Sends}
use Rattle.byte_ends.specs.declared.sink.WriteFault.{WriteFault}
use Rattle.byte_ends.specs.declared.sink.WriteFault.TheVariants.{Write}
use Rattle.reports.specs.Printing.{Prints}

pub reported : (old new : Drained) (text : List ℕ) (result : Result ℕ WriteFault) → Sends old new 0 text result → Prints old new text
reported old new text (Ok answer) s = record {
  many = length text;
  taken = s.0.took;
  whole = λ _. (refl, s.1);
  broken = λ failed. absurd (omega (arith, s.0.unbroken, failed));
}
reported old new text (Err (Write sent)) w = record { many = w.many; taken = w.took; whole = λ sound. absurd (omega (arith, w.failed)); broken = w.broken }
