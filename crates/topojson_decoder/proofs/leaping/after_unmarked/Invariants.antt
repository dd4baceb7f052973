use Rattle.std.proofs.Common.{◌≡◌, ℕ, suc, ◌≤◌, length}
use Rattle.topojson_decoder.specs.Leaping.{end_of, level}
use Rattle.topojson_decoder.proofs.leaping.after_unmarked.Given as goal

abbrev pub invariant-loop-rest : goal.invariant-loop-rest
invariant-loop-rest l = record {
  so_far : (n : ℕ) → end_of (level (suc n) l.quoted) l.bytes ≡ end_of (level (suc n) l.in_string) l.rest;
  left : length l.rest ≤ length l.bytes;
}

abbrev pub decreases-loop-rest : goal.decreases-loop-rest
decreases-loop-rest l = length l.rest
