use Rattle.std.proofs.Common.{◌≡◌, ◌<◌, ◌≤◌, length}
use Rattle.topojson_decoder.specs.Leaping.{end_of, level}
use Rattle.topojson_decoder.proofs.leaping.after_blocks.Given as goal

abbrev pub invariant-loop-rest : goal.invariant-loop-rest
invariant-loop-rest l = record {
  so_far : end_of (level l.depth l.quoted) l.bytes ≡ end_of (level l.left l.in_string) l.rest;
  still_open : 0 < l.left;
  shorter : length l.rest ≤ length l.bytes;
}

abbrev pub decreases-loop-rest : goal.decreases-loop-rest
decreases-loop-rest l = length l.rest
