-- The bytes so far are those that the source gave, within the limit, without a failure and in no more reads than bytes.
use Rattle.std.proofs.Common.{◌≡◌, ◌<◌, ◌≤◌, ◌-◌, ◌+◌, length, vec_len}
use Rattle.std.specs.Io.KnownBytes.{Consumes}
use Rattle.byte_ends.specs.Ends.{block_size}
use Rattle.byte_ends.proofs.source.read_all.Given as goal

abbrev pub invariant-loop-bytes : goal.invariant-loop-bytes
invariant-loop-bytes g l = record {
  gave : Consumes l.fn.source.left l.source.left l.bytes.items;
  short : vec_len l.bytes ≤ l.limit;
  reads : l.source.giving_reads ≤ l.fn.source.giving_reads + length l.bytes.items;
  started : l.source.empty_reads ≡ l.fn.source.empty_reads;
  sound : l.source.failures ≡ l.fn.source.failures;
  room : 0 < length l.block;
  most : length l.block ≤ block_size;
}

abbrev pub decreases-loop-bytes : goal.decreases-loop-bytes
decreases-loop-bytes g l = l.limit - vec_len l.bytes
