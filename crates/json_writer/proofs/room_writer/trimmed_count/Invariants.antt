use Rattle.std.proofs.Common.{◌≡◌, ◌<◌, ◌≤◌, length, take}
use Rattle.decimal_text.specs.Units.{trimmed}
use Rattle.json_writer.proofs.room_writer.trimmed_count.Given as goal

abbrev pub invariant-loop-count : goal.invariant-loop-count
invariant-loop-count l = record {
  some : 0 < l.count;
  within : l.count ≤ length l.digits;
  same : trimmed (take l.count l.digits) ≡ trimmed l.digits;
}

abbrev pub decreases-loop-count : goal.decreases-loop-count
decreases-loop-count l = l.count
