use Rattle.std.proofs.Common.{◌≡◌, ◌+◌, drop}
use Rattle.std.specs.List.{prefix_len}
use Rattle.json_cursor.specs.Copying.{is_simple}
use Rattle.json_cursor.proofs.copied_strings.simple_len.Given as goal

abbrev pub invariant-loop-i : goal.invariant-loop-i
invariant-loop-i l = prefix_len is_simple l.bytes ≡ l.i + prefix_len is_simple (drop l.i l.bytes)
