use Rattle.std.proofs.Common.{◌≡◌, ◌≤◌, ◌+◌, length}
use Rattle.std.specs.List.{prefix_len}
use Rattle.json_value.specs.Grammar.{is_plain}
use Rattle.json_value.proofs.plain_bytes.plain_len.Given as goal

abbrev pub invariant-loop-first : goal.invariant-loop-first
invariant-loop-first l = (prefix_len is_plain l.bytes + length l.rest ≡ prefix_len is_plain l.rest + length l.bytes) × (length l.rest ≤ length l.bytes)

abbrev pub decreases-loop-first : goal.decreases-loop-first
decreases-loop-first l = length l.rest
