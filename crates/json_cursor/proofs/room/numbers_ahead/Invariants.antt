use Rattle.std.proofs.Common.{◌≤◌}
use Rattle.json_cursor.proofs.room.numbers_ahead.Given as goal

abbrev pub invariant-bytes : goal.invariant-bytes
invariant-bytes l = l.commas ≤ l.at
