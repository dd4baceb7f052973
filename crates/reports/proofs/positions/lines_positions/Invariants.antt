use Rattle.std.proofs.Common.{◌≡◌, take}
use Rattle.std.specs.Prelude.{sum_by}
use Rattle.byte_ends.specs.Ends.{saturated}
use Rattle.reports.specs.Positions.{line_length}
use Rattle.reports.proofs.positions.lines_positions.Given as goal

abbrev pub invariant-lines : goal.invariant-lines
invariant-lines l = l.count ≡ saturated (sum_by (line_length l.topology l.are_rings) (take l.line-index l.lines))
