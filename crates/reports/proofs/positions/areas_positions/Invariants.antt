use Rattle.std.proofs.Common.{◌≡◌, take, true}
use Rattle.std.specs.Prelude.{sum_by}
use Rattle.byte_ends.specs.Ends.{saturated}
use Rattle.reports.specs.Positions.{line_length}
use Rattle.reports.proofs.positions.areas_positions.Given as goal

abbrev pub invariant-areas : goal.invariant-areas
invariant-areas l = l.count ≡ saturated (sum_by (λ rs. sum_by (line_length l.topology true) rs) (take l.rings-index l.areas))
