use Rattle.std.proofs.Common.{◌≡◌, take}
use Rattle.std.specs.Prelude.{sum_by}
use Rattle.byte_ends.specs.Ends.{saturated}
use Rattle.reports.specs.Positions.{feature_length}
use Rattle.reports.proofs.positions.decoded_positions.Given as goal

abbrev pub invariant-features : goal.invariant-features
invariant-features l = l.count ≡ saturated (sum_by (feature_length l.topology) (take l.feature-index l.feature-items))
