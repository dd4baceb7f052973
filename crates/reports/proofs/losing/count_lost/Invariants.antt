use Rattle.std.proofs.Common.{◌≡◌, ◌+◌, ◌<◌, ◌^◌, length}
use Rattle.byte_ends.specs.Ends.{saturated}
use Rattle.reports.specs.Losses.{lost_count}
use Rattle.reports.proofs.losing.count_lost.Given as goal

abbrev pub invariant-dropped : goal.invariant-dropped
invariant-dropped l = record {
  few : l.count < 2 ^ 64;
  so_far : saturated (l.count + lost_count l.objects l.rest) ≡ saturated (lost_count l.objects l.initial.rest);
}

abbrev pub decreases-dropped : goal.decreases-dropped
decreases-dropped l = length l.rest
