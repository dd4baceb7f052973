use Rattle.std.proofs.Common.{◌≡◌, map, take}
use Rattle.reports.specs.Summaries.{counted}
use Rattle.reports.proofs.counting.counted_objects.Given as goal

abbrev pub invariant-objects : goal.invariant-objects
invariant-objects l = l.all.items ≡ map counted (take l.object-index l.objects)
