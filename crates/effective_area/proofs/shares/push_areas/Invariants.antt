use Rattle.std.proofs.Common.{◌≡◌, ◌++◌, take}
use Rattle.std.specs.List.{filter_map}
use Rattle.effective_area.specs.Shares.{area_of}
use Rattle.effective_area.proofs.shares.push_areas.Given as goal

-- those so far
abbrev pub invariant-weights : goal.invariant-weights
invariant-weights l = l.areas.items ≡ l.initial.areas.items ++ filter_map area_of (take l.weight-index l.weights)
