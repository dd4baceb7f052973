use Rattle.std.proofs.Common.{◌≡◌, take}
use Rattle.geometry.specs.Lists.{joined}
use Rattle.guarded_reduction.proofs.places.flattening.all_positions.Given as goal

-- those so far
abbrev pub invariant-arcs : goal.invariant-arcs
invariant-arcs l = l.all.items ≡ joined (take l.arc-index l.arcs)
