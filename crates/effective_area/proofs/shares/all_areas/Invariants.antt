use Rattle.std.proofs.Common.{◌≡◌, map, take}
use Rattle.effective_area.specs.Shares.{interior_weights}
use Rattle.effective_area.proofs.shares.all_areas.Given as goal

-- those so far
abbrev pub invariant-arcs : goal.invariant-arcs
invariant-arcs l = l.areas.items ≡ interior_weights (map (λ w. w.items) (take l.weights-index l.arcs))
