use Rattle.std.proofs.Common.{◌≡◌, ◌-◌, ◌^◌, length, map, min, take}
use Rattle.effective_area.specs.Shares.{interior_weights}
use Rattle.effective_area.proofs.shares.count_all.Given as goal

-- those so far
abbrev pub invariant-arcs : goal.invariant-arcs
invariant-arcs l = l.count ≡ min (length (interior_weights (map (λ w. w.items) (take l.weights-index l.arcs)))) (2 ^ 64 - 1)
