use Rattle.std.proofs.Common.{◌≡◌, ◌-◌, [], ◌∷◌, length, map, take}
use Rattle.call_tests.proofs.simplifying.all_ends.Given as goal

-- those so far
abbrev pub invariant-arcs : goal.invariant-arcs
invariant-arcs l = map (λ k. k.items) l.kept.items ≡ map (λ cells. 0 ∷ (length cells - 1) ∷ []) (take l.arc-index l.arcs)
