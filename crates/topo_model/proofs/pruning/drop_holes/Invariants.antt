use Rattle.std.proofs.Common.{◌≡◌, ◌+◌, ◌++◌, ℤ, List, true, map, drop, Some}
use Rattle.geometry.specs.DropCauses.{here, inner_cause}
use Rattle.geometry.specs.Paths.{of_parts}
use Rattle.topo_model.specs.Places.{dropped_at}
use Rattle.topo_model.proofs.pruning.drop_holes.Given as goal

abbrev pub invariant-holes : goal.invariant-holes
invariant-holes g l =
    let why = λ (h : List ℤ). here (inner_cause l.cause (g.K.Keeps.goes l.keeps true (Some l.outer, h))) in
    l.dropped.items ++ dropped_at l.place (of_parts (l.i + 1) (map why (drop l.i l.holes))) ≡ l.initial.dropped.items ++ dropped_at l.place (of_parts 1 (map why l.holes))
