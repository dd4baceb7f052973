use Rattle.std.proofs.Common.{◌≡◌, ◌++◌, map, drop}
use Rattle.build_meaning.specs.Simplified.{retained_arcs}
use Rattle.topo_model.proofs.given_numbers.positions_of_all.Given as goal

abbrev pub invariant-loop-i : goal.invariant-loop-i
invariant-loop-i l = l.retained.items ++ retained_arcs (map (λ k. k.items) (drop l.i l.kept)) (drop l.i l.arcs) ≡ retained_arcs (map (λ k. k.items) l.kept) l.arcs
