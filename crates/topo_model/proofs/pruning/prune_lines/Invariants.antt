use Rattle.std.proofs.Common.{ℕ, ℤ, List, Option, None}
use Rattle.geometry.specs.DropCauses.{here}
use Rattle.topo_model.proofs.Prefix.{InPrefix}
use Rattle.topo_model.proofs.pruning.prune_lines.Given as goal

abbrev pub invariant-loop-i : goal.invariant-loop-i
invariant-loop-i g l =
    InPrefix (λ (x : List ℤ) (w : Option (List ℕ)). x) (g.K.Keeps.keeps l.keeps l.closed) (λ x. here (g.K.Keeps.goes l.keeps l.closed (None, x))) None l.place
    l.first l.initial.parts l.initial.dropped.items l.i l.kept l.parts l.dropped.items
