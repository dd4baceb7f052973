-- The arcs of layers, by their table, and what is left of them at a level.
use Rattle.std.proofs.Common.{◌≡◌, ◌∙◌, List, map, ap, subst}
use Rattle.arc_table.specs.Arcs.{ArcsAndIndexes, arcs_of, table_of}
use Rattle.build_meaning.proofs.Once.{same_pieces}
use Rattle.build_meaning.specs.Layers.{Named, layers_of}
use Rattle.cutter.specs.Slices.{split_of}
use Rattle.elimination_meaning.specs.Elimination.{reduce}
use Rattle.geometry.specs.Points.{Point}
use Rattle.build_meaning.specs.Assembled.{arc_indexes, arcs_of_layers}
use Rattle.build_meaning.specs.Simplified.{retained_arcs}
use Rattle.linework.specs.Linework.{linework}
use Rattle.layer_topology.specs.Levels.{threshold_at}
use Rattle.layer_topology.specs.declared.level.Level.{Level}

pub table_arcs : (ls : Named) (table : ArcsAndIndexes) → table ≡ table_of (map (split_of (linework (layers_of ls))) (linework (layers_of ls))) → table.arcs ≡ arcs_of_layers ls
table_arcs ls table is = ap (λ t. t.arcs) is ∙ ap arcs_of (same_pieces (linework (layers_of ls)) (linework (layers_of ls)))

-- the positions that are left are those of the indexes that reduction leaves of the layers' arcs
pub left_at_level : (ls : Named) (level : Level) (arcs left : List (List Point)) → arcs ≡ arcs_of_layers ls → left ≡ retained_arcs (map (reduce (threshold_at level arcs)) arcs) arcs
    → left ≡ retained_arcs (arc_indexes (threshold_at level (arcs_of_layers ls)) ls) (arcs_of_layers ls)
left_at_level ls level arcs left same is = subst (λ (a : List (List Point)). left ≡ retained_arcs (map (reduce (threshold_at level a)) a) a) same is
