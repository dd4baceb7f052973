use Rattle.std.proofs.Common.{◌≡◌, ℕ, ◌≤◌, get_or, length}
use Rattle.geometry.specs.DropCauses.{drop_causes}
use Rattle.geometry.specs.Lists.{map_some}
use Rattle.geometry.specs.Pruning.{prune}
use Rattle.build_meaning.specs.InTurn.{paired}
use Rattle.build_meaning.specs.OuterRings.{marked}
use Rattle.build_meaning.specs.Protected.{sparing}
use Rattle.topojson_types.specs.Topologies.{TopoShape}
use Rattle.topo_model.specs.Drops.{pair_sparing}
use Rattle.topo_model.proofs.Prefix.{InPrefix}
use Rattle.topo_model.proofs.pruning.+prune_shape.Given as goal

abbrev pub invariant-shapes : goal.invariant-shapes
invariant-shapes g l = record {
  unvisited : (length l.members ≡ length l.initial.members) × ((k : ℕ) (d : TopoShape) → l.i ≤ k → get_or l.members k d ≡ get_or l.initial.members k d);
  walked : InPrefix marked (prune (g.K.Keeps.places l.keeps) (sparing (g.K.Keeps.keeps l.keeps))) (λ s. drop_causes (pair_sparing (g.K.Keeps.goes l.keeps)) (paired s)) (map_some (λ w. w.now) l.way) l.fn.place
      0 l.initial.members l.initial.dropped.items l.i l.kept l.members l.dropped.items;
}
