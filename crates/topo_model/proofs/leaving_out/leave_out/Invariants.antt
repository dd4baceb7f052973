use Rattle.std.proofs.Common.{[], map}
use Rattle.geometry.specs.Lists.{map_some}
use Rattle.build_meaning.specs.Protected.{sparing}
use Rattle.topojson_types.specs.Topologies.{object_features}
use Rattle.topo_model.specs.Along.{object_placed_along, ways_after}
use Rattle.topo_model.specs.Drops.{object_drops, pair_sparing}
use Rattle.topo_model.proofs.LeftOut.{Walked}
use Rattle.topo_model.proofs.leaving_out.leave_out.Given as goal

abbrev pub invariant-objects : goal.invariant-objects
invariant-objects g l =
    Walked (λ w o. (o.0, object_placed_along (g.K.Keeps.places l.keeps) (sparing (g.K.Keeps.keeps l.keeps)) w o.1)) (λ w o. ways_after w (object_features o.1)) (λ w i o. object_drops (pair_sparing (g.K.Keeps.goes l.keeps)) i 0 w (object_features o.1))
    (map (map_some (λ v. v.items)) l.ways) [] l.fn.objects l.rest l.dropped.items l.number l.objects
