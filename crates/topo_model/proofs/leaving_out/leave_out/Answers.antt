use Rattle.std.proofs.Common.{[], map, refl, ◌∙◌}
use Rattle.geometry.specs.Lists.{map_some}
use Rattle.build_meaning.specs.Protected.{MarkedRefs, sparing}
use Rattle.topojson_types.specs.Topologies.{object_features}
use Rattle.topo_model.specs.Along.{Ways, object_placed_along, ways_after}
use Rattle.topo_model.specs.Drops.{object_drops, objects_dropped, pair_sparing}
use Rattle.topo_model.proofs.Along.{object_steps_are}
use Rattle.topo_model.proofs.LeftOut.{ends}
use Rattle.topo_model.proofs.leaving_out.leave_out.Goals as goal

pub returns : goal.returns
returns g c =
    let kept : MarkedRefs = sparing (g.K.Keeps.keeps c.args.keeps.now) in
    let ways : Ways = map (map_some (λ v. v.items)) c.args.ways.now in
    let k = ends (λ w o. (o.0, object_placed_along (g.K.Keeps.places c.args.keeps.now) kept w o.1)) (λ w o. ways_after w (object_features o.1)) (λ w i o. object_drops (pair_sparing (g.K.Keeps.goes c.args.keeps.now)) i 0 w (object_features o.1))
    (λ w i os. objects_dropped (pair_sparing (g.K.Keeps.goes c.args.keeps.now)) i w os) (λ w i. refl) (λ w i o os. refl)
    ways c.objects.rest [] c.objects.dropped.items c.args.objects.now c.objects.objects c.objects.number c.objects-test.false c.objects.invariant in
    record { objects = k.0 ∙ object_steps_are (λ w o. (o.0, object_placed_along (g.K.Keeps.places c.args.keeps.now) kept w o.1)) ways c.args.objects.now; dropped = k.2 }
