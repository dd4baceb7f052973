use Rattle.build_meaning.specs.Protected.{greatest_ring}
use Rattle.topo_model.proofs.BestRing.{object_ways_more, object_rings_more}
use Rattle.topo_model.proofs.protecting.rings_of_summed.Goals as goal

pub objects-preserved : goal.objects-preserved
objects-preserved c = (
  object_ways_more (greatest_ring c.args.arcs.now) c.objects.object-index c.objects.found.ways c.add_object.new.found.ways _ c.args.objects.now c.object-item.result c.objects-test.true c.object-item.is
      c.objects.invariant.0 c.in_ok-add_object.ensures.ways,
  object_rings_more (greatest_ring c.args.arcs.now) c.objects.object-index c.objects.found.rings c.add_object.new.found.rings _ c.args.objects.now c.object-item.result c.objects-test.true c.object-item.is
      c.objects.invariant.1 c.in_ok-add_object.ensures.rings,
)
