use Rattle.topojson_types.proofs.WalkPlaces.{placed_stitched, walk_places}
use Rattle.topojson_types.proofs.walk.Walk.over.Goals as goal

pub invariant_of-result : goal.invariant_of-result
invariant_of-result c =
    rw (c.over.ensures, c.arcs.ensures.arcs, c.transform.ensures.transform) (walk_places c.args.topology.now c.arcs.ensures.valid c.args.refs.now c.requires)

pub returns : goal.returns
returns c =
    rw (c.over.ensures, c.arcs.ensures.arcs, c.transform.ensures.transform) (placed_stitched c.args.topology.now.transform c.args.topology.now.arcs c.args.refs.now)
