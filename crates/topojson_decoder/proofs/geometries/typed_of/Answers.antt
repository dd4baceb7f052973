use Rattle.std.specs.Option.{option_copied}
use Rattle.topojson_decoder.proofs.GeometryParts as part
use Rattle.topojson_decoder.proofs.geometries.typed_of.Goals as goal

pub returns-in-None : goal.returns-in-None
returns-in-None c = λ ms is. rw c.in-None.is (part.no_null (option_copied c.args.start.transform) c.args.start.arcs.now ms c.args.start.counts)

pub returns-in-Places : goal.returns-in-Places
returns-in-Places c = λ ms is. rw (c.in-Some.is, c.in-Places.is) (c.part_of.ensures ms is.coordinates is.read)

pub returns-in-Arcs : goal.returns-in-Arcs
returns-in-Arcs c = λ ms is. rw (c.in-Some.is, c.in-Arcs.is) (c.part_of-in-Arcs.ensures ms is.arcs is.read)

pub returns-in-Collection : goal.returns-in-Collection
returns-in-Collection c = λ ms is. rw (c.in-Some.is, c.in-Collection.is) (c.group_of.ensures c.args.start ms is.geometries)
