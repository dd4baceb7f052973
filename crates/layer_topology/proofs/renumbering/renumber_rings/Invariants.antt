use Rattle.std.proofs.Common.{map}
use Rattle.topo_model.specs.Renumbering.{renumbered_by}
use Rattle.geometry.proofs.Moved.{Replaced}
use Rattle.layer_topology.proofs.renumbering.renumber_rings.Given as goal

abbrev pub invariant-rings : goal.invariant-rings
invariant-rings l = Replaced (map (renumbered_by l.new_indexes)) l.fn.rings l.refs-index l.rings
