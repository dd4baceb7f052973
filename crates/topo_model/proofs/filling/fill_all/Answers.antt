use Rattle.topo_model.proofs.InPlaces.{done}
use Rattle.topo_model.proofs.filling.fill_all.Goals as goal

pub returns : goal.returns
returns g c = done g.F.FillPlaces.fills c.args.remaining.now c.args.parts.now c.parts.remaining c.parts.part-index c.parts.parts c.parts-test.false c.parts.invariant
