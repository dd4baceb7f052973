use Rattle.topo_model.proofs.InPlaces.{Filling}
use Rattle.topo_model.proofs.filling.fill_all.Given as goal

abbrev pub invariant-parts : goal.invariant-parts
invariant-parts g l = Filling g.F.FillPlaces.fills l.initial.remaining l.fn.parts l.remaining l.part-index l.parts
