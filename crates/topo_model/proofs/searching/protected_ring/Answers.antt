use Rattle.std.proofs.Common.{Option, None, ap, sym, ◌∙◌}
use Rattle.geometry.specs.Lists.{map_some, then_some}
use Rattle.build_meaning.specs.OuterRings.{outer_rings}
use Rattle.build_meaning.specs.Protected.{greatest_ring}
use Rattle.topo_model.specs.Searching.{Found, all_met, at_way}
use Rattle.topo_model.proofs.BestRing.{best_is_greatest}
use Rattle.topo_model.proofs.searching.protected_ring.Goals as goal

pub returns : goal.returns
returns c =
    ap (λ (o : Option Found). map_some (λ f. f.ring) o)
    (c.in_ok-meet_shape.ensures.best ∙ ap (λ w. all_met c.args.arcs.now None (at_way w (outer_rings c.in-Some.shape))) c.clear.ensures.items)
    ∙ best_is_greatest c.args.arcs.now c.in-Some.shape ∙ ap (then_some (greatest_ring c.args.arcs.now)) (sym c.in-Some.is)
