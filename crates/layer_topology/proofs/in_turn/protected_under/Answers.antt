use Rattle.std.proofs.Common.{◌∙◌, ap, map, sym}
use Rattle.build_meaning.proofs.LeftOf.{no_rings}
use Rattle.build_meaning.specs.Protected.{protected_rings, protection}
use Rattle.geometry.specs.Lists.{joined}
use Rattle.layer_topology.proofs.in_turn.protected_under.Goals as goal
use Rattle.topojson_types.specs.Topologies.{object_features}

pub returns-else-guards-clause-rings : goal.returns-else-guards-clause-rings
returns-else-guards-clause-rings c =
    let os = c.args.objects.now in
    c.new-else-guards.ensures.items ∙ sym (ap (λ s. protected_rings (protection s c.args.placed.now) os) c.if-guards.false ∙ no_rings (joined (map (λ o. object_features o.1) os)))
