use Rattle.std.proofs.Common.{◌≤◌, List, ap, length, subst, sym, ◌∙◌}
use Rattle.std.specs.List.{AllByRecursion}
use Rattle.geometry.specs.Points.{Point}
use Rattle.topo_model.proofs.Assembled.{draft_of}
use Rattle.layer_topology.proofs.Made.{table_arcs}
use Rattle.layer_topology.proofs.making.draft_and_arcs.Goals as goal

pub returns-in-Ok : goal.returns-in-Ok
returns-in-Ok c =
    let ls = c.args.layers.items in
    let made = c.in_ok-objects.ensures in
    let is = c.in-Ok.ensures.table ls made.outlines in
    record {
      draft = draft_of ls c.into_parts-arcs.result.1.items c.in_ok-objects.outlines _ c.in_ok-objects.objects.items c.filled.result.items (c.into_parts-arcs.ensures.refs ∙ ap (λ t. t.refs) is) c.requires.sound
          c.requires.names made.objects made.outlines (c.deref.ensures.value ∙ c.in-Ok.ensures.short) c.filled.ensures;
      arcs = c.into_parts-arcs.ensures.arcs ∙ table_arcs ls c.in-Ok.table is;
      long = subst (AllByRecursion (λ (arc : List Point). 2 ≤ length arc)) (sym c.into_parts-arcs.ensures.arcs) c.into_parts-arcs.ensures.kept.long;
    }
