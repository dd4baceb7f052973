use Rattle.std.proofs.Common.{◌∙◌, List, Option, ap, subst, sym}
use Rattle.std.specs.List.{AllByRecursion}
use Rattle.build_meaning.specs.InTurn.{goes_first}
use Rattle.geometry.specs.Points.{Point}
use Rattle.layer_topology.proofs.TurnsLeft.{topology_left}
use Rattle.layer_topology.specs.InTurn.{IsLeftInTurn}
use Rattle.owned_values.proofs.Elements.{all_weaker}
use Rattle.topo_model.proofs.Full.{stands_for}
use Rattle.topojson_types.specs.Decoding.{placed_arcs}
use Rattle.topojson_types.specs.Topologies.{Contents}
use Rattle.topojson_types.specs.Validity.{IsArc, IsPlace, IsTopology}
use Rattle.topojson_types.specs.declared.transform.Transform.{Transform}
use Rattle.layer_topology.proofs.topologies.left_at_once.Goals as goal

pub placed_arcs-requires : goal.placed_arcs-requires
placed_arcs-requires c =
    let parts = c.into_parts-objects.ensures in
    let y = c.args.topology in
    subst (λ (t : Option Transform). AllByRecursion (λ a. AllByRecursion (IsPlace t) a) c.as_slice.result.now) (sym (c.as_ref.ensures.value ∙ parts.transform))
    (subst (λ (xs : List (List Point)). AllByRecursion (λ a. AllByRecursion (IsPlace y.transform) a) xs) (sym (c.as_slice.ensures ∙ parts.arcs))
    (all_weaker (IsArc y.transform) (λ a. AllByRecursion (IsPlace y.transform) a) (λ a h. h.1) y.arcs parts.valid.arcs))

pub left_judged-requires : goal.left_judged-requires
left_judged-requires c =
    let parts = c.into_parts-objects.ensures in
    record {
      at_once = c.requires.at_once;
      level = c.requires.level;
      limit = c.requires.limit;
      valid = subst IsTopology (sym (stands_for _ _ _ c.args.topology (c.into_inner.ensures ∙ parts.objects) (c.as_slice-2.ensures ∙ parts.arcs) parts.transform parts.valid)) parts.valid;
      placed = c.deref.ensures.value ∙ c.in_ok-placed.ensures ∙ ap (λ (t : Option Transform). placed_arcs t c.as_slice.result.now) c.as_ref.ensures.value
          ∙ ap (placed_arcs c.into_parts-objects.result.2) (c.as_slice.ensures ∙ sym c.as_slice-2.ensures);
    }

pub returns : goal.returns
returns c =
    let parts = c.into_parts-objects.ensures in
    let y = c.args.topology in
    let a = c.args.asked in
    let left = c.in_ok-left.left in
    let first = goes_first a.guards a.ring_limit in
    let objects = c.into_inner.ensures ∙ parts.objects in
    let same = stands_for _ _ _ y objects (c.as_slice-2.ensures ∙ parts.arcs) parts.transform parts.valid in
    let turned = subst (λ (z : Contents). IsLeftInTurn first a.guards a.level a.ring_limit c.into_inner.result.items z left.topology left.dropped.items left.removed_count left.chosen) same c.in_ok-left.ensures in
    let is = subst (λ (xs : List _). IsLeftInTurn first a.guards a.level a.ring_limit xs y left.topology left.dropped.items left.removed_count left.chosen) objects turned in
    record {
      left = topology_left a.guards a.level a.ring_limit y left.topology left.dropped.items left.removed_count left.chosen parts.valid is;
      chosen = is.chosen_is;
    }
