use Rattle.std.proofs.Common.{◌∙◌, List, None, Some, true, ap, subst, sym}
use Rattle.geometry.specs.Points.{Point}
use Rattle.layer_topology.proofs.DraftInTurn.{positions_are}
use Rattle.layer_topology.proofs.TurnsLeft.{layers_chosen, layers_left}
use Rattle.layer_topology.specs.InTurn.{IsLeftInTurn}
use Rattle.topo_model.proofs.Assembled.{draft_valid, stands_for_layers}
use Rattle.topo_model.specs.DraftUses.{draft_contents}
use Rattle.topo_model.specs.Rebuilding.{Rebuilding}
use Rattle.topojson_types.specs.Topologies.{Contents}
use Rattle.layer_topology.proofs.making.left_at_once.Goals as goal

pub of-requires-clause-places : goal.of-requires-clause-places
of-requires-clause-places c =
    let made = c.in_ok-objects.ensures in
    positions_are None c.deref-2.result.now
    (draft_valid c.zero_law.ensures c.ends_stay.ensures c.nothing_is_new.ensures c.args.layers.items c.in_ok-objects.objects.items made.draft c.deref-2.result.now
    (c.deref-2.ensures.value ∙ c.in_ok-cells.ensures ∙ c.deref.ensures.value ∙ made.arcs)).arcs

pub left_in_turn-requires : goal.left_in_turn-requires
left_in_turn-requires c =
    let a = c.args.asked in
    let made = c.in_ok-objects.ensures in
    let cells = c.in_ok-cells.ensures ∙ c.deref.ensures.value ∙ made.arcs in
    record {
      at_once = c.requires.at_once;
      level = c.requires.level;
      limit = c.requires.limit;
      judged = (true, ap (λ (r : Rebuilding). Some r) (c.in_ok-first.ensures ∙ ap (λ (xs : List (List Point)). record { arcs = xs; limit = a.ring_limit }) (c.deref-2.ensures.value ∙ sym c.deref-4.ensures.value)));
      valid = draft_valid c.zero_law.ensures c.ends_stay.ensures c.nothing_is_new.ensures c.args.layers.items c.in_ok-objects.objects.items made.draft c.deref-3.result.now (c.deref-3.ensures.value ∙ cells);
      placed = c.deref-4.ensures.value ∙ sym c.deref-3.ensures.value;
    }

pub returns : goal.returns
returns c =
    let a = c.args.asked in
    let ls = c.args.layers.items in
    let made = c.in_ok-objects.ensures in
    let os = c.in_ok-objects.objects.items in
    let left = c.in_ok-left.left in
    let cells = c.deref-3.ensures.value ∙ c.in_ok-cells.ensures ∙ c.deref.ensures.value ∙ made.arcs in
    let same = ap (λ (xs : List (List Point)). draft_contents os xs None) cells
    ∙ stands_for_layers c.zero_law.ensures c.ends_stay.ensures c.nothing_is_new.ensures ls os made.draft in
    let is = subst (λ (z : Contents). IsLeftInTurn true a.guards a.level a.ring_limit os z left.topology left.dropped.items left.removed_count left.chosen) same (c.in_ok-left.ensures.left true (ap (λ (r : Rebuilding). Some r) (c.in_ok-first.ensures ∙ ap (λ (xs : List (List Point)). record { arcs = xs; limit = a.ring_limit }) (c.deref-2.ensures.value ∙ sym c.deref-4.ensures.value)))) in
    record {
      left = layers_left c.zero_law.ensures c.kept_by_weight.ensures c.unprotected_is_simplified.ensures c.unguarded_is_built.ensures c.first_is_left_at_zero.ensures c.first_of_built.ensures
          a.guards a.ring_limit c.requires.at_once ls c.requires.sound a.level os made.draft left.topology left.dropped.items left.removed_count left.chosen is;
      chosen = layers_chosen c.zero_law.ensures c.kept_by_weight.ensures c.unprotected_is_simplified.ensures c.unguarded_is_built.ensures c.first_is_left_at_zero.ensures c.first_of_built.ensures
          a.guards a.ring_limit c.requires.at_once ls c.requires.sound a.level os made.draft left.topology left.dropped.items left.removed_count left.chosen is;
      few = c.in_ok-left.ensures.few;
    }
