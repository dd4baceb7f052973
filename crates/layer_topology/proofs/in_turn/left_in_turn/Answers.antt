use Rattle.std.proofs.Common.{◌∙◌, List, Option, ap, subst, sym}
use Rattle.build_meaning.specs.Left.{protection_of}
use Rattle.build_meaning.specs.Simplified.{retained_arcs}
use Rattle.geometry.specs.Lists.{map_some}
use Rattle.geometry.specs.Points.{Point}
use Rattle.layer_topology.proofs.DraftInTurn.{contents_are, drops_from, removed_are, stands, stands_for, whole}
use Rattle.layer_topology.specs.InTurn.{indexes_for, judged_first, threshold_in_turn}
use Rattle.layer_topology.specs.Levels.{chosen_for}
use Rattle.topo_model.specs.Along.{Ways}
use Rattle.topo_model.specs.DraftUses.{draft_contents}
use Rattle.topo_model.specs.Rebuilding.{Rebuilding}
use Rattle.topo_model.specs.Retaining.{StandsFor, StandsForTopology}
use Rattle.topo_model.specs.Ways.{ways_under}
use Rattle.topojson_types.specs.Decoding.{placed_arcs}
use Rattle.topojson_types.specs.Topologies.{Contents}
use Rattle.topojson_types.specs.Validity.{IsTopology}
use Rattle.layer_topology.proofs.in_turn.left_in_turn.Goals as goal

pub retained_of_used-requires : goal.retained_of_used-requires
retained_of_used-requires c = record {
  at_once = c.requires.at_once;
  level = c.requires.level;
  judged = c.requires.judged;
  valid = (c.args.transform, subst (λ os. IsTopology (draft_contents os c.args.arcs.now c.args.transform)) (sym c.deref.ensures.value) c.requires.valid, c.requires.placed);
}

pub finish-requires-clause-stands : goal.finish-requires-clause-stands
finish-requires-clause-stands c =
    let a = c.args.asked in
    let os = c.args.objects.items in
    let arcs = c.args.arcs.now in
    let tr = c.args.transform in
    let j = c.requires.judged in
    let got = c.in_ok-retained.ensures in
    let stay = c.in_ok-retained.retained.arcs.items in
    let many = c.in_ok-retained.retained.counts.items in
    let picks = got.arcs j.0 tr j.1 (subst (λ (xs : List _). IsTopology (draft_contents xs arcs tr)) (sym c.deref.ensures.value) c.requires.valid) c.requires.placed
    ∙ ap (λ (xs : List _). retained_arcs (indexes_for j.0 a.guards a.level a.ring_limit (draft_contents xs arcs tr)) arcs) c.deref.ensures.value in
    let ways = got.ways ∙ ap (λ (xs : List _). ways_under a.guards.keep_shapes c.args.placed.now xs) c.deref.ensures.value ∙ ap (λ (xs : List (List Point)). ways_under a.guards.keep_shapes xs os) c.requires.placed in
    let first = j.1 ∙ ap (judged_first j.0 a.ring_limit) c.requires.placed in
    let all = stands_for a.guards a.level a.ring_limit os arcs tr c.requires.at_once c.in_turn_is_at_once.ensures c.without_small_is_valid.ensures c.requires.valid c.left_indexes_reach.ensures j.0 stay many picks got.counts in
    subst (λ (ws : Ways). StandsForTopology os stay many tr (map_some (λ r. r.now) c.args.first) a.ring_limit ws) (sym ways)
    (subst (λ (f : Option Rebuilding). StandsForTopology os stay many tr f a.ring_limit (ways_under a.guards.keep_shapes (placed_arcs tr arcs) os)) (sym first) all)

pub returns-clause-left : goal.returns-clause-left
returns-clause-left c b judged =
    let a = c.args.asked in
    let os = c.args.objects.items in
    let arcs = c.args.arcs.now in
    let tr = c.args.transform in
    let y : Contents = draft_contents os arcs tr in
    let once = c.requires.at_once in
    let got = c.in_ok-retained.ensures in
    let stay = c.in_ok-retained.retained.arcs.items in
    let sound = subst (λ (xs : List _). IsTopology (draft_contents xs arcs tr)) (sym c.deref.ensures.value) c.requires.valid in
    let same = c.deref.ensures.value in
    let of : Contents = whole a.guards a.level a.ring_limit os arcs tr once b in
    let numbers = indexes_for b a.guards a.level a.ring_limit y in
    let picks = got.arcs b tr judged sound c.requires.placed ∙ ap (λ (xs : List _). retained_arcs (indexes_for b a.guards a.level a.ring_limit (draft_contents xs arcs tr)) arcs) same in
    let ways = got.ways ∙ ap (λ (xs : List _). ways_under a.guards.keep_shapes c.args.placed.now xs) same ∙ ap (λ (xs : List (List Point)). ways_under a.guards.keep_shapes xs os) c.requires.placed in
    let first = judged ∙ ap (judged_first b a.ring_limit) c.requires.placed in
    let law = c.in_turn_is_at_once.ensures in
    let valid = c.without_small_is_valid.ensures in
    let reach = c.left_indexes_reach.ensures in
    let standing = stands a.guards a.level a.ring_limit os arcs tr once law valid c.requires.valid reach b stay picks in
    let stand = subst (λ (ws : Ways). StandsFor (protection_of a.guards of) numbers of.objects os arcs stay tr (map_some (λ r. r.now) c.args.first) a.ring_limit ws) (sym ways)
    (subst (λ (f : Option Rebuilding). StandsFor (protection_of a.guards of) numbers of.objects os arcs stay tr f a.ring_limit (ways_under a.guards.keep_shapes (placed_arcs tr arcs) os)) (sym first) standing) in
    let left = c.in_ok-left.ensures in
    record {
      topology_is = contents_are a.guards a.level a.ring_limit os arcs tr once law valid c.requires.valid reach b c.in_ok-left.left.topology (left.topology (protection_of a.guards of) numbers of.objects arcs stand);
      dropped_are = drops_from a.guards a.level a.ring_limit os arcs tr once b _ stay _ c.in_ok-left.left.dropped.items first picks ways left.dropped;
      count_is = removed_are a.guards a.level a.ring_limit os arcs tr once law valid c.requires.valid reach b c.in_ok-left.left.removed_count
          (left.removed_count (protection_of a.guards of) numbers of.objects arcs stand got.counts);
      chosen_is = left.chosen ∙ got.chosen b tr judged sound c.requires.placed ∙ ap (λ (xs : List _). chosen_for a.level (threshold_in_turn b a.guards a.level a.ring_limit (draft_contents xs arcs tr))) same;
    }

pub returns-clause-few : goal.returns-clause-few
returns-clause-few c = c.in_ok-left.ensures.few
