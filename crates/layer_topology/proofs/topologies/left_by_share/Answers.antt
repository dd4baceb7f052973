use Rattle.std.proofs.Common.{◌≡◌, ◌∙◌, ℕ, List, Some, map, ap, rules, sym, subst}
use Rattle.std.proofs.lemmas.Simd.{map-map}
use Rattle.build_meaning.specs.ArcPositions.{arc_positions}
use Rattle.build_meaning.specs.Simplified.{EachFromFirstToLast, dropped_by, removed_count_by, simplified_by}
use Rattle.build_meaning.specs.Thresholds.{placed_cells, reduced_indexes}
use Rattle.byte_ends.specs.Ends.{saturated}
use Rattle.elimination_meaning.specs.Elimination.{reduce}
use Rattle.layer_topology.specs.Levels.{threshold_at}
use Rattle.layer_topology.specs.declared.level.Level.TheVariants.{Share}
use Rattle.topo_model.proofs.Picks.{arcs_are}
use Rattle.topojson_types.specs.Topologies.{Contents}
use Rattle.layer_topology.proofs.topologies.left_by_share.Goals as goal

-- the arcs of a topology are reduced by their positions
each_reduced : (t : ℕ) (y : Contents) → map (reduce t) (arc_positions y) ≡ reduced_indexes t y
each_reduced t y = ap (map (reduce t)) (sym (arcs_are y.transform y.arcs)) ∙ map-map (reduce t) (placed_cells y.transform) y.arcs

pub reduce-requires-clause-kept : goal.reduce-requires-clause-kept
reduce-requires-clause-kept c =
    let t = c.in_ok-numbers.threshold in
    let y = c.args.topology in
    let same : c.in_ok-lines.lines.items ≡ arc_positions y = search rules in
    subst (λ (ns : List (List ℕ)). EachFromFirstToLast ns y.arcs) (sym (ap (map (λ k. k.items)) c.deref-2.ensures.value ∙ c.in_ok-numbers.ensures.kept ∙ ap (map (reduce t)) (c.deref.ensures.value ∙ same) ∙ each_reduced t y))
    (c.indexes_reach.ensures t y c.arcs.ensures.valid)

pub returns : goal.returns
returns c =
    let t = c.in_ok-numbers.threshold in
    let y = c.args.topology in
    let limit = c.args.ring_limit in
    let share = threshold_at (Share c.args.p c.args.q) (arc_positions y) in
    let same : c.in_ok-lines.lines.items ≡ arc_positions y = search rules in
    let chosen = c.in_ok-numbers.ensures.chosen ∙ ap (threshold_at (Share c.args.p c.args.q)) (c.deref.ensures.value ∙ same) in
    let kept = ap (map (λ k. k.items)) c.deref-2.ensures.value ∙ c.in_ok-numbers.ensures.kept ∙ ap (map (reduce t)) (c.deref.ensures.value ∙ same) ∙ each_reduced t y ∙ ap (λ n. reduced_indexes n y) chosen in
    let left = c.in_ok-topology.ensures in
    let plain = c.unguarded_is_simplified.ensures share limit y in
    record {
      left = record {
        topology_is = left.topology ∙ ap (λ ns. simplified_by ns limit y) kept ∙ sym plain.contents;
        dropped_are = left.dropped ∙ ap (λ ns. dropped_by ns limit y) kept ∙ sym plain.dropped;
        count_is = left.removed_count ∙ ap (λ ns. saturated (removed_count_by ns limit y)) kept ∙ sym (ap saturated plain.removed_count);
      };
      chosen = ap Some chosen;
    }
