use Rattle.std.proofs.Common.{◌∙◌, ◌++◌, List, ap, length, map}
use Rattle.build_meaning.specs.Assembled.{arc_indexes, arcs_of_layers}
use Rattle.byte_ends.specs.Ends.{saturated}
use Rattle.geometry.specs.Points.{Point}
use Rattle.layer_topology.proofs.Made.{left_at_level}
use Rattle.layer_topology.specs.Levels.{calls_at, chosen_for, threshold_at}
use Rattle.layer_topology.proofs.making.left_apart.Goals as goal

pub left_of_arcs-requires-clause-long : goal.left_of_arcs-requires-clause-long
left_of_arcs-requires-clause-long g c = c.in_ok-objects.ensures.long

pub assemble_draft-requires-clause-draft : goal.assemble_draft-requires-clause-draft
assemble_draft-requires-clause-draft g c =
    let ls = c.args.layers.items in
    let made = c.in_ok-objects.ensures in
    let t = threshold_at c.args.level (arcs_of_layers ls) in
    record {
      layers = ls;
      of_layers = made.draft;
      retained_are = record {
        kept = arc_indexes t ls;
        through = c.arc_indexes_reach.ensures t ls c.requires.sound;
        picks = left_at_level ls c.args.level c.in_ok-objects.arcs.items c.in_ok-arcs.arcs.items made.arcs c.in_ok-arcs.ensures.retained;
      };
      counts_are = c.in_ok-counts.ensures ∙ ap (map (λ (arc : List Point). length arc)) (c.deref.ensures.value ∙ made.arcs);
    }

pub assemble_draft-requires-clause-ways : goal.assemble_draft-requires-clause-ways
assemble_draft-requires-clause-ways g c = c.new.ensures.items

pub returns : goal.returns
returns g c =
    let ls = c.args.layers.items in
    let limit = c.args.ring_limit in
    let made = c.in_ok-objects.ensures in
    let t = threshold_at c.args.level (arcs_of_layers ls) in
    let kept = arc_indexes t ls in
    let picks = left_at_level ls c.args.level c.in_ok-objects.arcs.items c.in_ok-arcs.arcs.items made.arcs c.in_ok-arcs.ensures.retained in
    let counts = c.in_ok-counts.ensures ∙ ap (map (λ (arc : List Point). length arc)) (c.deref.ensures.value ∙ made.arcs) in
    let left = c.in_ok-left.ensures in
    record {
      left = record {
        topology_is = left.topology ls kept made.draft picks ∙ c.assembles_to_built.ensures t limit ls c.requires.sound;
        dropped_are = left.dropped ls kept made.draft picks ∙ c.assembling_drops_expected.ensures t limit ls c.requires.sound;
        count_is = left.removed_count ls kept made.draft picks counts ∙ ap saturated (c.assembling_removes.ensures t limit ls c.requires.sound);
      };
      chosen = left.chosen ∙ c.in_ok-arcs.ensures.chosen ∙ ap (λ (arcs : List (List Point)). chosen_for c.args.level (threshold_at c.args.level arcs)) made.arcs;
      called = c.in_ok-arcs.ensures.called ∙ ap (λ (arcs : List (List Point)). g.Q.Reducer.calls c.args.reducer.now ++ calls_at c.args.level arcs) made.arcs;
      few = left.few;
    }
