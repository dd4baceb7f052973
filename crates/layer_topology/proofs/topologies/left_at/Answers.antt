use Rattle.std.proofs.Common.{◌≡◌, ◌∙◌, ◌++◌, ℕ, List, Option, length, map, ap, refl, sym, subst}
use Rattle.byte_ends.specs.Ends.{saturated}
use Rattle.effective_area.specs.Calls.{calls_for}
use Rattle.elimination_meaning.specs.Elimination.{reduce}
use Rattle.geometry.specs.Points.{Point}
use Rattle.build_meaning.specs.Simplified.{dropped_by, removed_count_by, retained_arcs, simplified_by}
use Rattle.build_meaning.specs.Thresholds.{placed_cells, reduced_indexes}
use Rattle.topojson_types.specs.declared.transform.Transform.{Transform}
use Rattle.topojson_types.specs.Topologies.{Contents}
use Rattle.topojson_types.specs.Validity.{IsTopology}
use Rattle.topo_model.proofs.Result.{parts_are}
use Rattle.layer_topology.proofs.topologies.left_at.Goals as goal

-- the cells that are left are those of the indexes that reduction leaves
picked : (t : ℕ) (y : Contents) (arcs left : List (List Point)) (transform : Option Transform) → arcs ≡ y.arcs → transform ≡ y.transform → left ≡ retained_arcs (map (λ cells. reduce t (placed_cells transform cells)) arcs) arcs
    → left ≡ retained_arcs (reduced_indexes t y) y.arcs
picked t y arcs left transform a tr is =
    is ∙ ap (λ (tr : Option Transform). retained_arcs (map (λ cells. reduce t (placed_cells tr cells)) arcs) arcs) tr
    ∙ ap (λ (arcs : List (List Point)). retained_arcs (map (λ cells. reduce t (placed_cells y.transform cells)) arcs) arcs) a

pub reassemble-requires-clause-retained : goal.reassemble-requires-clause-retained
reassemble-requires-clause-retained g c =
    let y = c.args.topology in
    let parts = c.into_parts-objects.ensures in
    record {
      arcs = y.arcs;
      valid = subst IsTopology (sym (parts_are y _ y.arcs _ parts.objects refl parts.transform)) parts.valid;
      retained_are = record {
        kept = reduced_indexes c.args.t y;
        through = c.indexes_reach.ensures c.args.t y parts.valid;
        picks = picked c.args.t y _ _ _ (c.into_inner.ensures ∙ parts.arcs) (c.as_ref.ensures.value ∙ parts.transform) c.in_ok-retained.ensures.arcs;
      };
      counts_are = c.in_ok-retained.ensures.counts ∙ ap (map (λ (cells : List Point). length cells)) (c.into_inner.ensures ∙ parts.arcs);
    }

pub reassemble-requires-clause-ways : goal.reassemble-requires-clause-ways
reassemble-requires-clause-ways g c = c.in_ok-retained.ensures.ways

pub returns : goal.returns
returns g c =
    let y = c.args.topology in
    let kept = reduced_indexes c.args.t y in
    let limit = c.args.ring_limit in
    let parts = c.into_parts-objects.ensures in
    let got = c.in_ok-retained.ensures in
    let picks = picked c.args.t y _ _ _ (c.into_inner.ensures ∙ parts.arcs) (c.as_ref.ensures.value ∙ parts.transform) got.arcs in
    let counted = got.counts ∙ ap (map (λ (cells : List Point). length cells)) (c.into_inner.ensures ∙ parts.arcs) in
    let whole = parts_are y _ y.arcs _ parts.objects refl parts.transform in
    let left = c.in_ok-left.ensures in
    let plain = c.unguarded_is_simplified.ensures c.args.t limit y in
    record {
      left = record {
        topology_is = left.topology kept y.arcs picks ∙ ap (simplified_by kept limit) whole ∙ sym plain.contents;
        dropped_are = left.dropped kept y.arcs picks ∙ ap (dropped_by kept limit) whole ∙ sym plain.dropped;
        count_is = left.removed_count kept y.arcs picks counted ∙ ap (λ z. saturated (removed_count_by kept limit z)) whole ∙ sym (ap saturated plain.removed_count);
      };
      chosen = left.chosen ∙ got.chosen;
      called = got.called
          ∙ ap (λ (tr : Option Transform). g.Q.Reducer.calls c.args.reducer.now ++ calls_for c.args.t (map (placed_cells tr) c.into_inner.result.items)) (c.as_ref.ensures.value ∙ parts.transform)
          ∙ ap (λ (arcs : List (List Point)). g.Q.Reducer.calls c.args.reducer.now ++ calls_for c.args.t (map (placed_cells y.transform) arcs)) (c.into_inner.ensures ∙ parts.arcs);
    }
