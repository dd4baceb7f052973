use Rattle.std.proofs.Common.{length, map, ap, refl, sym, subst, ◌∙◌}
use Rattle.build_meaning.specs.Simplified.{EachFromFirstToLast, dropped_by, removed_count_by, retained_arcs, simplified_by}
use Rattle.byte_ends.specs.Ends.{saturated}
use Rattle.topojson_types.specs.Validity.{IsTopology}
use Rattle.topo_model.proofs.Numbered.{as_many}
use Rattle.topo_model.proofs.Result.{parts_are}
use Rattle.topo_model.proofs.reducing.TopologyReduces.reduce.Goals as goal

pub cells_of_all-requires : goal.cells_of_all-requires
cells_of_all-requires c = as_many (λ k. k.items) c.args.kept.now _ (subst (EachFromFirstToLast (map (λ k. k.items) c.args.kept.now)) (sym c.arcs-2.ensures.arcs) c.requires.kept)

pub reassemble-requires-clause-retained : goal.reassemble-requires-clause-retained
reassemble-requires-clause-retained c =
    let y = c.args.self in
    let parts = c.into_parts-objects.ensures in
    record {
      arcs = y.arcs;
      valid = subst IsTopology (sym (parts_are y _ y.arcs _ parts.objects refl parts.transform)) parts.valid;
      retained_are = record {
        kept = map (λ k. k.items) c.args.kept.now;
        through = c.requires.kept;
        picks = c.in_ok-stay.ensures ∙ ap (retained_arcs (map (λ k. k.items) c.args.kept.now)) c.arcs-2.ensures.arcs;
      };
      counts_are = c.in_ok-counts.ensures ∙ ap (map length) c.arcs.ensures.arcs;
    }

pub reassemble-requires-clause-ways : goal.reassemble-requires-clause-ways
reassemble-requires-clause-ways c = c.new.ensures.items

pub returns : goal.returns
returns c =
    let y = c.args.self in
    let kept = map (λ k. k.items) c.args.kept.now in
    let parts = c.into_parts-objects.ensures in
    let whole = parts_are y _ y.arcs _ parts.objects refl parts.transform in
    let picks = c.in_ok-stay.ensures ∙ ap (retained_arcs kept) c.arcs-2.ensures.arcs in
    let left = c.in_ok-left.ensures in
    record {
      topology = left.topology kept y.arcs picks ∙ ap (simplified_by kept c.args.ring_limit) whole;
      dropped = left.dropped kept y.arcs picks ∙ ap (dropped_by kept c.args.ring_limit) whole;
      removed_count = left.removed_count kept y.arcs picks (c.in_ok-counts.ensures ∙ ap (map length) c.arcs.ensures.arcs) ∙ ap (λ z. saturated (removed_count_by kept c.args.ring_limit z)) whole;
    }
