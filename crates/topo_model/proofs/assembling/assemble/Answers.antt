use Rattle.std.proofs.Common.{length, map, ap, sym, subst, ◌∙◌}
use Rattle.std.specs.List.{AllByRecursion}
use Rattle.build_meaning.proofs.Linework.{named_rings}
use Rattle.build_meaning.specs.Layers.{named_lines_and_rings}
use Rattle.linework.specs.Outlines.{IsRingIfClosed}
use Rattle.topo_model.specs.Drafts.{no_refs, objects_relined}
use Rattle.build_meaning.specs.Simplified.{EachFromFirstToLast, retained_arcs}
use Rattle.topo_model.proofs.Assembled.{draft_of, table_arcs}
use Rattle.topo_model.proofs.Numbered.{as_many}
use Rattle.topo_model.proofs.assembling.assemble.Goals as goal

pub positions_of_all-requires : goal.positions_of_all-requires
positions_of_all-requires c = as_many (λ k. k.items) c.args.kept.now _ (subst (EachFromFirstToLast (map (λ k. k.items) c.args.kept.now)) (sym c.arcs-2.ensures) c.requires.kept)

pub lines_of_outlines-requires : goal.lines_of_outlines-requires
lines_of_outlines-requires c = subst (AllByRecursion IsRingIfClosed) (sym (c.in_ok-objects.ensures.outlines ∙ ap named_lines_and_rings c.in_ok-extracted.ensures)) (named_rings c.args.layers.items c.requires.sound)

pub assemble_draft-requires-clause-draft : goal.assemble_draft-requires-clause-draft
assemble_draft-requires-clause-draft c =
    let same = ap (λ t. t.arcs) c.requires.table ∙ table_arcs c.args.layers.items in
    record {
      layers = c.args.layers.items;
      of_layers = draft_of c.args.layers.items c.into_parts-arcs.result.1.items c.in_ok-objects.outlines _ c.in_ok-objects.objects.items c.filled-draft.result.items (c.into_parts-arcs.ensures.refs ∙ ap (λ t. t.refs) c.requires.table)
          c.requires.sound c.requires.names (c.in_ok-objects.ensures.objects ∙ ap (objects_relined no_refs) c.in_ok-extracted.ensures) (c.in_ok-objects.ensures.outlines ∙ ap named_lines_and_rings c.in_ok-extracted.ensures) (c.deref.ensures.value ∙ c.in_ok-_lines.ensures.short) c.filled-draft.ensures;
      retained_are = record {
        kept = map (λ k. k.items) c.args.kept.now;
        through = subst (EachFromFirstToLast (map (λ k. k.items) c.args.kept.now)) same c.requires.kept;
        picks = c.in_ok-arcs.ensures ∙ ap (retained_arcs (map (λ k. k.items) c.args.kept.now)) (c.arcs-2.ensures ∙ same);
      };
      counts_are = c.in_ok-counts.ensures ∙ ap (map length) (c.arcs.ensures ∙ same);
    }

pub assemble_draft-requires-clause-ways : goal.assemble_draft-requires-clause-ways
assemble_draft-requires-clause-ways c = c.new.ensures.items

pub returns : goal.returns
returns c =
    let ls = c.args.layers.items in
    let kept = map (λ k. k.items) c.args.kept.now in
    let same = ap (λ t. t.arcs) c.requires.table ∙ table_arcs ls in
    let draft = draft_of c.args.layers.items c.into_parts-arcs.result.1.items c.in_ok-objects.outlines _ c.in_ok-objects.objects.items c.filled-draft.result.items (c.into_parts-arcs.ensures.refs ∙ ap (λ t. t.refs) c.requires.table)
    c.requires.sound c.requires.names (c.in_ok-objects.ensures.objects ∙ ap (objects_relined no_refs) c.in_ok-extracted.ensures) (c.in_ok-objects.ensures.outlines ∙ ap named_lines_and_rings c.in_ok-extracted.ensures) (c.deref.ensures.value ∙ c.in_ok-_lines.ensures.short) c.filled-draft.ensures in
    let picks = c.in_ok-arcs.ensures ∙ ap (retained_arcs kept) (c.arcs-2.ensures ∙ same) in
    let left = c.in_ok-left.ensures in
    record {
      topology = left.topology ls kept draft picks;
      dropped = left.dropped ls kept draft picks;
      removed_count = left.removed_count ls kept draft picks (c.in_ok-counts.ensures ∙ ap (map length) (c.arcs.ensures ∙ same));
      few = left.few;
    }
