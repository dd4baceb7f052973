use Rattle.std.proofs.Common.{[], map, ap, sym, append-nil, ◌∙◌}
use Rattle.build_meaning.specs.Layers.{named_lines_and_rings}
use Rattle.linework.specs.Outlines.{is_short_outline}
use Rattle.topo_model.specs.Drafts.{draft_refs, in_turn, named_filled, no_refs, objects_relined, refs_of, spread}
use Rattle.topo_model.proofs.InPlaces.{objects_are, put_back, spread_long}
use Rattle.topo_model.proofs.filling.filled.Goals as goal

pub returns : goal.returns
returns c ls of hollow short refs =
    let lines = named_lines_and_rings ls in
    let remaining = c.all-remaining.ensures ∙ ap (λ flags. spread flags c.args.refs.items) short ∙ ap (spread (map is_short_outline lines)) refs ∙ spread_long of lines ∙ sym (append-nil (refs_of (draft_refs of) lines)) in
    sym (ap (λ p. p.0) (put_back named_filled c.args.objects.len c.args.objects.items c.deref_mut.result.now c.fill_all.new.parts c.all-remaining.result c.fill_all.new.remaining c.args.objects.ok.0 c.deref_mut.ensures.value c.fill_all.ensures))
    ∙ ap (λ os. (in_turn (map named_filled os) c.all-remaining.result).0) hollow ∙ ap (λ w. (in_turn (map named_filled (objects_relined no_refs ls)) w).0) remaining ∙ ap (λ p. p.0) (objects_are ls (draft_refs of) [])
