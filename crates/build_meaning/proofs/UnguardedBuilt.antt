-- Without guards what is left of what is built of layers at zero is what is built of them at the threshold, on a grid and without one.
use Rattle.std.proofs.Common.{◌≡◌, ℕ, Bool, false, List, map, refl, sym, ap, ◌∙◌}
use Rattle.build_meaning.proofs.Names.{Point, Contents, reduce, DirectionLaw, NoneIsNew, ZeroLaw, UnguardedIndexLaw, untrimmed, built, is_used, keep_from, trimmed, arcs_of_layers, assembled, assembled_removed_count, no_guards, left_indexes, left_of, quantized, retained_arcs, simplified_by, removed_count_by, UnguardedIsBuilt}
use Rattle.build_meaning.proofs.Assembled.{assembles_to_built, removes}
use Rattle.build_meaning.proofs.LeftOf.{unguarded_indexes, unprotected_is_simplified}
use Rattle.build_meaning.proofs.OnGrid.{built_on}
use Rattle.build_meaning.proofs.SparedAlike.{contents_same, removed_same, left_on_grid}
use Rattle.build_meaning.proofs.ValidRetained.{each_kept}
use Rattle.build_meaning.proofs.Whole.{each_stays}

pub unguarded_is_built : DirectionLaw → NoneIsNew → ZeroLaw → UnguardedIndexLaw → UnguardedIsBuilt
unfolding left_of built trimmed assembled assembled_removed_count
unguarded_is_built direction none zero law g t limit ls on sound =
    let whole : Contents = untrimmed 0 0 ls in
    let used : ℕ → Bool = is_used whole.objects in
    let kept : List (List ℕ) = left_indexes no_guards t (built 0 0 ls) in
    let more : List (List Point) → List (List ℕ) = map (reduce t) in
    let same : keep_from used 0 (retained_arcs (more whole.arcs) whole.arcs) ≡ retained_arcs kept (keep_from used 0 whole.arcs) =
    each_kept t used whole.arcs ∙ ap (λ is. retained_arcs is (keep_from used 0 whole.arcs)) (sym (unguarded_indexes law t (built 0 0 ls))) in
    let stays : whole.arcs ≡ arcs_of_layers ls = each_stays zero (arcs_of_layers ls) in
    let plain = unprotected_is_simplified (more whole.arcs) limit whole in
    let on_grid = left_on_grid no_guards g t limit (built 0 0 ls) on.0 refl (built_on none g 0 0 ls on) in
    record {
      contents = on_grid.contents ∙ ap (quantized g) (contents_same false limit whole kept (more whole.arcs) same ∙ plain.contents
          ∙ ap (λ arcs. simplified_by (more arcs) limit whole) stays ∙ assembles_to_built direction zero t limit ls sound);
      removed_count = on_grid.removed_count ∙ removed_same false limit whole kept (more whole.arcs) same ∙ plain.removed_count
          ∙ ap (λ arcs. removed_count_by (more arcs) limit whole) stays ∙ removes direction zero t limit ls sound;
    }
