use Rattle.std.proofs.Common.{◌++◌, ◌∷◌, [], map, sym, ap, ◌∙◌}
use Rattle.std.proofs.lemmas.List.{map-append}
use Rattle.geometry.specs.Pruning.{option_lines_and_rings}
use Rattle.extraction.specs.Extracts.{feature_relined, no_refs}
use Rattle.linework.specs.Outlines.{features_lines_and_rings}
use Rattle.extraction.proofs.TakenOut.{joined_more}
use Rattle.extraction.proofs.layer.ExtractedLayerCollectsFeatures.put.Goals as goal

pub invariant_of-self : goal.invariant_of-self
invariant_of-self c =
    let fs = c.self.inside.whole.features in (
      c.in-Ok.ensures.features ∙ ap (λ ts. ts ++ feature_relined no_refs c.args.feature ∷ []) c.self.invariant.0
          ∙ sym (map-append (feature_relined no_refs) fs (c.args.feature ∷ [])) ∙ ap (map (feature_relined no_refs)) (sym c.with-whole.ensures),
      c.in-Ok.ensures.outlines ∙ ap (λ bs. bs ++ option_lines_and_rings c.args.feature.shape) c.self.invariant.1
          ∙ sym (joined_more (λ f. option_lines_and_rings f.shape) fs c.args.feature) ∙ ap features_lines_and_rings (sym c.with-whole.ensures),
    )
