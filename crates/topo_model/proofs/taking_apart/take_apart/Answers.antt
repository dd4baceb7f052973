use Rattle.std.proofs.Common.{ℕ, List, ◌++◌, ◌∷◌, [], map, ap, sym, ◌∙◌, append-nil}
use Rattle.std.proofs.lemmas.List.{map-append}
use Rattle.build_meaning.specs.Layers.{features_lines_and_rings, named_lines_and_rings}
use Rattle.geojson_types.specs.declared.layer.Layer.{Layer}
use Rattle.geometry.specs.Lists.{joined}
use Rattle.owned_values.proofs.Lists.{joined_append}
use Rattle.topojson_types.specs.declared.object.TopoObject.TheVariants.{Many}
use Rattle.topo_model.specs.Drafts.{feature_relined, no_refs, objects_relined}
use Rattle.topo_model.proofs.taking_apart.take_apart.Goals as goal

pub layers-preserved : goal.layers-preserved
layers-preserved c =
    let here : List ℕ × Layer = (c.in-Some.name, c.in-Some.layer) in
    let parts = c.into_parts-features.ensures in (
      c.in_ok-push.ensures.items ∙ ap (λ os. os ++ (c.in-Some.name, Many c.of.result) ∷ []) c.layers.invariant.0
          ∙ ap (λ fs. objects_relined no_refs c.layers.yielded ++ (c.in-Some.name, Many fs) ∷ []) (c.of.ensures ∙ parts.features)
          ∙ sym (map-append (λ l. (l.0, Many (map (feature_relined no_refs) l.1.features))) c.layers.yielded (here ∷ [])),
      c.in_ok-append.ensures ∙ ap (λ bs. bs ++ c.into_parts-features.result.1) c.layers.invariant.1 ∙ ap (λ bs. named_lines_and_rings c.layers.yielded ++ bs) (parts.outlines ∙ sym (append-nil (features_lines_and_rings c.in-Some.layer.features)))
          ∙ sym (ap joined (map-append (λ l. features_lines_and_rings l.1.features) c.layers.yielded (here ∷ [])) ∙ joined_append (map (λ l. features_lines_and_rings l.1.features) c.layers.yielded) (features_lines_and_rings here.1.features ∷ [])),
    )
