use Rattle.topojson_types.specs.declared.feature.TopoFeature.{TopoFeature}
use Rattle.topojson_types.specs.Validity.{option_places}
use Rattle.topojson_types.proofs.Boxes.{Left}
use Rattle.topojson_types.proofs.bounding.with_features.Given as goal

abbrev pub invariant-features : goal.invariant-features
invariant-features l = Left (λ (f : TopoFeature). option_places f.shape) l.features l.feature-index l.fn.bounds l.all
