use Rattle.std.proofs.Common.{refl, sym, ◌∙◌}
use Rattle.std.proofs.lemmas.Result.{err_from_is_err_and}
use Rattle.geojson_model.proofs.FeatureParts.{is_feature, is_proper_shape}
use Rattle.geojson_model.proofs.features.feature_of.Goals as goal

pub returns-in_err-id : goal.returns-in_err-id
returns-in_err-id c = λ ms is.
    let p = err_from_is_err_and c.from_residual.result c.from_residual.ensures.1 in
    rw (p.1, p.2) (is_feature c.args.start ms c.args.fields is ∙ rw (← c.in_err-id.ensures) refl)

pub returns-in_err-properties : goal.returns-in_err-properties
returns-in_err-properties c = λ ms is.
    let p = err_from_is_err_and c.from_residual-in_err-properties.result c.from_residual-in_err-properties.ensures.1 in
    rw (p.1, p.2) (is_feature c.args.start ms c.args.fields is ∙ rw (← c.in_ok-id.ensures, ← c.in_err-properties.ensures) refl)

pub returns-in_err-shape : goal.returns-in_err-shape
returns-in_err-shape c = λ ms is.
    let p = err_from_is_err_and c.from_residual-in_err-shape.result c.from_residual-in_err-shape.ensures.1 in
    rw (p.1, p.2) (is_feature c.args.start ms c.args.fields is ∙ rw (← c.in_ok-id.ensures, ← c.in_ok-properties.ensures, ← c.in_err-shape.ensures) refl)

pub of-requires : goal.of-requires
of-requires c = is_proper_shape c.args.start c.requires.0 c.args.fields c.requires.1 _ _ (sym c.in_ok-shape.ensures)

pub returns : goal.returns
returns c = λ ms is. is_feature c.args.start ms c.args.fields is ∙ rw (← c.in_ok-id.ensures, ← c.in_ok-properties.ensures, ← c.in_ok-shape.ensures, c.of.ensures) refl
