use Rattle.std.proofs.Common.{◌∙◌, ap, sym, Err, Ok}
use Rattle.geojson_model.proofs.LayerParts as part
use Rattle.geojson_model.proofs.layers.single_of.Goals as goal

pub returns-in-Err : goal.returns-in-Err
returns-in-Err g c = λ ms is. part.single_fault c.args.start.exact ms c.args.start.counts _ (c.in-Err.ensures ms is) ∙ ap Err (sym c.fault_within.ensures)

pub returns-in_ok-one-in-Ok : goal.returns-in_ok-one-in-Ok
returns-in_ok-one-in-Ok g c = λ ms is. part.single c.args.start.exact ms c.args.start.counts _ _ (c.in-Ok.ensures ms is) ∙ ap (λ fs. Ok (fs, c.feature_of.new.counts)) (sym c.in_ok-one-in-Ok.ensures)
