use Rattle.std.proofs.Common.{◌∙◌, ap, sym, Ok}
use Rattle.geojson_meaning.proofs.Inputs.{layer_inputs}
use Rattle.geojson_model.proofs.ValueParts.{layer_is}
use Rattle.geojson_model.proofs.values.read_layer.Goals as goal

pub returns-in-Err-read-clause-fault : goal.returns-in-Err-read-clause-fault
returns-in-Err-read-clause-fault c = λ n.
    let found = rw (c.none-counts.ensures, c.in-Err-read.is) at c.in-Ok-layer_at.ensures in
    layer_is c.args.exact 4294967295 c.deref.result.now c.args.value (rw c.deref.ensures.value c.in-Ok.ensures) found.0 _ found.1 ∙ found.2

pub returns-clause-inputs : goal.returns-clause-inputs
returns-clause-inputs c =
    let found = rw (c.none-counts.ensures, c.in-Ok-read.is) at c.in-Ok-layer_at.ensures in
    layer_inputs c.args.exact c.args.value _ _ (layer_is c.args.exact 4294967295 c.deref.result.now c.args.value (rw c.deref.ensures.value c.in-Ok.ensures) found.0 _ found.1 ∙ found.2 ∙ ap (λ fs. Ok (fs, c.layer_at.new.counts)) (sym (c.of-features.ensures ∙ c.into_made.ensures)))
