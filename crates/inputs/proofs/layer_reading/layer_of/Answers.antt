use Rattle.std.proofs.Common.{◌≢◌, refl, rules}
use Rattle.geojson_meaning.specs.Layers.{layer}
use Rattle.geojson_meaning.specs.declared.fault.GeoFaultKind.TheVariants.{Memory}
use Rattle.inputs.proofs.layer_reading.layer_of.Goals as goal

pub returns-in-Ok : goal.returns-in-Ok
unfolding layer
returns-in-Ok c = record { utf8 = c.in-Ok.ensures.0; value = c.in-Ok.ensures.1; spelled = c.in-Ok.ensures.2; stands = c.in-Ok.ensures.3 }

pub returns-else-eq-2 : goal.returns-else-eq-2
unfolding layer
returns-else-eq-2 c =
    let refused = rw c.in-Err-Meaning.field-0-is at c.in-Err-Meaning.ensures in
    let kept : c.in-Err-Meaning.fault.kind ≢ Memory = search rules in
    (refl, kept, refused.0, refused.1, refused.2, refused.3)
