use Rattle.std.proofs.Common.{refl}
use Rattle.std.specs.Prelude.{codes}
use Rattle.std.specs.Option.{option_copied}
use Rattle.json_value.specs.Members.{named}
use Rattle.topojson_meaning.specs.Features.{feature, identifier, members_if}
use Rattle.topojson_decoder.specs.Features.{kept_identifier, kept_members}
use Rattle.topojson_decoder.specs.Kept.{of_feature}
use Rattle.topojson_decoder.proofs.FeatureParts as by
use Rattle.topojson_decoder.proofs.KeptParts.{made, made_fault, made_stop}
use Rattle.topojson_decoder.proofs.feature_parts.feature_of.Goals as goal

pub returns-in-Err : goal.returns-in-Err
returns-in-Err c = λ ms is.
    let start = c.args.start in
    let transform = option_copied start.transform in
    made_fault (of_feature start.keeping) (feature transform start.arcs.now c.args.kind ms) start.counts c.in-Err.fault
    (by.faulty_id transform start.arcs.now c.args.kind ms start.counts c.in-Err.fault (by.kept_fault start.keeping identifier (named (codes "id") ms) c.in-Err.fault (c.in-Err.ensures (kept_identifier start.keeping) _ refl is.id)))

pub returns-in-Err-found_in : goal.returns-in-Err-found_in
returns-in-Err-found_in c = λ ms is.
    let start = c.args.start in
    let transform = option_copied start.transform in
    let id = by.kept_found start.keeping identifier (named (codes "id") ms) c.in-Ok.id (c.in-Ok.ensures (kept_identifier start.keeping) _ refl is.id) in
    made_fault (of_feature start.keeping) (feature transform start.arcs.now c.args.kind ms) start.counts c.in-Err-found_in.fault
    (by.faulty_properties transform start.arcs.now c.args.kind ms start.counts id.whole id.reads c.in-Err-found_in.fault
    (by.kept_fault start.keeping members_if (named (codes "properties") ms) c.in-Err-found_in.fault (c.in-Err-found_in.ensures (kept_members start.keeping) _ refl is.properties)))

pub returns-in-Err-typed_of : goal.returns-in-Err-typed_of
returns-in-Err-typed_of c = λ ms is.
    let start = c.args.start in
    let transform = option_copied start.transform in
    let id = by.kept_found start.keeping identifier (named (codes "id") ms) c.in-Ok.id (c.in-Ok.ensures (kept_identifier start.keeping) _ refl is.id) in
    let properties = by.kept_found start.keeping members_if (named (codes "properties") ms) c.in-Ok-found_in.properties (c.in-Ok-found_in.ensures (kept_members start.keeping) _ refl is.properties) in
    made_stop (of_feature start.keeping) (feature transform start.arcs.now c.args.kind ms) start.counts c.typed_of.new.counts c.typed_of.new.counts c.in-Err-typed_of.stop
    (by.shape_stops transform start.arcs.now c.args.kind ms start.counts id.whole id.reads properties.whole properties.reads c.typed_of.new.counts c.in-Err-typed_of.stop (c.in-Err-typed_of.ensures ms is.parts))

pub returns-in-Ok-typed_of : goal.returns-in-Ok-typed_of
returns-in-Ok-typed_of c = λ ms is.
    let start = c.args.start in
    let transform = option_copied start.transform in
    let id = by.kept_found start.keeping identifier (named (codes "id") ms) c.in-Ok.id (c.in-Ok.ensures (kept_identifier start.keeping) _ refl is.id) in
    let properties = by.kept_found start.keeping members_if (named (codes "properties") ms) c.in-Ok-found_in.properties (c.in-Ok-found_in.ensures (kept_members start.keeping) _ refl is.properties) in
    rw (id.is, properties.is, c.shape.ensures)
    (made (of_feature start.keeping) (feature transform start.arcs.now c.args.kind ms) start.counts (record { id = id.whole; properties = properties.whole; shape = c.in-Ok-typed_of.shape }) c.typed_of.new.counts
    (by.shaped transform start.arcs.now c.args.kind ms start.counts id.whole id.reads properties.whole properties.reads c.in-Ok-typed_of.shape c.typed_of.new.counts (c.in-Ok-typed_of.ensures ms is.parts)))
