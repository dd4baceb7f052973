use Rattle.std.specs.Option.{option_copied}
use Rattle.topojson_meaning.specs.Objects as objects
use Rattle.topojson_types.specs.declared.object.TopoObject.TheVariants.{Many}
use Rattle.topojson_decoder.specs.Kept.{held_features, held_object}
use Rattle.topojson_decoder.proofs.KeptParts.{made, made_fault, made_stop, unmade, unmade_stop}
use Rattle.topojson_decoder.proofs.ObjectSeen as by
use Rattle.topojson_decoder.proofs.object_parts.collection_of.Goals as goal

pub returns-in-Never : goal.returns-in-Never
returns-in-Never c = λ ms occurrence.
    made_fault (held_object c.args.start.keeping) (objects.collection (option_copied c.args.start.transform) c.args.start.arcs.now ms) c.args.start.counts _
    (by.no_geometries (option_copied c.args.start.transform) c.args.start.arcs.now ms c.args.start.counts (rw c.in-Never.is at occurrence))

pub returns-in-Again : goal.returns-in-Again
returns-in-Again c = λ ms occurrence.
    let s = rw c.in-Again.is at occurrence in
    made_fault (held_object c.args.start.keeping) (objects.collection (option_copied c.args.start.transform) c.args.start.arcs.now ms) c.args.start.counts _
    (by.more_geometries (option_copied c.args.start.transform) c.args.start.arcs.now ms c.args.start.counts s.0 s.1 s.2 s.3)

pub returns-in-Err : goal.returns-in-Err
returns-in-Err c = λ ms occurrence.
    let s = rw c.in-Once.is at occurrence in
    let transform = option_copied c.args.start.transform in
    made_stop (held_object c.args.start.keeping) (objects.collection transform c.args.start.arcs.now ms) c.args.start.counts c.features_by.new.counts c.features_by.new.counts c.in-Err.stop
    (by.collection_stops transform c.args.start.arcs.now ms c.args.start.counts s.0 s.1 c.features_by.new.counts c.in-Err.stop
    (unmade_stop (held_features c.args.start.keeping) (objects.features transform c.args.start.arcs.now s.0) c.args.start.counts c.features_by.new.counts c.features_by.new.counts c.in-Err.stop (c.in-Err.ensures s.0 s.2)))

pub returns-in-Ok : goal.returns-in-Ok
returns-in-Ok c = λ ms occurrence.
    let s = rw c.in-Once.is at occurrence in
    let transform = option_copied c.args.start.transform in
    let read = unmade (held_features c.args.start.keeping) (objects.features transform c.args.start.arcs.now s.0) c.args.start.counts c.in-Ok.features c.features_by.new.counts (c.in-Ok.ensures s.0 s.2) in
    rw read.is (made (held_object c.args.start.keeping) (objects.collection transform c.args.start.arcs.now ms) c.args.start.counts (Many read.whole) c.features_by.new.counts
    (by.collected transform c.args.start.arcs.now ms c.args.start.counts s.0 s.1 read.whole c.features_by.new.counts read.reads))
