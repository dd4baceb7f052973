use Rattle.std.proofs.Common.{Err, sym, ◌∙◌}
use Rattle.std.specs.Option.{option_copied}
use Rattle.topojson_meaning.specs.Features as features
use Rattle.topojson_meaning.specs.Objects as objects
use Rattle.topojson_types.specs.declared.object.TopoObject.TheVariants.{One}
use Rattle.topojson_decoder.specs.Kept.{held_object, of_feature}
use Rattle.topojson_decoder.specs.ObjectParts.{collection, kept_typed_object, simple, typed_object}
use Rattle.topojson_decoder.proofs.KeptParts.{made, made_alike, made_fault, made_stop, unmade, unmade_stop}
use Rattle.topojson_decoder.proofs.ObjectSeen as by
use Rattle.topojson_decoder.proofs.SimpleMembers.{feature_simple}
use Rattle.topojson_decoder.proofs.MemberOccurrences.{judges_same}
use Rattle.topojson_decoder.proofs.object_parts.object_of.Goals as goal

pub returns-in-Err : goal.returns-in-Err
returns-in-Err c = λ ms is.
    let start = c.args.start in
    let transform = option_copied start.transform in
    made_fault (held_object start.keeping) (typed_object transform start.arcs.now ms) start.counts c.in-Err.fault
    (by.faulty_type transform start.arcs.now ms start.counts c.in-Err.fault (sym (c.in-Err.ensures ms (by.type_seen start c.args.depth_left ms c.args.occurrence.now is))))

pub returns-then-is_collection : goal.returns-then-is_collection
returns-then-is_collection c = λ ms is.
    let start = c.args.start in
    let transform = option_copied start.transform in
    judges_same (kept_typed_object start ms) (collection start ms) start.counts _
    (made_alike (held_object start.keeping) (typed_object transform start.arcs.now ms) start.counts (objects.collection transform start.arcs.now ms)
    (by.is_many transform start.arcs.now ms start.counts c.in-Ok.kind (sym (c.in-Ok.ensures ms (by.type_seen start c.args.depth_left ms c.args.occurrence.now is))) (sym c.if-is_collection.ensures))) c.collection_of.result (c.collection_of.ensures ms (rw c.replace-features.ensures.value is.features))

pub returns-in-Err-read : goal.returns-in-Err-read
returns-in-Err-read c = λ ms is.
    let start = c.args.start in
    let transform = option_copied start.transform in
    let counts = c.feature_of-read.new.counts in
    let stop = c.in-Err-read.stop in
    made_stop (held_object start.keeping) (typed_object transform start.arcs.now ms) start.counts counts counts stop
    (by.single_stops transform start.arcs.now ms start.counts c.in-Ok.kind (sym (c.in-Ok.ensures ms (by.type_seen start c.args.depth_left ms c.args.occurrence.now is))) (sym c.if-is_collection.ensures) counts stop
    (judges_same (features.feature transform start.arcs.now c.in-Ok.kind ms) (features.feature transform start.arcs.now c.in-Ok.kind (simple ms)) start.counts counts (sym (feature_simple transform start.arcs.now ms c.in-Ok.kind (sym c.if-is_collection.ensures) start.counts)) (Err stop)
    (unmade_stop (of_feature start.keeping) (features.feature transform start.arcs.now c.in-Ok.kind (simple ms)) start.counts counts counts stop ((rw c.in-Err-read.is at c.feature_of-read.ensures) (simple ms) is.feature))))

pub returns-in-Ok-read : goal.returns-in-Ok-read
returns-in-Ok-read c = λ ms is.
    let start = c.args.start in
    let transform = option_copied start.transform in
    let read = unmade (of_feature start.keeping) (features.feature transform start.arcs.now c.in-Ok.kind (simple ms)) start.counts c.in-Ok-read.feature c.feature_of-read.new.counts ((rw c.in-Ok-read.is at c.feature_of-read.ensures) (simple ms) is.feature) in
    let same = feature_simple transform start.arcs.now ms c.in-Ok.kind (sym c.if-is_collection.ensures) start.counts in
    rw read.is (made (held_object start.keeping) (typed_object transform start.arcs.now ms) start.counts (One read.whole) c.feature_of-read.new.counts
    (by.single transform start.arcs.now ms start.counts c.in-Ok.kind (sym (c.in-Ok.ensures ms (by.type_seen start c.args.depth_left ms c.args.occurrence.now is))) (sym c.if-is_collection.ensures) read.whole c.feature_of-read.new.counts (sym same ∙ read.reads)))
