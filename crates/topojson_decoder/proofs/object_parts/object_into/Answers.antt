use Rattle.std.proofs.Common.{◌-◌}
use Rattle.std.specs.Option.{option_copied}
use Rattle.json_value.specs.declared.json.Json.TheVariants as j
use Rattle.json_cursor.specs.Arrays.{prefix_value}
use Rattle.topojson_decoder.specs.Kept.{held_object, kept_object, making}
use Rattle.topojson_decoder.specs.ObjectParts.{typed_object}
use Rattle.topojson_decoder.proofs.ObjectSeen as by
use Rattle.topojson_decoder.proofs.MemberOccurrences.{object_reads, object_stops}
use Rattle.topojson_decoder.proofs.object_parts.object_into.Goals as goal

pub returns-in_default : goal.returns-in_default
returns-in_default c = λ none same v rest found. by.no_object c.args.start.keeping (option_copied c.args.start.transform) c.args.start.arcs.now v c.args.start.counts ((rw c.in_default.is at c.in_ok-rest.ensures) v rest found)

pub returns-in-Err : goal.returns-in-Err
returns-in-Err c = λ none same.
    let object = rw c.in-Some.is at c.in_ok-rest.ensures in
    let start = c.args.start in
    let transform = option_copied start.transform in
    object_stops (kept_object start.keeping transform start.arcs.now) (making (held_object start.keeping) (typed_object transform start.arcs.now object.members)) (prefix_value c.args.depth_left c.args.bytes.now) (j.Object object.members) _ start.counts object.prefix
    (by.object_is start.keeping transform start.arcs.now object.members start.counts) c.object_of.new.counts c.in-Err.stop
    (c.in-Err.ensures object.members (object.holds (none (c.args.depth_left - 1))))

pub returns-in-Ok : goal.returns-in-Ok
returns-in-Ok c = λ none same.
    let object = rw c.in-Some.is at c.in_ok-rest.ensures in
    let start = c.args.start in
    let transform = option_copied start.transform in
    object_reads (kept_object start.keeping transform start.arcs.now) (making (held_object start.keeping) (typed_object transform start.arcs.now object.members)) (prefix_value c.args.depth_left c.args.bytes.now) (j.Object object.members) c.in-Some.rest.now start.counts object.prefix
    (by.object_is start.keeping transform start.arcs.now object.members start.counts) c.in-Ok.object c.object_of.new.counts
    (c.in-Ok.ensures object.members (object.holds (none (c.args.depth_left - 1))))
