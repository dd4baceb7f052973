use Rattle.std.proofs.Common.{◌-◌, [], refl}
use Rattle.std.specs.Option.{option_copied}
use Rattle.json_value.specs.declared.json.Json.TheVariants as j
use Rattle.json_cursor.specs.Arrays.{prefix_value}
use Rattle.topojson_meaning.specs.Objects.{objects_after}
use Rattle.topojson_decoder.specs.Kept.{held_objects, kept_objects, making}
use Rattle.topojson_decoder.proofs.NamedLaws as by
use Rattle.topojson_decoder.proofs.MemberOccurrences.{object_reads, object_stops}
use Rattle.topojson_decoder.proofs.named_objects.objects_at.Goals as goal

pub returns-in_default : goal.returns-in_default
returns-in_default c = λ v rest found. by.no_objects c.args.keeping (option_copied c.args.transform) c.args.arcs.now v c.args.counts.now ((rw c.in_default.is at c.in_ok-found.ensures) v rest found)

pub returns-in-Err : goal.returns-in-Err
returns-in-Err c =
    let object = rw c.in-Some.is at c.in_ok-found.ensures in
    let transform = option_copied c.args.transform in
    object_stops (kept_objects c.args.keeping transform c.args.arcs.now) (making (held_objects c.args.keeping) (objects_after transform c.args.arcs.now [] object.members)) (prefix_value c.args.depth_left c.args.bytes.now) (j.Object object.members) _ c.args.counts.now object.prefix
    (by.objects_are c.args.keeping transform c.args.arcs.now object.members c.args.counts.now) c.in_order.new.counts c.in-Err.stop
    (c.in-Err.ensures (c.args.depth_left - 1) object.members (object.holds (c.none-none.ensures _ (c.args.depth_left - 1) refl)))

pub returns-in-Ok : goal.returns-in-Ok
returns-in-Ok c =
    let object = rw c.in-Some.is at c.in_ok-found.ensures in
    let transform = option_copied c.args.transform in
    object_reads (kept_objects c.args.keeping transform c.args.arcs.now) (making (held_objects c.args.keeping) (objects_after transform c.args.arcs.now [] object.members)) (prefix_value c.args.depth_left c.args.bytes.now) (j.Object object.members) _ c.args.counts.now object.prefix
    (by.objects_are c.args.keeping transform c.args.arcs.now object.members c.args.counts.now) _ c.in_order.new.counts
    (c.in-Ok.ensures (c.args.depth_left - 1) object.members (object.holds (c.none-none.ensures _ (c.args.depth_left - 1) refl)))
