use Rattle.std.proofs.Common.{◌∙◌}
use Rattle.std.specs.Option.{option_copied}
use Rattle.topojson_meaning.specs.declared.fault.TopoFault.TheVariants.{WrongKind}
use Rattle.json_cursor.specs.Arrays.{array_by, prefix_value}
use Rattle.json_cursor.specs.declared.stop.Stop.TheVariants as stop
use Rattle.json_cursor.proofs.ArrayParts as array
use Rattle.topojson_decoder.specs.Kept.{kept_elements, kept_features}
use Rattle.topojson_decoder.proofs.FeatureLists as by
use Rattle.topojson_decoder.proofs.collected_features.features_at.Goals as goal

pub returns-in-NoArray : goal.returns-in-NoArray
returns-in-NoArray c =
    let transform = option_copied c.args.by.transform in
    let list = kept_elements c.args.by.keeping transform c.args.by.arcs.now in
    array.same_stops (array_by WrongKind list) (kept_features c.args.by.keeping transform c.args.by.arcs.now) (prefix_value c.args.depth_left c.args.bytes.now) c.args.counts.now (λ v. by.features_are c.args.by.keeping transform c.args.by.arcs.now v c.args.counts.now) (stop.Fault WrongKind)
    (array.not_an_array WrongKind list c.args.counts.now (prefix_value c.args.depth_left c.args.bytes.now) (rw c.in-NoArray.is at c.opening_at-opening.ensures))

pub returns-in-Empty : goal.returns-in-Empty
returns-in-Empty c =
    let transform = option_copied c.args.by.transform in
    let list = kept_elements c.args.by.keeping transform c.args.by.arcs.now in
    rw (c.of.ensures ∙ c.new.ensures.items)
    (array.same_reads (array_by WrongKind list) (kept_features c.args.by.keeping transform c.args.by.arcs.now) (prefix_value c.args.depth_left c.args.bytes.now) c.args.counts.now (λ v. by.features_are c.args.by.keeping transform c.args.by.arcs.now v c.args.counts.now) _ _ _
    (array.empty_array WrongKind list c.args.counts.now (prefix_value c.args.depth_left c.args.bytes.now) _ _ _ (rw c.in-Empty.is at c.opening_at-opening.ensures) (by.no_features c.args.by.keeping transform c.args.by.arcs.now c.args.counts.now)))

pub returns-in-Err : goal.returns-in-Err
returns-in-Err c =
    let transform = option_copied c.args.by.transform in
    let list = kept_elements c.args.by.keeping transform c.args.by.arcs.now in
    array.same_stops (array_by WrongKind list) (kept_features c.args.by.keeping transform c.args.by.arcs.now) (prefix_value c.args.depth_left c.args.bytes.now) c.args.counts.now (λ v. by.features_are c.args.by.keeping transform c.args.by.arcs.now v c.args.counts.now) c.in-Err.stop
    (array.array_stops WrongKind list c.args.counts.now (prefix_value c.args.depth_left c.args.bytes.now) _ (rw c.in-Filled.is at c.opening_at-opening.ensures) c.in-Err.stop c.in-Err.ensures)

pub returns-in-Ok : goal.returns-in-Ok
returns-in-Ok c =
    let transform = option_copied c.args.by.transform in
    let list = kept_elements c.args.by.keeping transform c.args.by.arcs.now in
    rw (c.of-in-Ok.ensures, c.shrink_to_fit.ensures.items)
    (array.same_reads (array_by WrongKind list) (kept_features c.args.by.keeping transform c.args.by.arcs.now) (prefix_value c.args.depth_left c.args.bytes.now) c.args.counts.now (λ v. by.features_are c.args.by.keeping transform c.args.by.arcs.now v c.args.counts.now) _ _ _
    (array.array_reads WrongKind list c.args.counts.now (prefix_value c.args.depth_left c.args.bytes.now) _ (rw c.in-Filled.is at c.opening_at-opening.ensures) _ _ _ c.in-Ok.ensures))
