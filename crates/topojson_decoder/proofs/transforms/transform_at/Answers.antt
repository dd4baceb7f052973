use Rattle.std.proofs.Common.{refl}
use Rattle.json_value.specs.declared.json.Json.TheVariants as j
use Rattle.topojson_decoder.proofs.TransformParts as by
use Rattle.topojson_decoder.proofs.transforms.transform_at.Goals as goal

pub returns-in_default : goal.returns-in_default
returns-in_default c =
    let found = c.in_ok-rest.ensures in
    (found.0, found.1, λ counts. rw (c.other_transform.ensures, c.kind_at.ensures c.args.depth_left found.0 _ found.1) (by.other found.0 counts ((rw c.in_default.is at c.in_ok-found.ensures) found.0 _ found.1)))

pub returns-in-Err : goal.returns-in-Err
returns-in-Err c =
    let object = rw c.in-Some.is at c.in_ok-found.ensures in
    (j.Object object.members, object.prefix, λ counts. by.object_fails (j.Object object.members) object.members counts refl c.in-Err.fault (c.in-Err.ensures object.members counts (object.holds c.none-none.ensures)))

pub returns-in-Ok : goal.returns-in-Ok
returns-in-Ok c =
    let object = rw c.in-Some.is at c.in_ok-found.ensures in
    (j.Object object.members, object.prefix, λ counts. by.object_reads (j.Object object.members) object.members counts refl c.in-Ok.transform (c.in-Ok.ensures object.members counts (object.holds c.none-none.ensures)))
