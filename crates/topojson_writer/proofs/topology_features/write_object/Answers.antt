use Rattle.std.proofs.Common.{rules, sym}
use Rattle.topojson_writer.proofs.topology_features.write_object.Goals as goal

pub returns : goal.returns
returns g c =
    let stood = c.put_object.ensures.kept _ c.over-out.ensures.begins in
    let same = sym stood.same in
    let wrote = c.end.ensures _ stood in
    search rules
