use Rattle.std.proofs.Common.{rules, sym}
use Rattle.topojson_writer.proofs.feature_writer.write_features.Goals as goal

pub returns : goal.returns
returns g c =
    let stood = c.put_features.ensures.kept _ c.over-out.ensures.begins in
    let same = sym stood.same in
    let wrote = c.end.ensures _ stood in
    search rules
