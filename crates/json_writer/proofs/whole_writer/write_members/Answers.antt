use Rattle.std.proofs.Common.{rules, sym}
use Rattle.json_writer.proofs.whole_writer.write_members.Goals as goal

pub returns : goal.returns
returns g c =
    let stood = c.put_members.ensures.kept _ c.over-out.ensures.begins in
    let same = sym stood.same in
    let wrote = c.end.ensures _ stood in
    search rules
