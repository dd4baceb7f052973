use Rattle.std.proofs.Common.{◌≡◌, get_or, pos, ℤ}
use Rattle.std.proofs.lemmas.List.{get_or_default}
use Rattle.json_writer.proofs.Appending.{goes}
use Rattle.topojson_writer.proofs.LineTexts.{next_arc, only_index}
use Rattle.topojson_writer.proofs.topology_lines.put_arcs.Goals as goal

pub arcs-preserved : goal.arcs-preserved
arcs-preserved g c =
    let refs = c.args.refs.now in
    let at = c.arcs.at in
    let r : ℤ = get_or refs at (pos 0) in
    let is : r ≡ get_or refs at r = get_or_default refs at (pos 0) r c.arcs-test.true in
    goes _ c.arcs.invariant (next_arc c.args.topology.now refs at r c.requires.begins c.arcs-test.true is) (c.put_arc.ensures.text r (only_index refs at r c.arcs-test.true is)) c.put_arc.ensures.kept
