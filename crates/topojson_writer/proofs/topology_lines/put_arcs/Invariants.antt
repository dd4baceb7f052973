use Rattle.json_writer.proofs.Appending.{UpTo}
use Rattle.topojson_writer.proofs.LineTexts.{left_of}
use Rattle.topojson_writer.proofs.topology_lines.put_arcs.Given as goal

abbrev pub invariant-arcs : goal.invariant-arcs
invariant-arcs g l = UpTo g.O.Out.text g.O.Out.good l.fn.out l.out (left_of l.topology 0 l.refs) (left_of l.topology l.at l.refs)
