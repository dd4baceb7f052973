use Rattle.json_writer.proofs.Appending.{UpTo}
use Rattle.topojson_writer.specs.LineTexts.{positions_text}
use Rattle.topojson_writer.proofs.topology_lines.put_walk.Given as goal

abbrev pub invariant-positions : goal.invariant-positions
invariant-positions g l =
    UpTo g.O.Out.text g.O.Out.good l.fn.out l.out (positions_text l.fn.is_first l.fn.walk) (positions_text l.is_first l.position-iterator)
