use Rattle.std.specs.Prelude.{codes}
use Rattle.std.specs.Option.{option_copied}
use Rattle.topojson_decoder.specs.Kept.{kept_arc_list}
use Rattle.topojson_decoder.proofs.TopologyParts as part
use Rattle.topojson_decoder.proofs.topologies.arcs_of.Goals as goal

pub returns-in-Never-clause-gives : goal.returns-in-Never-clause-gives
returns-in-Never-clause-gives c = λ texts ms h. part.part_missing (codes "arcs") (kept_arc_list c.args.keeping (option_copied c.args.transform)) ms c.args.counts.now (rw c.in-Never.is at h)

pub returns-in-Again-clause-gives : goal.returns-in-Again-clause-gives
returns-in-Again-clause-gives c = λ texts ms h.
    let s = rw c.in-Again.is at h in
    part.part_doubled (codes "arcs") (kept_arc_list c.args.keeping (option_copied c.args.transform)) ms c.args.counts.now s.0 s.1 s.2 s.3

pub returns-in-Once-clause-gives : goal.returns-in-Once-clause-gives
returns-in-Once-clause-gives c = λ texts ms h.
    let s = rw c.in-Once.is at h in
    part.part_judged (codes "arcs") (kept_arc_list c.args.keeping (option_copied c.args.transform)) ms c.args.counts.now c.arcs_by.new.counts s.0 s.1 c.arcs_by.result (c.arcs_by.ensures.judges texts s.0 s.2)
