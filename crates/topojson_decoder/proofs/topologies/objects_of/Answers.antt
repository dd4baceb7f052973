use Rattle.std.specs.Prelude.{codes}
use Rattle.std.specs.Option.{option_copied}
use Rattle.json_value.specs.Members.{named}
use Rattle.topojson_decoder.specs.Kept.{kept_objects}
use Rattle.topojson_decoder.proofs.TopologyParts as part
use Rattle.topojson_decoder.proofs.topologies.objects_of.Goals as goal

pub returns-in-Never-clause-gives : goal.returns-in-Never-clause-gives
returns-in-Never-clause-gives c = λ ms h. part.part_missing (codes "objects") (kept_objects c.args.keeping (option_copied c.args.transform) c.args.arcs.now) ms c.args.counts.now (rw c.in-Never.is at h)

pub returns-in-Again-clause-gives : goal.returns-in-Again-clause-gives
returns-in-Again-clause-gives c = λ ms h.
    let s = rw c.in-Again.is at h in
    part.part_doubled (codes "objects") (kept_objects c.args.keeping (option_copied c.args.transform) c.args.arcs.now) ms c.args.counts.now s.0 s.1 s.2 s.3

pub returns-in-Err-clause-gives : goal.returns-in-Err-clause-gives
returns-in-Err-clause-gives c = λ ms h.
    let at = part.needed_prefix c.args.depth_left (named (codes "objects") ms) c.in-Once.at (rw c.in-Once.is at h) in
    part.part_gives (λ x. x) (codes "objects") (kept_objects c.args.keeping (option_copied c.args.transform) c.args.arcs.now) ms c.args.counts.now c.objects_at.new.counts c.args.depth_left c.in-Once.at at c.in-Err.stop c.in-Err.ensures

pub returns-in-Ok-clause-gives : goal.returns-in-Ok-clause-gives
returns-in-Ok-clause-gives c = λ ms h.
    let at = part.needed_prefix c.args.depth_left (named (codes "objects") ms) c.in-Once.at (rw c.in-Once.is at h) in
    part.part_reads (codes "objects") (kept_objects c.args.keeping (option_copied c.args.transform) c.args.arcs.now) ms c.args.counts.now _ c.args.depth_left c.in-Once.at _ _ at c.in-Ok.ensures
