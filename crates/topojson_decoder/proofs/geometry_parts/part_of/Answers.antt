use Rattle.std.proofs.Common.{Some}
use Rattle.std.specs.Option.{option_copied}
use Rattle.topojson_decoder.specs.Geometries.{of_part, part, typed_shape}
use Rattle.topojson_decoder.proofs.GeometryParts as by
use Rattle.topojson_decoder.proofs.MemberOccurrences.{judges_same}
use Rattle.topojson_decoder.proofs.PartsSeen.{taken}
use Rattle.topojson_decoder.proofs.geometry_parts.part_of.Goals as goal

pub returns-in-Never : goal.returns-in-Never
returns-in-Never c = λ ms occurrence read. by.no_part (option_copied c.args.start.transform) c.args.start.arcs.now (of_part c.args.kind) ms c.args.start.counts (rw c.in-Never.is at occurrence)

pub returns-in-Again : goal.returns-in-Again
returns-in-Again c = λ ms occurrence read.
    let s = rw c.in-Again.is at occurrence in
    by.more_parts (option_copied c.args.start.transform) c.args.start.arcs.now (of_part c.args.kind) ms c.args.start.counts s.0 s.1 s.2 s.3

pub returns-in-Once : goal.returns-in-Once
returns-in-Once c = λ ms occurrence read.
    let s = rw c.in-Once.is at occurrence in
    judges_same (typed_shape c.args.start (Some (of_part c.args.kind)) ms) (part c.args.start c.args.kind s.0) c.args.start.counts _
    (by.one_part (option_copied c.args.start.transform) c.args.start.arcs.now (of_part c.args.kind) ms c.args.start.counts s.0 s.1) c.shape_by.result
    (c.shape_by.ensures s.0 s.2.0 s.2.1 (taken c.args.start ms c.args.read.now c.args.kind s.0 s.1 read))
