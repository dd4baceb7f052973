use Rattle.std.proofs.Common.{sym}
use Rattle.std.specs.Option.{option_copied}
use Rattle.topojson_meaning.specs.declared.geometry_type.GeometryType.TheVariants as types
use Rattle.topojson_decoder.proofs.GeometryParts as part
use Rattle.topojson_decoder.proofs.geometries.group_of.Goals as goal

pub returns-in-Never : goal.returns-in-Never
returns-in-Never c = λ start ms occurrence. part.no_part (option_copied start.transform) start.arcs.now types.Collection ms start.counts (rw c.in-Never.is at occurrence)

pub returns-in-Again : goal.returns-in-Again
returns-in-Again c = λ start ms occurrence.
    let s = rw c.in-Again.is at occurrence in
    part.more_parts (option_copied start.transform) start.arcs.now types.Collection ms start.counts s.0 s.1 s.2 s.3

pub returns-in-Err : goal.returns-in-Err
returns-in-Err c = λ start ms occurrence.
    let s = rw c.in-Once.is at occurrence in
    part.ungrouped (option_copied start.transform) start.arcs.now ms start.counts s.0 s.1 c.in-Err.fault (rw (sym c.in-Err.ensures.value) at s.2)

pub returns-in-Ok : goal.returns-in-Ok
returns-in-Ok c = λ start ms occurrence.
    let s = rw c.in-Once.is at occurrence in
    part.grouped (option_copied start.transform) start.arcs.now ms start.counts s.0 s.1 _ _ (rw (sym c.in-Ok.ensures.value) at s.2)
