use Rattle.std.proofs.Common.{sym, ◌∙◌}
use Rattle.topojson_decoder.proofs.GeometryParts as part
use Rattle.topojson_decoder.proofs.geometry_parts.kind_of.Goals as goal

pub returns-in-Never : goal.returns-in-Never
returns-in-Never c = λ ms occurrence. sym (part.no_type ms (rw c.in-Never.is at occurrence))

pub returns-in-Again : goal.returns-in-Again
returns-in-Again c = λ ms occurrence.
    let s = rw c.in-Again.is at occurrence in
    sym (part.more_types ms s.0 s.1 s.2 s.3)

pub returns-in-Once : goal.returns-in-Once
returns-in-Once c = λ ms occurrence.
    let s = rw c.in-Once.is at occurrence in
    s.2 ∙ sym (part.one_type ms s.0 s.1)
