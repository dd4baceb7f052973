use Rattle.std.proofs.Common.{ap, sym}
use Rattle.topojson_decoder.proofs.object_parts.kept_object_at.Goals as goal

pub returns : goal.returns
returns c = rw c.after-start.ensures at (c.object_into.ensures (λ d. c.none-occurrence.ensures _ d) (ap (λ s. s.counts) (sym c.after-start.ensures)))
