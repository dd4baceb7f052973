use Rattle.std.proofs.Common.{List, ap, ◌∙◌}
use Rattle.geometry.specs.Points.{Point}
use Rattle.topojson_types.specs.Widening.{widened_by}
use Rattle.topojson_types.proofs.Boxes.{ends, lists_of}
use Rattle.topojson_types.proofs.bounding.with_arcs.Goals as goal

pub returns : goal.returns
returns c =
    ends (λ (cs : List Point). cs) c.args.arcs.now c.arcs.arc-index c.args.bounds c.arcs.all c.arcs-test.false c.arcs.invariant
    ∙ ap (widened_by c.args.bounds) (lists_of c.args.arcs.now)
