use Rattle.std.proofs.Common.{List}
use Rattle.geometry.specs.Points.{Point}
use Rattle.topojson_types.proofs.Boxes.{Left}
use Rattle.topojson_types.proofs.bounding.with_arcs.Given as goal

abbrev pub invariant-arcs : goal.invariant-arcs
invariant-arcs l = Left (λ (cs : List Point). cs) l.arcs l.arc-index l.fn.bounds l.all
