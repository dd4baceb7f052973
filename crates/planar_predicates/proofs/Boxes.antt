-- Boxes in boxes.
use Rattle.std.proofs.Common.{arith}
use Rattle.std.proofs.lemmas.Int.{ints}
use Rattle.geometry.specs.Points.{Point}
use Rattle.planar_predicates.specs.declared.extent.Extent.{Extent}
use Rattle.planar_predicates.specs.Extents.{HoldsPoint, LiesIn}

pub lies_in_trans : (e f g : Extent) → LiesIn e f → LiesIn f g → LiesIn e g
lies_in_trans e f g h k = record { low_x = omega (arith, ints, h.low_x, k.low_x); low_y = omega (arith, ints, h.low_y, k.low_y); high_x = omega (arith, ints, h.high_x, k.high_x); high_y = omega (arith, ints, h.high_y, k.high_y) }

pub holds_in : (e f : Extent) (p : Point) → LiesIn e f → HoldsPoint e p → HoldsPoint f p
holds_in e f p h k = record { low_x = omega (arith, ints, h.low_x, k.low_x); low_y = omega (arith, ints, h.low_y, k.low_y); high_x = omega (arith, ints, h.high_x, k.high_x); high_y = omega (arith, ints, h.high_y, k.high_y) }
