use Rattle.std.proofs.Common.{◌≡◌, ℕ, ◌<◌, length, get_or, List, arith, ◌∙◌}
use Rattle.std.proofs.lemmas.List.{get_or_default}
use Rattle.geometry.specs.Points.{Point}
use Rattle.effective_area.specs.Vertices.{origin}
use Rattle.effective_area.proofs.Scan.{scan_step}
use Rattle.effective_area.proofs.rescan.least_corner.Goals as goal

-- an element that was read, by any default
read : (ps : List Point) (k : ℕ) (p : Point) → k < length ps → p ≡ get_or ps k p → p ≡ get_or ps k origin
read ps k p h e = e ∙ get_or_default ps k p origin h

pub loop-i-preserved : goal.loop-i-preserved
loop-i-preserved c = grind (arith, read, scan_step)
