use Rattle.std.proofs.Common.{◌≡◌, ◌-◌, take}
use Rattle.elimination_meaning.specs.Elimination.{least, corners}
use Rattle.effective_area.specs.Counts.{AreasRose, RoseBy}
use Rattle.effective_area.specs.Vertices.{vertices, candidate_corner}
use Rattle.geometry.specs.Lists.{map_some}
use Rattle.effective_area.proofs.rescan.least_corner.Given as goal

-- the first of the corners so far
abbrev pub invariant-loop-i : goal.invariant-loop-i
invariant-loop-i l = record {
  least : map_some candidate_corner l.best ≡ least (corners (vertices l.arc (take l.i l.present)));
  counted : RoseBy (l.i - 2) 0 l.fn.steps l.steps;
  computed : AreasRose (l.i - 2) l.fn.steps l.steps;
}
