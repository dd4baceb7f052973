use Rattle.std.proofs.Common.{◌≡◌, map, take}
use Rattle.geometry.proofs.Moved.{Replaced}
use Rattle.junctions.specs.Cleaning.{clean}
use Rattle.junctions.specs.Gathering.{is_collapsed}
use Rattle.linework.specs.Outlines.{over_positions}
use Rattle.linework.proofs.outlines.clean_strokes.Given as goal

abbrev pub invariant-strokes : goal.invariant-strokes
invariant-strokes l = record {
  cleaned : Replaced (over_positions clean) l.fn.strokes l.stroke-index l.strokes;
  short : l.short.items ≡ map is_collapsed (take l.stroke-index l.strokes);
}
