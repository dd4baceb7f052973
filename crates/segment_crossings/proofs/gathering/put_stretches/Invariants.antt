use Rattle.std.proofs.Common.{◌≡◌, ◌++◌, ◌-◌, drop, length}
use Rattle.std.specs.Prelude.{flat_map}
use Rattle.segment_crossings.specs.Gathering.{arc_lines, lines_in}
use Rattle.segment_crossings.proofs.gathering.put_stretches.Given as goal

-- with those ahead they are all
abbrev pub invariant-loop-first : goal.invariant-loop-first
invariant-loop-first l = flat_map lines_in l.stretches.items ++ arc_lines (drop l.first l.arc) ≡ flat_map lines_in l.fn.stretches.items ++ arc_lines l.arc

abbrev pub decreases-loop-first : goal.decreases-loop-first
decreases-loop-first l = length l.arc - l.first
