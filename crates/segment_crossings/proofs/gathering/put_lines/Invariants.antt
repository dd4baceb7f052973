use Rattle.std.proofs.Common.{◌≡◌, ◌++◌, ◌-◌, drop, map}
use Rattle.segment_crossings.specs.Gathering.{arc_lines}
use Rattle.segment_crossings.specs.Lines.{as_segment}
use Rattle.segment_crossings.proofs.gathering.put_lines.Given as goal

-- with those ahead they are all
abbrev pub invariant-loop-next : goal.invariant-loop-next
invariant-loop-next l = map as_segment l.lines.items ++ arc_lines (drop (l.next - 1) l.arc) ≡ map as_segment l.fn.lines.items ++ arc_lines l.arc
