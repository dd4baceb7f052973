use Rattle.std.proofs.Common.{◌≡◌, ◌++◌, drop, map}
use Rattle.std.specs.List.{filter}
use Rattle.guarded_meaning.specs.Segments.{has_length}
use Rattle.guarded_meaning.proofs.Neighbours.{all_segments}
use Rattle.segment_crossings.specs.Lines.{as_segment}
use Rattle.segment_crossings.proofs.gathering.lines_of.Given as goal

-- with those ahead they are all
abbrev pub invariant-arcs : goal.invariant-arcs
invariant-arcs l = map as_segment l.lines.items ++ filter has_length (all_segments (drop l.arc-index l.arcs)) ≡ filter has_length (all_segments l.arcs)
