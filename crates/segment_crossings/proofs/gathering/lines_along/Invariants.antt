use Rattle.std.proofs.Common.{◌≡◌, ◌++◌, drop, map}
use Rattle.std.specs.Prelude.{flat_map}
use Rattle.segment_crossings.specs.Gathering.{lines_in}
use Rattle.segment_crossings.specs.Lines.{as_segment}
use Rattle.segment_crossings.proofs.gathering.lines_along.Given as goal

-- with those ahead they are all
abbrev pub invariant-stretches : goal.invariant-stretches
invariant-stretches l = map as_segment l.lines.items ++ flat_map lines_in (drop l.stretch-index l.stretches) ≡ flat_map lines_in l.stretches
