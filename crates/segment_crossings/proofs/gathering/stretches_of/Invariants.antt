use Rattle.std.proofs.Common.{◌≡◌, ◌++◌, drop}
use Rattle.std.specs.List.{filter}
use Rattle.std.specs.Prelude.{flat_map}
use Rattle.guarded_meaning.specs.Segments.{has_length}
use Rattle.guarded_meaning.proofs.Neighbours.{all_segments}
use Rattle.segment_crossings.specs.Gathering.{lines_in}
use Rattle.segment_crossings.proofs.gathering.stretches_of.Given as goal

-- with those ahead they are all
abbrev pub invariant-arcs : goal.invariant-arcs
invariant-arcs l = flat_map lines_in l.stretches.items ++ filter has_length (all_segments (drop l.arc-index l.arcs)) ≡ filter has_length (all_segments l.arcs)
