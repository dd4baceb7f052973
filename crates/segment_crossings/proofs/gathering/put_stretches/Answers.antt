use Rattle.std.proofs.Common.{arith}
use Rattle.std.specs.Prelude.{flat_map}
use Rattle.segment_crossings.specs.Gathering.{lines_in}
use Rattle.segment_crossings.proofs.Gathered.{arc_put}
use Rattle.segment_crossings.proofs.gathering.put_stretches.Goals as goal

pub returns : goal.returns
returns c = arc_put (flat_map lines_in c.loop-first.stretches.items) c.args.arc.now c.loop-first.first _ (omega (arith, c.loop-first-test.false, c.saturating_sub-last.ensures)) c.loop-first.invariant
