use Rattle.std.proofs.Common.{◌-◌, ◌*◌, length}
use Rattle.guarded_reduction.proofs.index.refitting.+extent_under.Given as goal

abbrev pub decreases-extent_under : goal.decreases-extent_under
decreases-extent_under l = 2 * length l.positions.now - l.node
