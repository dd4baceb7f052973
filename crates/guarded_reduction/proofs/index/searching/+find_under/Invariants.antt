use Rattle.std.proofs.Common.{◌-◌, ◌*◌, length}
use Rattle.guarded_reduction.proofs.index.searching.+find_under.Given as goal

abbrev pub decreases-find_under : goal.decreases-find_under
decreases-find_under l = 2 * length l.index.now.positions.items - l.node
