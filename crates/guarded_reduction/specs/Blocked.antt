-- Which places block a corner.
use Rattle.guarded_reduction.specs.declared.index.blocking.Blocked.{Blocked}
use Rattle.guarded_reduction.specs.Blocking.{is_blocked_by}
use Rattle.guarded_reduction.specs.SideBySide.{afters_in, befores_in}
use Rattle.guarded_reduction.specs.Tests.{Test}

abbrev pub blocking : Blocked → Test
blocking b = is_blocked_by b.positions.now (befores_in b.neighbours.now) (afters_in b.neighbours.now) b.corner
