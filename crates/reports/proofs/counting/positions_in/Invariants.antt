use Rattle.std.proofs.Common.{◌≡◌, take}
use Rattle.reports.specs.Summaries.{positions_in}
use Rattle.reports.proofs.counting.positions_in.Given as goal

abbrev pub invariant-arcs : goal.invariant-arcs
invariant-arcs l = l.kept ≡ positions_in (take l.arc-index l.arcs)
