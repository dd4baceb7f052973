use Rattle.std.proofs.Common.{◌≡◌, length}
use Rattle.guarded_reduction.specs.Cells.{AreChained}
use Rattle.guarded_reduction.proofs.index.cell_lists.put_on_lists.Given as goal

-- the places so far are on their lists
abbrev pub invariant-places : goal.invariant-places
invariant-places l = record {
  many : length l.firsts ≡ length l.fn.firsts;
  chained : AreChained l.bits l.mask l.positions l.present l.firsts l.nexts.items l.place;
}
