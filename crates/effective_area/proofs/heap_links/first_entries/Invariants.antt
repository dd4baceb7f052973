use Rattle.std.proofs.Common.{◌-◌}
use Rattle.effective_area.specs.Counts.{RoseBy}
use Rattle.effective_area.specs.Links.{HasCorners}
use Rattle.effective_area.proofs.heap_links.first_entries.Given as goal

-- those so far
abbrev pub invariant-loop-i : goal.invariant-loop-i
invariant-loop-i l = record {
  counted : RoseBy 0 (l.i - 1) l.fn.steps l.steps;
  has : HasCorners l.t l.arc l.links l.entries.items l.i;
}
