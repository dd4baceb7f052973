use Rattle.std.proofs.Common.{◌-◌}
use Rattle.effective_area.specs.Counts.{AreasRose, RoseBy}
use Rattle.effective_area.proofs.LinkLaws.{CachedTo}
use Rattle.effective_area.proofs.caching.note_all.Given as goal

-- those so far
abbrev pub invariant-loop-i : goal.invariant-loop-i
invariant-loop-i l = record {
  counted : RoseBy (l.i - 1) 0 l.fn.steps l.steps;
  computed : AreasRose (l.i - 1) l.fn.steps l.steps;
  cached : CachedTo l.arc l.fn.links l.links l.i;
}
