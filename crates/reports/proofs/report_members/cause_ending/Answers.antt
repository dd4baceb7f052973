use Rattle.std.proofs.Common.{refl}
use Rattle.reports.proofs.Objects.{collapsed-text, small-text, outer-text}
use Rattle.reports.proofs.report_members.cause_ending.Goals as goal

pub returns-in-Collapsed : goal.returns-in-Collapsed
returns-in-Collapsed c = rw c.in-Collapsed.is (rw collapsed-text refl)

pub returns-in-Small : goal.returns-in-Small
returns-in-Small c = rw c.in-Small.is (rw small-text refl)

pub returns-in-Outer : goal.returns-in-Outer
returns-in-Outer c = rw c.in-Outer.is (rw outer-text refl)
