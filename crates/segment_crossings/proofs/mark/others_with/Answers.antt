use Rattle.segment_crossings.proofs.mark.others_with.Goals as goal

pub returns-clause-line : goal.returns-clause-line
returns-clause-line c = record { other = _; held = c.extent_with.ensures.position; ends = c.in_ok-other.ensures }

pub returns-clause-kept : goal.returns-clause-kept
returns-clause-kept c = λ t h. let k = rw c.in_ok-others.was at h in record { other = k.other; held = c.extent_with.ensures.kept _ k.held; ends = k.ends }
