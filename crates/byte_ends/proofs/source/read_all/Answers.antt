-- How many bytes the source gave, and in how many reads, where the limit is passed, or memory is refused.
use Rattle.std.proofs.Common.{arith, inr}
use Rattle.byte_ends.proofs.Reading.{one_more}
use Rattle.byte_ends.proofs.source.read_all.Goals as goal

pub returns-in-Ok-clause-past : goal.returns-in-Ok-clause-past
returns-in-Ok-clause-past g c is =
    let reported = c.in-Ok.ensures in
    let more = one_more _ _ _ c.loop-bytes.bytes.items c.read.new.buf c.in-Ok.n c.loop-bytes.invariant.gave reported.bound.0 reported.bytes.0 in
    inr (more.0, more.1, omega (arith, more.2), omega (arith, more.2), omega (arith, reported.giving.0 (omega arith)))

pub returns-in_err-extend_from_slice-in-Ok-2-clause-within : goal.returns-in_err-extend_from_slice-in-Ok-2-clause-within
returns-in_err-extend_from_slice-in-Ok-2-clause-within g c is =
    let reported = c.in-Ok-2.ensures in
    let more = one_more _ _ _ c.loop-bytes.bytes.items c.read.new.buf c.in-Ok-2.n c.loop-bytes.invariant.gave reported.bound.0 reported.bytes.0 in
    (more.0, more.1, omega (arith, more.2), omega (arith, more.2, reported.giving.0 (omega arith)))
