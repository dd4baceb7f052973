-- The bytes before `at` were taken and counted, and the device did not fail.
use Rattle.std.proofs.Common.{false, length, ◌-◌, ◌≡◌, ◌<◌, ◌^◌, ◌+◌}
use Rattle.byte_ends.specs.Ends.{Takes, Drained, saturated}
use Rattle.byte_ends.proofs.sink.Sink.put.Given as goal

abbrev pub invariant-loop-at : goal.invariant-loop-at
invariant-loop-at g l =
    let now : Drained = record {
      taken = g.W.Drain.taken l.self-inside.drain;
      sent = l.self-inside.sent;
      failures = g.W.Drain.failures l.self-inside.drain;
      flushed = g.W.Drain.flushed l.self-inside.drain;
    } in
    record { started : l.fn.self.failures ≡ 0; counted : l.count ≡ saturated (l.fn.count + l.at); takes : Takes l.fn.self now l.bytes l.at; sound : now.failures ≡ 0; late : g.W.Drain.late l.self-inside.drain ≡ false; small : l.self-inside.sent < 2 ^ 64 }

abbrev pub decreases-loop-at : goal.decreases-loop-at
decreases-loop-at g l = length l.initial.bytes - l.at
