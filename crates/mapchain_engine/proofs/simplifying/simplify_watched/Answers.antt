use Rattle.std.proofs.lemmas.Result.{err_from_is_err_and}
use Rattle.mapchain_engine.proofs.SimplifyDecided.{fault_follows, simplified_follows}
use Rattle.mapchain_engine.proofs.Whole.{cut_short, not_given, sent_whole}
use Rattle.mapchain_engine.proofs.simplifying.simplify_watched.Goals as goal

pub returns-in_err-less-clause-decided : goal.returns-in_err-less-clause-decided
returns-in_err-less-clause-decided g c bytes outcome left comes =
    let p = err_from_is_err_and c.from_residual.result c.from_residual.ensures.1 in
    rw (p.1, p.2)
    (fault_follows c.args.sink.now c.args.sink.now c.args.guards c.args.level c.args.ring_limit c.args.source.now c.read_and_simplify.new.source bytes left outcome comes _
    (not_given c.args.guards c.args.level c.args.ring_limit c.args.source.now c.read_and_simplify.new.source c.args.sink.now _ c.in_err-less.ensures.refused))

pub returns-in-Err-clause-decided : goal.returns-in-Err-clause-decided
returns-in-Err-clause-decided g c bytes outcome left comes =
    fault_follows c.args.sink.now c.send-sent.new.sink c.args.guards c.args.level c.args.ring_limit c.args.source.now c.read_and_simplify.new.source bytes left outcome comes _
    (cut_short c.args.guards c.args.level c.args.ring_limit c.args.source.now c.read_and_simplify.new.source c.args.sink.now c.send-sent.new.sink c.in_ok-less.less c.in_ok-less.report c.in_ok-less.ensures.given _ (rw c.in-Err.is at c.send-sent.ensures))

pub returns-in-Ok-clause-written : goal.returns-in-Ok-clause-written
returns-in-Ok-clause-written g c =
    sent_whole c.args.guards c.args.level c.args.ring_limit c.args.source.now c.read_and_simplify.new.source c.args.sink.now c.send-sent.new.sink c.in_ok-less.less c.in_ok-less.report c.in_ok-less.ensures.given c.simplified_text_is_utf8.ensures c.left_law.ensures c.share_stays.ensures c.topology_is_valid.ensures c.requires.level _ (rw c.in-Ok.is at c.send-sent.ensures)

pub returns-in-Ok-clause-decided : goal.returns-in-Ok-clause-decided
returns-in-Ok-clause-decided g c bytes outcome left comes =
    simplified_follows c.args.sink.now c.send-sent.new.sink c.args.guards c.args.level c.args.ring_limit c.args.source.now c.read_and_simplify.new.source bytes left outcome comes c.in_ok-less.report
    (sent_whole c.args.guards c.args.level c.args.ring_limit c.args.source.now c.read_and_simplify.new.source c.args.sink.now c.send-sent.new.sink c.in_ok-less.less c.in_ok-less.report c.in_ok-less.ensures.given c.simplified_text_is_utf8.ensures c.left_law.ensures c.share_stays.ensures c.topology_is_valid.ensures c.requires.level _ (rw c.in-Ok.is at c.send-sent.ensures))
