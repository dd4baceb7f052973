use Rattle.std.proofs.Common.{◌<◌, length, arith}
use Rattle.std.specs.Str.{is_utf8}
use Rattle.json_value.specs.Reading.{value_at}
use Rattle.json_cursor.proofs.Lists.{no_turn}
use Rattle.json_cursor.proofs.LedParts as part
use Rattle.json_cursor.proofs.elements.led_at.Goals as goal

pub returns-then-turns-eq0 : goal.returns-then-turns-eq0
returns-then-turns-eq0 g c = no_turn (value_at is_utf8 c.args.depth_left) (length c.args.inside.now) c.args.inside.now c.if-turns-eq0.true

pub returns-in-Err : goal.returns-in-Err
returns-in-Err g c =
    let some : 0 < length c.args.inside.now = omega (arith, c.if-turns-eq0.false) in
    part.leader_stops (g.E.Element.reads c.args.reader) (value_at is_utf8 c.args.depth_left) (length c.args.inside.now) c.args.inside.now some c.args.counts.now c.in-Err.stop (rw c.skip.ensures at c.in-Err.ensures)

pub returns-in-Neither : goal.returns-in-Neither
returns-in-Neither g c =
    let some : 0 < length c.args.inside.now = omega (arith, c.if-turns-eq0.false) in
    part.leader_breaks (g.E.Element.reads c.args.reader) (value_at is_utf8 c.args.depth_left) (length c.args.inside.now) c.args.inside.now some c.args.counts.now c.in-Ok.first c.in-Ok.following.now c.read.new.counts (rw c.skip.ensures at c.in-Ok.ensures)
    (rw c.in-Neither.is at c.mark_at-mark.ensures)

pub returns-in-Close : goal.returns-in-Close
returns-in-Close g c =
    let some : 0 < length c.args.inside.now = omega (arith, c.if-turns-eq0.false) in
    rw (c.led.ensures, c.is_some-leads.ensures, c.in_ok-alone-in-Close.ensures)
    (part.leader_ends (g.E.Element.reads c.args.reader) (value_at is_utf8 c.args.depth_left) (length c.args.inside.now) c.args.inside.now some c.args.counts.now c.in-Ok.first c.in-Ok.following.now c.read.new.counts (rw c.skip.ensures at c.in-Ok.ensures)
    _ (rw c.in-Close.is at c.mark_at-mark.ensures))

pub returns-in-Err-folded_at : goal.returns-in-Err-folded_at
returns-in-Err-folded_at g c =
    let some : 0 < length c.args.inside.now = omega (arith, c.if-turns-eq0.false) in
    part.led_stops (g.E.Element.reads c.args.reader) (value_at is_utf8 c.args.depth_left) (length c.args.inside.now) c.args.inside.now some c.args.counts.now c.in-Ok.first c.in-Ok.following.now c.read.new.counts (rw c.skip.ensures at c.in-Ok.ensures)
    _ (rw c.in-Comma.is at c.mark_at-mark.ensures) c.in-Err-folded_at.stopped.stop (rw c.in_ok-before-in-Comma.ensures at c.in-Err-folded_at.ensures.answers)

pub returns : goal.returns
returns g c =
    let some : 0 < length c.args.inside.now = omega (arith, c.if-turns-eq0.false) in
    rw (c.led-in-Ok-folded_at.ensures, c.is_some-leads.ensures)
    (part.leader_reads (g.E.Element.reads c.args.reader) (value_at is_utf8 c.args.depth_left) (length c.args.inside.now) c.args.inside.now some c.args.counts.now c.in-Ok.first c.in-Ok.following.now c.read.new.counts (rw c.skip.ensures at c.in-Ok.ensures)
    _ (rw c.in-Comma.is at c.mark_at-mark.ensures) _ _ _ (rw c.in_ok-before-in-Comma.ensures at c.in-Ok-folded_at.ensures.answers))
