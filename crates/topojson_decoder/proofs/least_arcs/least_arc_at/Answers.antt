use Rattle.std.proofs.Common.{◌∙◌, refl, arith}
use Rattle.json_cursor.proofs.Openings.{first_byte}
use Rattle.unit_scanning.proofs.NumberParts.{ends_are}
use Rattle.topojson_decoder.proofs.LeastArcs.{arc_reads, no_longer, text_is}
use Rattle.topojson_decoder.proofs.least_arcs.least_arc_at.Goals as goal

pub overflow_sub-bytes : goal.overflow_sub-bytes
overflow_sub-bytes c = no_longer c.args.bytes.now _ _ _ (first_byte 91 _ _ c.in-Some.ensures) (rw c.in-Some-2.is at c.in_ok-rest.ensures)

pub returns-clause-reads : goal.returns-clause-reads
returns-clause-reads c = arc_reads c.args.bytes.now _ _ _ (first_byte 91 _ _ c.in-Some.ensures) (rw c.in-Some-2.is at c.in_ok-rest.ensures) c.args.depth_left c.if-depth_left-lt2.false (ends_are _ (c.if-not-is_marked.ensures refl)) (omega (arith, c.if-len-lt2.false, c.len.ensures, c.least_positions_at.new.list.ok))

pub returns-clause-text : goal.returns-clause-text
returns-clause-text c = c.split_at.ensures.front ∙ text_is c.args.bytes.now _ _ _ (first_byte 91 _ _ c.in-Some.ensures) (rw c.in-Some-2.is at c.in_ok-rest.ensures)
