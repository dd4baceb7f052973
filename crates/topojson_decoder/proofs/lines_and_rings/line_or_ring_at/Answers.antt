use Rattle.std.proofs.Common.{refl, sym, ap, ◌∙◌}
use Rattle.json_cursor.specs.Arrays.{prefix_value, some_array_by, always}
use Rattle.json_cursor.specs.Folds.{fold}
use Rattle.json_cursor.proofs.Steps.{then_stops}
use Rattle.topojson_meaning.specs.declared.fault.TopoFault.TheVariants.{WrongKind, OpenRing}
use Rattle.topojson_meaning.specs.Reader.{if_some}
use Rattle.topojson_decoder.specs.LinesAndRings.{line_or_ring, with_index, is_open}
use Rattle.topojson_decoder.proofs.Then.{then_faults, then_reads}
use Rattle.topojson_decoder.proofs.LineOrRingParts.{line_or_ring_is, line_or_ring_of, no_index, has_gap, has_none}
use Rattle.topojson_decoder.proofs.lines_and_rings.line_or_ring_at.Goals as goal

pub returns-in-Err : goal.returns-in-Err
returns-in-Err c = then_stops (some_array_by WrongKind (always (fold with_index (no_index c.args.arcs.now)))) (if_some (line_or_ring_of c.args.closed c.args.arcs.now)) (line_or_ring c.args.closed c.args.arcs.now) (prefix_value c.args.depth_left c.args.bytes.now) c.args.counts.now (λ v. line_or_ring_is c.args.arcs.now c.args.closed v c.args.counts.now) c.in-Err.stop (rw c.in_ok-list.ensures.items at c.in-Err.ensures)

pub returns-in_default : goal.returns-in_default
returns-in_default c = then_reads (some_array_by WrongKind (always (fold with_index (no_index c.args.arcs.now)))) (if_some (line_or_ring_of c.args.closed c.args.arcs.now)) (line_or_ring c.args.closed c.args.arcs.now) (prefix_value c.args.depth_left c.args.bytes.now) c.args.counts.now (λ v. line_or_ring_is c.args.arcs.now c.args.closed v c.args.counts.now) _ _ _ (rw (c.in_ok-list.ensures.items, c.in_default.is) at c.in-Ok.ensures) _ _ refl

pub returns-then-is_open : goal.returns-then-is_open
returns-then-is_open c = then_faults (some_array_by WrongKind (always (fold with_index (no_index c.args.arcs.now)))) (if_some (line_or_ring_of c.args.closed c.args.arcs.now)) (line_or_ring c.args.closed c.args.arcs.now) (prefix_value c.args.depth_left c.args.bytes.now) c.args.counts.now (λ v. line_or_ring_is c.args.arcs.now c.args.closed v c.args.counts.now) _ _ _ (rw (c.in_ok-list.ensures.items, c.in-Some.is) at c.in-Ok.ensures) OpenRing
    (has_gap c.args.arcs.now c.args.closed c.in-Some.indexes _ (ap (is_open c.args.closed c.args.arcs.now) (sym (c.deref.ensures.value ∙ ap (λ s. s.1) c.indexes.view_is)) ∙ sym c.if-is_open.ensures))

pub returns-else-is_open : goal.returns-else-is_open
returns-else-is_open c = rw (c.of.ensures, c.shrink_to_fit.ensures.items, ap (λ s. s.1) c.indexes.view_is)
    (then_reads (some_array_by WrongKind (always (fold with_index (no_index c.args.arcs.now)))) (if_some (line_or_ring_of c.args.closed c.args.arcs.now)) (line_or_ring c.args.closed c.args.arcs.now) (prefix_value c.args.depth_left c.args.bytes.now) c.args.counts.now (λ v. line_or_ring_is c.args.arcs.now c.args.closed v c.args.counts.now) _ _ _ (rw (c.in_ok-list.ensures.items, c.in-Some.is) at c.in-Ok.ensures) _ _
    (has_none c.args.arcs.now c.args.closed c.in-Some.indexes _ (ap (is_open c.args.closed c.args.arcs.now) (sym (c.deref.ensures.value ∙ ap (λ s. s.1) c.indexes.view_is)) ∙ sym c.if-is_open.ensures)))
