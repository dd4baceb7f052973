use Rattle.std.proofs.Common.{ap, length, arith}
use Rattle.json_cursor.specs.Arrays.{array_by, prefix_value}
use Rattle.json_cursor.specs.Folds.{fold}
use Rattle.json_cursor.proofs.Steps.{then_stops}
use Rattle.topojson_meaning.specs.declared.fault.TopoFault.TheVariants.{WrongKind, ShortArc}
use Rattle.topojson_meaning.specs.Arcs.{arc}
use Rattle.topojson_decoder.specs.Cells.{with_cell}
use Rattle.topojson_decoder.proofs.Then.{then_faults, then_reads}
use Rattle.topojson_decoder.proofs.ArcParts.{arc_is, arc_of, no_cell, short_arc, long_arc}
use Rattle.topojson_decoder.proofs.arcs.arc_through.Goals as goal

pub returns-in-Err : goal.returns-in-Err
returns-in-Err g c = then_stops (array_by WrongKind (fold with_cell (no_cell (g.N.NextCell.transform c.args.by)))) arc_of (arc (g.N.NextCell.transform c.args.by)) (prefix_value c.args.depth_left c.args.bytes.now) c.args.counts.now (λ v. arc_is (g.N.NextCell.transform c.args.by) v c.args.counts.now) c.in-Err.stop (rw (c.at.ensures, c.clear.ensures.items) at c.in-Err.ensures)

pub returns-then-len-lt2 : goal.returns-then-len-lt2
returns-then-len-lt2 g c = then_faults (array_by WrongKind (fold with_cell (no_cell (g.N.NextCell.transform c.args.by)))) arc_of (arc (g.N.NextCell.transform c.args.by)) (prefix_value c.args.depth_left c.args.bytes.now) c.args.counts.now (λ v. arc_is (g.N.NextCell.transform c.args.by) v c.args.counts.now) _ _ _ (rw (c.at.ensures, c.clear.ensures.items) at c.in-Ok.ensures) ShortArc (short_arc c.in-Ok.read _ (omega (arith, c.if-len-lt2.true, c.len.ensures, c.read.inside.list.ok, ap (λ s. length s.1) c.read.view_is)))

pub returns-in_ok-both-in-Ok : goal.returns-in_ok-both-in-Ok
returns-in_ok-both-in-Ok g c = rw (c.in_ok-both-in-Ok.ensures, ap (λ s. s.1) c.read.view_is) (then_reads (array_by WrongKind (fold with_cell (no_cell (g.N.NextCell.transform c.args.by)))) arc_of (arc (g.N.NextCell.transform c.args.by)) (prefix_value c.args.depth_left c.args.bytes.now) c.args.counts.now (λ v. arc_is (g.N.NextCell.transform c.args.by) v c.args.counts.now) _ _ _ (rw (c.at.ensures, c.clear.ensures.items) at c.in-Ok.ensures) _ _ (long_arc c.in-Ok.read _ (omega (arith, c.if-len-lt2.false, c.len.ensures, c.read.inside.list.ok, ap (λ s. length s.1) c.read.view_is))))
