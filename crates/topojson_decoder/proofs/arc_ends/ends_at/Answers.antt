use Rattle.std.proofs.Common.{◌≤◌, ap, arith, sym}
use Rattle.json_cursor.specs.Arrays.{array_by, prefix_value}
use Rattle.json_cursor.specs.Folds.{fold}
use Rattle.json_cursor.proofs.Steps.{then_stops}
use Rattle.topojson_meaning.specs.declared.fault.TopoFault.TheVariants.{WrongKind, ShortArc}
use Rattle.topojson_decoder.specs.ArcEnds.{arc_ends, with_end}
use Rattle.topojson_decoder.proofs.Then.{then_faults, then_reads}
use Rattle.topojson_decoder.proofs.ArcEndParts.{arc_ends_is, both_ends, ends_end, enough_ends, few_ends, no_end}
use Rattle.topojson_decoder.proofs.arc_ends.ends_at.Goals as goal

pub returns-in-Err : goal.returns-in-Err
returns-in-Err g c = then_stops (array_by WrongKind (fold with_end (no_end (g.N.NextCell.transform c.args.by)))) ends_end (arc_ends (g.N.NextCell.transform c.args.by)) (prefix_value c.args.depth_left c.args.bytes.now) c.args.counts.now (λ v. arc_ends_is (g.N.NextCell.transform c.args.by) v c.args.counts.now) c.in-Err.stop (rw c.at-origin.ensures at c.in-Err.ensures)

pub returns-then-count-lt2 : goal.returns-then-count-lt2
returns-then-count-lt2 g c = then_faults (array_by WrongKind (fold with_end (no_end (g.N.NextCell.transform c.args.by)))) ends_end (arc_ends (g.N.NextCell.transform c.args.by)) (prefix_value c.args.depth_left c.args.bytes.now) c.args.counts.now (λ v. arc_ends_is (g.N.NextCell.transform c.args.by) v c.args.counts.now) _ _ _ (rw c.at-origin.ensures at c.in-Ok.ensures) ShortArc (few_ends c.in-Ok.read _ (omega (arith, c.if-count-lt2.true, ap (λ s. s.1.1) c.read.view_is)))

pub returns-in_ok-cells-in-Ok : goal.returns-in_ok-cells-in-Ok
returns-in_ok-cells-in-Ok g c =
    let enough : 2 ≤ c.read.inside.count = omega (arith, c.if-count-lt2.false) in
    rw (c.in_ok-cells-in-Ok.ensures, sym (both_ends c.read.inside.count c.read.inside.first c.read.inside.before enough), ap (λ s. s.1) c.read.view_is) (then_reads (array_by WrongKind (fold with_end (no_end (g.N.NextCell.transform c.args.by)))) ends_end (arc_ends (g.N.NextCell.transform c.args.by)) (prefix_value c.args.depth_left c.args.bytes.now) c.args.counts.now (λ v. arc_ends_is (g.N.NextCell.transform c.args.by) v c.args.counts.now) _ _ _ (rw c.at-origin.ensures at c.in-Ok.ensures) _ _ (enough_ends c.in-Ok.read _ (omega (arith, c.if-count-lt2.false, ap (λ s. s.1.1) c.read.view_is))))
