use Rattle.std.proofs.Common.{ap, refl}
use Rattle.json_cursor.specs.Arrays.{array_by, prefix_value}
use Rattle.json_cursor.specs.Folds.{fold}
use Rattle.json_cursor.proofs.Steps.{then_stops}
use Rattle.topojson_meaning.specs.declared.fault.TopoFault.TheVariants.{WrongKind}
use Rattle.topojson_decoder.specs.ArcEnds.{arc_ends_list, with_arc_ends}
use Rattle.topojson_decoder.proofs.Then.{then_reads}
use Rattle.topojson_decoder.proofs.ArcEndParts.{arc_ends_list_is, arcs_end, no_arc_ends}
use Rattle.topojson_decoder.proofs.arc_ends.arc_ends_by.Goals as goal

pub returns-in-Err : goal.returns-in-Err
returns-in-Err g c = then_stops (array_by WrongKind (fold with_arc_ends (no_arc_ends (g.N.NextCell.transform c.args.by)))) arcs_end (arc_ends_list (g.N.NextCell.transform c.args.by)) (prefix_value c.args.depth_left c.args.bytes.now) c.args.counts.now (λ v. arc_ends_list_is (g.N.NextCell.transform c.args.by) v c.args.counts.now) c.in-Err.stop (rw c.new-list.ensures.items at c.in-Err.ensures)

pub returns-in-Ok : goal.returns-in-Ok
returns-in-Ok g c = rw (c.of.ensures, c.shrink_to_fit.ensures.items, ap (λ s. s.1.0) c.read.view_is, ap (λ s. s.1.1) c.read.view_is) (then_reads (array_by WrongKind (fold with_arc_ends (no_arc_ends (g.N.NextCell.transform c.args.by)))) arcs_end (arc_ends_list (g.N.NextCell.transform c.args.by)) (prefix_value c.args.depth_left c.args.bytes.now) c.args.counts.now (λ v. arc_ends_list_is (g.N.NextCell.transform c.args.by) v c.args.counts.now) _ _ _ (rw c.new-list.ensures.items at c.in-Ok.ensures) _ _ refl)
