use Rattle.std.proofs.Common.{ap, refl}
use Rattle.json_cursor.specs.Arrays.{array_by}
use Rattle.json_cursor.specs.Folds.{fold}
use Rattle.json_cursor.proofs.Steps.{then_stops}
use Rattle.topojson_meaning.specs.declared.fault.TopoFault.TheVariants.{WrongKind}
use Rattle.topojson_meaning.specs.Arcs.{arc_list}
use Rattle.topojson_decoder.specs.Cells.{with_arc}
use Rattle.topojson_decoder.proofs.Then.{then_reads}
use Rattle.topojson_decoder.proofs.ArcParts.{arcs_are, arcs_of, no_arc}
use Rattle.topojson_decoder.proofs.arcs.arcs_alone.Goals as goal

pub returns-in-Err : goal.returns-in-Err
returns-in-Err g c transform prefix old new h = then_stops (array_by WrongKind (fold with_arc (no_arc transform))) arcs_of (arc_list transform) prefix old (λ v. arcs_are transform v old) c.in-Err.stop (rw c.in-Err.is at h)

pub returns-in-Ok : goal.returns-in-Ok
returns-in-Ok g c transform prefix old new h = rw (c.shrink_to_fit.ensures, ap (λ s. s.1) c.read.view_is)
    (then_reads (array_by WrongKind (fold with_arc (no_arc transform))) arcs_of (arc_list transform) prefix old (λ v. arcs_are transform v old) _ _ _ (rw c.in-Ok.is at h) _ _ refl)
