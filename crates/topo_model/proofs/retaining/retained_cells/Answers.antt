use Rattle.std.proofs.Common.{length, refl}
use Rattle.std.proofs.lemmas.Option.{slice_get_past, slice_get_read}
use Rattle.topo_model.proofs.Picks.{retained_none, retained_one}
use Rattle.topo_model.proofs.retaining.retained_cells.Goals as goal

pub numbers-preserved-in_default : goal.numbers-preserved-in_default
numbers-preserved-in_default c =
    retained_none c.args.cells.now c.numbers.stay.items c.args.numbers.now c.numbers.number-index 0 c.numbers-test.true
    (slice_get_past c.args.cells.now _ c.in_default.ensures.lookup.3) c.numbers.invariant

pub numbers-preserved : goal.numbers-preserved
numbers-preserved c =
    let found = c.in-Some.ensures.lookup in
    retained_one c.args.cells.now c.numbers.stay.items c.push.new.self.items c.args.numbers.now c.numbers.number-index 0 c.in-Some.cell.now c.numbers-test.true
    (slice_get_read c.args.cells.now (length c.args.cells.now) _ c.in-Some.cell.now refl found.3.0 found.1) c.numbers.invariant c.in_ok-push.ensures.items
