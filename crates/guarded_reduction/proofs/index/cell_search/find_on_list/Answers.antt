use Rattle.std.proofs.Common.{◌≡◌, ◌∙◌, ◌-◌, slice_index, sym, refl, arith}
use Rattle.std.proofs.lemmas.List.{get_or_default}
use Rattle.guarded_reduction.specs.Blocked.{blocking}
use Rattle.guarded_reduction.proofs.Cells.{next_is_on, walk_on}
use Rattle.guarded_reduction.proofs.index.cell_search.find_on_list.Goals as goal

pub places-preserved : goal.places-preserved
places-preserved c =
    let x = c.args.cells.now in
    let on = c.places.invariant.on c.places-test.true in
    let next : c.index-number-in-places.result.now ≡ slice_index x.grid.nexts.items (c.places.number - 1) =
    c.index-number-in-places.ensures ∙ get_or_default _ (c.places.number - 1) _ 0 (omega (arith, c.requires.cells.grid.chained.many, on.within, c.places-test.true)) in
    record {
      on = λ h. (next_is_on x c.args.list c.places.number (c.places.number - 1) c.index-number-in-places.result.now c.requires.cells c.places-test.true refl on next h).1;
      none = walk_on x (blocking c.args.query.now) c.args.list c.places.number (c.places.number - 1) c.index-number-in-places.result.now c.requires.cells c.places-test.true refl on c.places.invariant.none
          (rw (c.deref.ensures.value, c.deref-in-places.ensures.value) at (sym c.is_met_at.ensures ∙ c.if-is_met_at.false)) next;
    }
