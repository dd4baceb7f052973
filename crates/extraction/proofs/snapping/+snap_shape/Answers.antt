use Rattle.std.proofs.Common.{◌≢◌, ℕ, ◌+◌, ◌≤◌, map, refl, sym, ap, ◌∙◌, arith, get_or-set_other, length-set}
use Rattle.geometry.specs.declared.shape.Geometry.TheVariants as v
use Rattle.geometry.proofs.Moved.{starts, turns, ends, refilled}
use Rattle.grid_snap.specs.Snapping.{snapped_if_covered}
use Rattle.extraction.specs.Snapped.{repointed}
use Rattle.extraction.proofs.Snapped.{repointed_at, stays_lined}
use Rattle.extraction.proofs.snapping.+snap_shape.Goals as goal

-- ---- an index after another

other : (k i : ℕ) → i + 1 ≤ k → k ≢ i
other k i h = omega arith

later : (k i : ℕ) → i + 1 ≤ k → i ≤ k
later k i h = omega arith

-- ---- the goals

pub shapes-init : goal.shapes-init
shapes-init t c = record { left = (refl, λ k d h. refl); made = starts (repointed (snapped_if_covered c.args.grid.now)) c.as_mut_slice-shape-items.result.now }

pub shapes-preserved : goal.shapes-preserved
shapes-preserved t c = record {
  left = (
    length-set c.shapes.shape-items c.shapes.shape-index c.snap_shape.new.shape ∙ c.shapes.invariant.left.0,
    λ k d h. let ne : k ≢ c.shapes.shape-index = other k c.shapes.shape-index h in rw get_or-set_other (c.shapes.invariant.left.1 k d (later k c.shapes.shape-index h)),
  );
  made = turns (repointed (snapped_if_covered c.args.grid.now)) c.as_mut_slice-shape-items.result.now c.shapes.shape-index c.shapes.shape-items c.shape-item.result _
      c.shapes-test.true c.shapes.invariant.made c.snap_shape.ensures;
}

pub returns-in-Point : goal.returns-in-Point
returns-in-Point t c =
    let f = snapped_if_covered c.args.grid.now in
    rw (c.in-Point.is, v.outs-Point) (ap v.Point (c.snapped_cell.ensures ∙ ap f c.in-Point.cell-is) ∙ sym ((repointed_at f).point c.in-Point.cell))

pub returns-in-MultiPoint : goal.returns-in-MultiPoint
returns-in-MultiPoint t c =
    let f = snapped_if_covered c.args.grid.now in
    rw (c.in-MultiPoint.is, v.outs-MultiPoint)
    (ap v.MultiPoint (refilled f _ c.in-MultiPoint.cells c.snap_cells.new.cells refl (c.snap_cells.ensures ∙ ap (map f) (c.as_mut_slice.ensures.value ∙ c.in-MultiPoint.cells-is)))
    ∙ sym ((repointed_at f).points c.in-MultiPoint.cells))

pub returns-after-shapes : goal.returns-after-shapes
returns-after-shapes t c =
    let f = snapped_if_covered c.args.grid.now in
    rw (c.in-Group.is, v.outs-Group) (ap v.Group (refilled (repointed f) _ c.in-Group.shapes c.shapes.shape-items refl
    (ends (repointed f) c.as_mut_slice-shape-items.result.now c.shapes.shape-index c.shapes.shape-items c.shapes-test.false c.shapes.invariant.made
    ∙ ap (map (repointed f)) (c.as_mut_slice-shape-items.ensures.value ∙ c.in-Group.shapes-is)))
    ∙ sym ((repointed_at f).group c.in-Group.shapes))

pub returns-in-Line : goal.returns-in-Line
returns-in-Line t c =
    let f = snapped_if_covered c.args.grid.now in
    stays_lined f c.args.shape.now _ c.in-Line.is ((repointed_at f).line c.in-Line.field-0)

pub returns-in-Lines : goal.returns-in-Lines
returns-in-Lines t c =
    let f = snapped_if_covered c.args.grid.now in
    stays_lined f c.args.shape.now _ c.in-Lines.is ((repointed_at f).lines c.in-Lines.field-0)

pub returns-in-Area : goal.returns-in-Area
returns-in-Area t c =
    let f = snapped_if_covered c.args.grid.now in
    stays_lined f c.args.shape.now _ c.in-Area.is ((repointed_at f).area c.in-Area.field-0)

pub returns-in-Areas : goal.returns-in-Areas
returns-in-Areas t c =
    let f = snapped_if_covered c.args.grid.now in
    stays_lined f c.args.shape.now _ c.in-Areas.is ((repointed_at f).areas c.in-Areas.field-0)
