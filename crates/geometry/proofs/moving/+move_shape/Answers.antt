use Rattle.std.proofs.Common.{◌≢◌, ℕ, ◌+◌, ◌≤◌, map, refl, sym, ap, ◌∙◌, arith, get_or-set_other, length-set}
use Rattle.geometry.specs.declared.shape.Geometry.TheVariants as v
use Rattle.geometry.specs.Moving.{moved}
use Rattle.geometry.proofs.Moved.{starts, turns, ends, refilled}
use Rattle.geometry.proofs.MovedShapes.{moved_at}
use Rattle.geometry.proofs.moving.+move_shape.Goals as goal

-- ---- an index after another

other : (k i : ℕ) → i + 1 ≤ k → k ≢ i
other k i h = omega arith

later : (k i : ℕ) → i + 1 ≤ k → i ≤ k
later k i h = omega arith

-- ---- the goals

pub shapes-init : goal.shapes-init
shapes-init g t c = record { left = (refl, λ k d h. refl); made = starts (moved (g.M.Moves.goes_to c.args.moves.now)) c.as_mut_slice-shape-items.result.now }

pub shapes-preserved : goal.shapes-preserved
shapes-preserved g t c = record {
  left = (
    length-set c.shapes.shape-items c.shapes.shape-index c.move_shape.new.shape ∙ c.shapes.invariant.left.0,
    λ k d h. let ne : k ≢ c.shapes.shape-index = other k c.shapes.shape-index h in rw get_or-set_other (c.shapes.invariant.left.1 k d (later k c.shapes.shape-index h)),
  );
  made = turns (moved (g.M.Moves.goes_to c.args.moves.now)) c.as_mut_slice-shape-items.result.now c.shapes.shape-index c.shapes.shape-items c.shape-item.result _
      c.shapes-test.true c.shapes.invariant.made c.move_shape.ensures;
}

pub returns-in-Point : goal.returns-in-Point
returns-in-Point g t c =
    let f = g.M.Moves.goes_to c.args.moves.now in
    rw (c.in-Point.is, v.outs-Point) (ap v.Point (c.moved.ensures ∙ ap f c.in-Point.position-is) ∙ sym ((moved_at f).point c.in-Point.position))

pub returns-in-MultiPoint : goal.returns-in-MultiPoint
returns-in-MultiPoint g t c =
    let f = g.M.Moves.goes_to c.args.moves.now in
    rw (c.in-MultiPoint.is, v.outs-MultiPoint)
    (ap v.MultiPoint (refilled f _ c.in-MultiPoint.positions c.move_positions.new.positions refl (c.move_positions.ensures ∙ ap (map f) (c.as_mut_slice.ensures.value ∙ c.in-MultiPoint.positions-is)))
    ∙ sym ((moved_at f).points c.in-MultiPoint.positions))

pub returns-in-Line : goal.returns-in-Line
returns-in-Line g t c =
    let f = g.M.Moves.goes_to c.args.moves.now in
    rw (c.in-Line.is, v.outs-Line)
    (ap v.Line (refilled f _ c.in-Line.positions c.move_positions-in-Line.new.positions refl (c.move_positions-in-Line.ensures ∙ ap (map f) (c.as_mut_slice-in-Line.ensures.value ∙ c.in-Line.positions-is)))
    ∙ sym ((moved_at f).line c.in-Line.positions))

pub returns-in-Lines : goal.returns-in-Lines
returns-in-Lines g t c =
    let f = g.M.Moves.goes_to c.args.moves.now in
    rw (c.in-Lines.is, v.outs-Lines)
    (ap v.Lines (refilled (map f) _ c.in-Lines.lines c.move_lines.new.lines refl (c.move_lines.ensures ∙ ap (map (map f)) (c.as_mut_slice-in-Lines.ensures.value ∙ c.in-Lines.lines-is)))
    ∙ sym ((moved_at f).lines c.in-Lines.lines))

pub returns-in-Area : goal.returns-in-Area
returns-in-Area g t c =
    let f = g.M.Moves.goes_to c.args.moves.now in
    rw (c.in-Area.is, v.outs-Area)
    (ap v.Area (refilled (map f) _ c.in-Area.rings c.move_rings.new.rings refl (c.move_rings.ensures ∙ ap (map (map f)) (c.as_mut_slice-in-Area.ensures.value ∙ c.in-Area.rings-is)))
    ∙ sym ((moved_at f).area c.in-Area.rings))

pub returns-in-Areas : goal.returns-in-Areas
returns-in-Areas g t c =
    let f = g.M.Moves.goes_to c.args.moves.now in
    rw (c.in-Areas.is, v.outs-Areas)
    (ap v.Areas (refilled (map (map f)) _ c.in-Areas.areas c.move_areas.new.areas refl (c.move_areas.ensures ∙ ap (map (map (map f))) (c.as_mut_slice-in-Areas.ensures.value ∙ c.in-Areas.areas-is)))
    ∙ sym ((moved_at f).areas c.in-Areas.areas))

pub returns-after-shapes : goal.returns-after-shapes
returns-after-shapes g t c =
    let f = g.M.Moves.goes_to c.args.moves.now in
    rw (c.in-Group.is, v.outs-Group) (ap v.Group (refilled (moved f) _ c.in-Group.shapes c.shapes.shape-items refl
    (ends (moved f) c.as_mut_slice-shape-items.result.now c.shapes.shape-index c.shapes.shape-items c.shapes-test.false c.shapes.invariant.made
    ∙ ap (map (moved f)) (c.as_mut_slice-shape-items.ensures.value ∙ c.in-Group.shapes-is)))
    ∙ sym ((moved_at f).group c.in-Group.shapes))
