use Rattle.std.proofs.Common.{List, sym, ap, ◌∙◌}
use Rattle.geometry.specs.Addresses.{part_address}
use Rattle.geometry.specs.Points.{Point}
use Rattle.geometry.specs.Paths.{placed_lines_and_rings}
use Rattle.linework.proofs.Gathered.{with_none, parts_turn}
use Rattle.linework.proofs.gathering.+shapes.Goals as goal
use Rattle.linework.proofs.Placing.{placed_lines_and_rings_at}

pub add_shape-returns-in-Point : goal.add_shape-returns-in-Point
add_shape-returns-in-Point t c = rw (c.in-Point.is, (placed_lines_and_rings_at Point (List Point)).point) (sym (with_none c.args.lines.now))

pub add_shape-returns-in-MultiPoint : goal.add_shape-returns-in-MultiPoint
add_shape-returns-in-MultiPoint t c = rw (c.in-MultiPoint.is, (placed_lines_and_rings_at Point (List Point)).points) (sym (with_none c.args.lines.now))

pub add_shape-returns-in-Line : goal.add_shape-returns-in-Line
add_shape-returns-in-Line t c = rw (c.in-Line.is, (placed_lines_and_rings_at Point (List Point)).line, ← c.as_slice.ensures) c.add_line_or_ring.ensures

pub add_shape-returns-in-Lines : goal.add_shape-returns-in-Lines
add_shape-returns-in-Lines t c = rw (c.in-Lines.is, (placed_lines_and_rings_at Point (List Point)).lines, ← c.as_slice-in-Lines.ensures) c.add_lines.ensures

pub add_shape-returns-in-Area : goal.add_shape-returns-in-Area
add_shape-returns-in-Area t c = rw (c.in-Area.is, (placed_lines_and_rings_at Point (List Point)).area, ← c.as_slice-in-Area.ensures) c.add_rings.ensures

pub add_shape-returns-in-Areas : goal.add_shape-returns-in-Areas
add_shape-returns-in-Areas t c = rw (c.in-Areas.is, (placed_lines_and_rings_at Point (List Point)).areas, ← c.as_slice-in-Areas.ensures) c.add_areas.ensures

pub add_shape-returns-in-Group : goal.add_shape-returns-in-Group
add_shape-returns-in-Group t c = rw (c.in-Group.is, (placed_lines_and_rings_at Point (List Point)).group, ← c.as_slice-in-Group.ensures) c.add_shapes.ensures

pub add_shapes-loop-number-init : goal.add_shapes-loop-number-init
add_shapes-loop-number-init t c = sym (with_none c.args.lines.now)

pub add_shapes-loop-number-preserved : goal.add_shapes-loop-number-preserved
add_shapes-loop-number-preserved t c =
    parts_turn placed_lines_and_rings c.args.address c.args.lines.now c.loop-number.lines c.add_shape.new.lines c.args.shapes.now c.loop-number.number c.index-shapes-number.result
    c.in_ok-part.part (placed_lines_and_rings c.index-shapes-number.result) c.loop-number-test.true c.index-shapes-number.is c.loop-number.invariant (c.in_ok-part.ensures ∙ ap (λ a. part_address a c.loop-number.number) c.in_ok-group.ensures)
    (λ i. placed_lines_and_rings c.index-shapes-number.result) c.in_ok-add_shape.ensures
