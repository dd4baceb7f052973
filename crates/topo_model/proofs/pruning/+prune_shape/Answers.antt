use Rattle.std.proofs.Common.{◌≡◌, ◌+◌, ◌++◌, ℤ, Bool, List, true, false, map, get_or, append-nil, Some, None, if◌then◌else◌, refl, sym, ap, ◌∙◌}
use Rattle.std.proofs.lemmas.Result.{IfOk-weaker, on_ok_weaker}
use Rattle.geometry.proofs.Moved.{refilled}
use Rattle.geometry.specs.declared.shape.Geometry.{Geometry}
use Rattle.geometry.specs.declared.shape.Geometry.TheVariants as v
use Rattle.geometry.specs.DropCauses.{here, area_drop_causes, drop_causes}
use Rattle.geometry.specs.Lists.{map_some, some_of, unless_empty}
use Rattle.geometry.specs.Paths.{of_parts}
use Rattle.geometry.specs.Points.{Point}
use Rattle.geometry.specs.Pruning.{area_by, prune}
use Rattle.geometry.specs.Addresses.{part_address}
use Rattle.build_meaning.specs.InTurn.{paired, rings_paired}
use Rattle.build_meaning.specs.OuterRings.{along, marked, rings_marked}
use Rattle.build_meaning.specs.Protected.{sparing}
use Rattle.build_meaning.proofs.Marks.{left-point, left-points, left-line, left-lines, left-area, left-areas, left-group}
use Rattle.topo_model.specs.Drops.{pair_sparing}
use Rattle.topo_model.specs.Places.{dropped_at}
use Rattle.topo_model.proofs.Drops as drops
use Rattle.topo_model.proofs.Prefix.{InPrefix, if_none, starts, turns, ends, unvisited}
use Rattle.topo_model.proofs.Pruned.{if_made, left_if_some}
use Rattle.topo_model.proofs.pruning.+prune_shape.Goals.{then-stays, else-stays}
use Rattle.topo_model.proofs.pruning.+prune_shape.Goals as goal

pub shapes-init : goal.shapes-init
shapes-init g t c = record {
  unvisited = (refl, λ k d h. refl);
  walked = starts marked (prune (g.K.Keeps.places c.args.keeps.now) (sparing (g.K.Keeps.keeps c.args.keeps.now))) (λ s. drop_causes (pair_sparing (g.K.Keeps.goes c.args.keeps.now)) (paired s)) (map_some (λ w. w.now) c.args.way) c.args.place
      0 c.as_mut_slice-members.result.now c.args.dropped.now.items;
}

pub shapes-preserved : goal.shapes-preserved
shapes-preserved g t c =
    let left = prune (g.K.Keeps.places c.args.keeps.now) (sparing (g.K.Keeps.keeps c.args.keeps.now)) in
    let why = λ (s : Geometry Point (Bool × List ℤ) (Bool × List ℤ)). drop_causes (pair_sparing (g.K.Keeps.goes c.args.keeps.now)) (paired s) in
    let way = map_some (λ w. w.now) c.args.way in
    let part = map_some (λ w. w.now) c.into_part.result in
    let shape = get_or c.shapes.members c.shapes.i c.index-members-i.result in
    let at = c.in_ok-part-in-Group.ensures ∙ ap (λ a. part_address a c.shapes.i) c.in_ok-group-in-Group.ensures in
    let is = c.in_ok-stays-in-Group.ensures.dropped ∙ ap (λ a. c.shapes.dropped.items ++ dropped_at a (why (marked shape part))) at in
    let turn = turns marked left why way c.args.place 0 c.as_mut_slice-members.result.now c.args.dropped.now.items
    c.shapes.i c.shapes.kept c.shapes.members c.shapes.dropped.items c.prune_shape.new.dropped.items c.index-members-i.result c.prune_shape.new.shape part c.shapes-test.true c.shapes.invariant.walked c.into_part.ensures is c.in_ok-stays-in-Group.stays c.in_ok-stays-in-Group.ensures.left in
    let walked : InPrefix marked left why way c.args.place 0 c.as_mut_slice-members.result.now c.args.dropped.now.items (c.shapes.i + 1) c.if-stays.kept c.if-stays.members c.prune_shape.new.dropped.items =
    elim c.if-stays.branch [ then-stays w ↦ rw (w.members-is, w.kept-is, w.swap.ensures.after) (turn.0 w.if-stays.true) | else-stays w ↦ rw (w.members-is, w.kept-is) (turn.1 w.if-stays.false) ] in
    record {
      unvisited = (walked.long, unvisited c.as_mut_slice-members.result.now c.if-stays.members (c.shapes.i + 1) walked.following);
      walked = walked;
    }

pub returns-in-Point-clause-left : goal.returns-in-Point-clause-left
returns-in-Point-clause-left g t c =
    let place = g.K.Keeps.places c.args.keeps.now in
    rw (c.in-Point.is, v.outs-Point)
    (left-point place (sparing (g.K.Keeps.keeps c.args.keeps.now)) c.in-Point.cell (map_some (λ w. w.now) c.args.way) ∙ ap (λ p. Some (v.Point p)) (sym (c.place.ensures ∙ ap place c.in-Point.cell-is)))

pub returns-in-Point-clause-dropped : goal.returns-in-Point-clause-dropped
returns-in-Point-clause-dropped g t c =
    let why = pair_sparing (g.K.Keeps.goes c.args.keeps.now) in
    let way = map_some (λ w. w.now) c.args.way in
    sym (ap (λ os. c.args.dropped.now.items ++ dropped_at c.args.place os) (ap (drops.gone why way) c.in-Point.is ∙ drops.of_point why way c.in-Point.cell) ∙ append-nil c.args.dropped.now.items)

pub returns-in-MultiPoint-clause-left : goal.returns-in-MultiPoint-clause-left
returns-in-MultiPoint-clause-left g t c =
    let place = g.K.Keeps.places c.args.keeps.now in
    rw (c.in-MultiPoint.is, v.outs-MultiPoint)
    (left-points place (sparing (g.K.Keeps.keeps c.args.keeps.now)) c.in-MultiPoint.cells (map_some (λ w. w.now) c.args.way)
    ∙ ap (λ ps. Some (v.MultiPoint ps)) (sym (refilled place _ c.in-MultiPoint.cells c.place_cells.new.cells refl (c.place_cells.ensures ∙ ap (map place) (c.as_mut_slice.ensures.value ∙ c.in-MultiPoint.cells-is)))))

pub returns-in-MultiPoint-clause-dropped : goal.returns-in-MultiPoint-clause-dropped
returns-in-MultiPoint-clause-dropped g t c =
    let why = pair_sparing (g.K.Keeps.goes c.args.keeps.now) in
    let way = map_some (λ w. w.now) c.args.way in
    sym (ap (λ os. c.args.dropped.now.items ++ dropped_at c.args.place os) (ap (drops.gone why way) c.in-MultiPoint.is ∙ drops.of_points why way c.in-MultiPoint.cells) ∙ append-nil c.args.dropped.now.items)

pub returns-in_ok-add_here-in-Line-clause-left : goal.returns-in_ok-add_here-in-Line-clause-left
returns-in_ok-add_here-in-Line-clause-left g t c =
    let k = g.K.Keeps.keeps c.args.keeps.now in
    rw (c.in-Line.is, v.outs-Line)
    (left-line (g.K.Keeps.places c.args.keeps.now) (sparing k) c.in-Line.refs (map_some (λ w. w.now) c.args.way)
    ∙ ap (map_some v.Line) (ap (k false) (sym c.in-Line.refs-is) ∙ c.keep-cause.ensures.left ∙ if_none c.keep-cause.result c.keep-cause.new.refs c.is_none.result c.is_none.ensures)
    ∙ if_made v.Line c.is_none.result c.keep-cause.new.refs)

pub returns-in_ok-add_here-in-Line-clause-dropped : goal.returns-in_ok-add_here-in-Line-clause-dropped
returns-in_ok-add_here-in-Line-clause-dropped g t c =
    let why = pair_sparing (g.K.Keeps.goes c.args.keeps.now) in
    let way = map_some (λ w. w.now) c.args.way in
    c.in_ok-add_here-in-Line.ensures ∙ ap (λ o. c.args.dropped.now.items ++ dropped_at c.args.place (here o)) (c.keep-cause.ensures.cause ∙ ap (λ l. g.K.Keeps.goes c.args.keeps.now false (None, l)) c.in-Line.refs-is)
    ∙ ap (λ os. c.args.dropped.now.items ++ dropped_at c.args.place os) (sym (ap (drops.gone why way) c.in-Line.is ∙ drops.of_line why way c.in-Line.refs))

pub returns-in_ok-prune_lines-in-Lines-clause-left : goal.returns-in_ok-prune_lines-in-Lines-clause-left
returns-in_ok-prune_lines-in-Lines-clause-left g t c =
    let k = g.K.Keeps.keeps c.args.keeps.now in
    rw (c.in-Lines.is, v.outs-Lines)
    (left-lines (g.K.Keeps.places c.args.keeps.now) (sparing k) c.in-Lines.lines (map_some (λ w. w.now) c.args.way)
    ∙ ap (unless_empty v.Lines) (sym (c.in_ok-prune_lines-in-Lines.ensures.left ∙ ap (some_of (k false)) c.in-Lines.lines-is)) ∙ left_if_some v.Lines c.prune_lines.new.lines c.is_empty.result c.is_empty.ensures)

pub returns-in_ok-prune_lines-in-Lines-clause-dropped : goal.returns-in_ok-prune_lines-in-Lines-clause-dropped
returns-in_ok-prune_lines-in-Lines-clause-dropped g t c =
    let why = pair_sparing (g.K.Keeps.goes c.args.keeps.now) in
    let way = map_some (λ w. w.now) c.args.way in
    c.in_ok-prune_lines-in-Lines.ensures.dropped ∙ ap (λ ls. c.args.dropped.now.items ++ dropped_at c.args.place (of_parts 0 (map (λ l. here (g.K.Keeps.goes c.args.keeps.now false (None, l))) ls))) c.in-Lines.lines-is
    ∙ ap (λ os. c.args.dropped.now.items ++ dropped_at c.args.place os) (sym (ap (drops.gone why way) c.in-Lines.is ∙ drops.of_lines why way c.in-Lines.lines))

pub returns-in-Area-clause-left : goal.returns-in-Area-clause-left
returns-in-Area-clause-left g t c =
    let k = g.K.Keeps.keeps c.args.keeps.now in
    let way = map_some (λ w. w.now) c.args.way in
    rw (c.in-Area.is, v.outs-Area)
    (IfOk-weaker c.prune_rings.result (λ stays. area_by (sparing k true) (rings_marked _ way) ≡ (if stays then Some c.prune_rings.new.rings else None))
    (λ stays. prune (g.K.Keeps.places c.args.keeps.now) (sparing k) (marked (v.Area c.in-Area.rings) way) ≡ (if stays then Some (v.Area c.prune_rings.new.rings) else None))
    (λ stays h. left-area (g.K.Keeps.places c.args.keeps.now) (sparing k) c.in-Area.rings way ∙ ap (map_some v.Area) (ap (λ rs. area_by (sparing k true) (rings_marked rs way)) (sym c.in-Area.rings-is) ∙ h)
    ∙ if_made v.Area stays c.prune_rings.new.rings) c.prune_rings.ensures.left)

pub returns-in-Area-clause-dropped : goal.returns-in-Area-clause-dropped
returns-in-Area-clause-dropped g t c =
    let why = pair_sparing (g.K.Keeps.goes c.args.keeps.now) in
    let way = map_some (λ w. w.now) c.args.way in
    on_ok_weaker c.prune_rings.result
    (λ h. h ∙ ap (λ rs. c.args.dropped.now.items ++ dropped_at c.args.place (area_drop_causes (why true) (rings_paired (rings_marked rs way)))) c.in-Area.rings-is
    ∙ ap (λ os. c.args.dropped.now.items ++ dropped_at c.args.place os) (sym (ap (drops.gone why way) c.in-Area.is ∙ drops.of_area why way c.in-Area.rings))) c.prune_rings.ensures.dropped

pub returns-in_ok-prune_areas-in-Areas-clause-left : goal.returns-in_ok-prune_areas-in-Areas-clause-left
returns-in_ok-prune_areas-in-Areas-clause-left g t c =
    let k = g.K.Keeps.keeps c.args.keeps.now in
    let way = map_some (λ w. w.now) c.args.way in
    rw (c.in-Areas.is, v.outs-Areas)
    (left-areas (g.K.Keeps.places c.args.keeps.now) (sparing k) c.in-Areas.areas way
    ∙ ap (unless_empty v.Areas) (sym (c.in_ok-prune_areas-in-Areas.ensures.left ∙ ap (λ rss. some_of (area_by (sparing k true)) (along rings_marked 0 rss way)) c.in-Areas.areas-is))
    ∙ left_if_some v.Areas c.prune_areas.new.areas c.is_empty-in-Areas.result c.is_empty-in-Areas.ensures)

pub returns-in_ok-prune_areas-in-Areas-clause-dropped : goal.returns-in_ok-prune_areas-in-Areas-clause-dropped
returns-in_ok-prune_areas-in-Areas-clause-dropped g t c =
    let why = pair_sparing (g.K.Keeps.goes c.args.keeps.now) in
    let way = map_some (λ w. w.now) c.args.way in
    c.in_ok-prune_areas-in-Areas.ensures.dropped
    ∙ ap (λ rss. c.args.dropped.now.items ++ dropped_at c.args.place (of_parts 0 (map (λ rs. area_drop_causes (why true) (rings_paired rs)) (along rings_marked 0 rss way)))) c.in-Areas.areas-is
    ∙ ap (λ os. c.args.dropped.now.items ++ dropped_at c.args.place os) (sym (ap (drops.gone why way) c.in-Areas.is ∙ drops.of_areas why way c.in-Areas.areas))

pub returns-after-shapes-clause-left : goal.returns-after-shapes-clause-left
returns-after-shapes-clause-left g t c =
    let k = g.K.Keeps.keeps c.args.keeps.now in
    let left = prune (g.K.Keeps.places c.args.keeps.now) (sparing k) in
    let way = map_some (λ w. w.now) c.args.way in
    let walk = ends marked left (λ s. drop_causes (pair_sparing (g.K.Keeps.goes c.args.keeps.now)) (paired s)) way c.args.place 0 c.as_mut_slice-members.result.now _ c.args.dropped.now.items c.shapes.i c.shapes.kept c.shapes.members c.shapes.dropped.items
    c.as_mut_slice-members.ensures.value c.shapes-test.false c.shapes.invariant.walked in
    rw (c.in-Group.is, v.outs-Group)
    (left-group (g.K.Keeps.places c.args.keeps.now) (sparing k) c.in-Group.shapes way
    ∙ ap (λ ss. Some (v.Group ss)) (sym (c.truncate.ensures ∙ walk.0 ∙ ap (λ ss. some_of left (along marked 0 ss way)) c.in-Group.shapes-is)))

pub returns-after-shapes-clause-dropped : goal.returns-after-shapes-clause-dropped
returns-after-shapes-clause-dropped g t c =
    let k = g.K.Keeps.keeps c.args.keeps.now in
    let goes = pair_sparing (g.K.Keeps.goes c.args.keeps.now) in
    let why = λ (s : Geometry Point (Bool × List ℤ) (Bool × List ℤ)). drop_causes goes (paired s) in
    let way = map_some (λ w. w.now) c.args.way in
    let walk = ends marked (prune (g.K.Keeps.places c.args.keeps.now) (sparing k)) why way c.args.place 0 c.as_mut_slice-members.result.now _ c.args.dropped.now.items c.shapes.i c.shapes.kept c.shapes.members c.shapes.dropped.items
    c.as_mut_slice-members.ensures.value c.shapes-test.false c.shapes.invariant.walked in
    walk.1 ∙ ap (λ ss. c.args.dropped.now.items ++ dropped_at c.args.place (of_parts 0 (map why (along marked 0 ss way)))) c.in-Group.shapes-is
    ∙ ap (λ os. c.args.dropped.now.items ++ dropped_at c.args.place os) (sym (ap (drops.gone goes way) c.in-Group.is ∙ drops.of_group goes way c.in-Group.shapes))
