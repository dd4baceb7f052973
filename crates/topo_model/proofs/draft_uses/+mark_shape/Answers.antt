use Rattle.std.proofs.Common.{◌≡◌, ℕ, ℤ, suc, ◌+◌, List, Bool, true, false, refl, ap, arith, ◌∙◌}
use Rattle.std.specs.List.{list_any}
use Rattle.geometry.specs.declared.shape.Geometry.{Geometry}
use Rattle.geometry.specs.declared.shape.Geometry.TheVariants as g
use Rattle.geometry.specs.Lists.{map_some}
use Rattle.geometry.specs.Points.{Point}
use Rattle.geometry.specs.Pruning.{area_by, prune, option_lines_and_rings}
use Rattle.build_meaning.specs.OuterRings.{along, into_part, marked, rings_marked}
use Rattle.build_meaning.specs.Protected.{sparing}
use Rattle.topojson_types.specs.Topologies.{TopoShape}
use Rattle.topo_model.specs.ArcUses.{any_uses}
use Rattle.topo_model.specs.DraftUses.{left_names, refs_at_first, rings_name}
use Rattle.topo_model.specs.Marks.{also_set}
use Rattle.topo_model.proofs.DraftUses.{at_kind, at_none, ends, of_area, of_areas, of_group, of_line, of_lines, of_point, of_points, turns}
use Rattle.topo_model.proofs.draft_uses.+mark_shape.Goals as goal

pub shapes-init : goal.shapes-init
shapes-init t c = refl

pub shapes-preserved : goal.shapes-preserved
shapes-preserved t c =
    let k = sparing (refs_at_first (map_some (λ r. r.now) c.args.first)) in
    let way = map_some (λ w. w.now) c.args.way in
    let uses : Geometry Point (Bool × List ℤ) (Bool × List ℤ) → ℕ → Bool = λ s n. any_uses (option_lines_and_rings (prune (λ (p : Point). p) k s)) n in
    let on : c.shapes.i + 1 ≡ suc c.shapes.i = omega arith in
    turns (λ (i : ℕ) (s : TopoShape). uses (marked s (into_part i way))) (λ i s. suc i) (λ i ss n. list_any (λ s. uses s n) (along marked i ss way)) (λ i n. refl) (λ i s ss n. refl)
    c.shapes.i (c.shapes.i + 1) c.shapes.used c.mark_shape.new.used _ c.as_slice-members.result.now c.shapes.i c.index-members-i.result c.shapes-test.true c.index-members-i.is c.shapes.invariant
    (c.mark_shape.ensures ∙ ap (λ w. also_set (uses (marked c.index-members-i.result w)) 0 c.shapes.used) c.into_part.ensures) on

pub returns-in-Point : goal.returns-in-Point
returns-in-Point t c =
    let k = sparing (refs_at_first (map_some (λ r. r.now) c.args.first)) in
    let way = map_some (λ w. w.now) c.args.way in
    at_none k way c.args.shape.now (g.Point c.in-Point.field-0) c.in-Point.is c.args.used.now c.args.used.now (λ n. of_point n k way c.in-Point.field-0)

pub returns-in-MultiPoint : goal.returns-in-MultiPoint
returns-in-MultiPoint t c =
    let k = sparing (refs_at_first (map_some (λ r. r.now) c.args.first)) in
    let way = map_some (λ w. w.now) c.args.way in
    at_none k way c.args.shape.now (g.MultiPoint c.in-MultiPoint.field-0) c.in-MultiPoint.is c.args.used.now c.args.used.now (λ n. of_points n k way c.in-MultiPoint.field-0)

pub returns-in-Line : goal.returns-in-Line
returns-in-Line t c =
    let k = sparing (refs_at_first (map_some (λ r. r.now) c.args.first)) in
    let way = map_some (λ w. w.now) c.args.way in
    at_kind k way c.args.shape.now (g.Line c.in-Line.refs) c.in-Line.is c.args.used.now c.mark_line.new.used (left_names (k false (false, c.in-Line.refs))) (λ n. of_line n k way c.in-Line.refs) c.mark_line.ensures

pub returns-in-Lines : goal.returns-in-Lines
returns-in-Lines t c =
    let k = sparing (refs_at_first (map_some (λ r. r.now) c.args.first)) in
    let way = map_some (λ w. w.now) c.args.way in
    at_kind k way c.args.shape.now (g.Lines c.in-Lines.lines) c.in-Lines.is c.args.used.now c.mark_lines.new.used (λ n. list_any (λ l. left_names (k false (false, l)) n) c.in-Lines.lines) (λ n. of_lines n k way c.in-Lines.lines)
    (c.mark_lines.ensures ∙ ap (λ ls. also_set (λ n. list_any (λ l. left_names (k false (false, l)) n) ls) 0 c.args.used.now) c.as_slice.ensures)

pub returns-in-Area : goal.returns-in-Area
returns-in-Area t c =
    let k = sparing (refs_at_first (map_some (λ r. r.now) c.args.first)) in
    let way = map_some (λ w. w.now) c.args.way in
    at_kind k way c.args.shape.now (g.Area c.in-Area.rings) c.in-Area.is c.args.used.now c.mark_rings.new.used (rings_name (area_by (k true) (rings_marked c.in-Area.rings way))) (λ n. of_area n k way c.in-Area.rings)
    (c.mark_rings.ensures ∙ ap (λ rs. also_set (rings_name (area_by (k true) (rings_marked rs way))) 0 c.args.used.now) c.as_slice-in-Area.ensures)

pub returns-in-Areas : goal.returns-in-Areas
returns-in-Areas t c =
    let k = sparing (refs_at_first (map_some (λ r. r.now) c.args.first)) in
    let way = map_some (λ w. w.now) c.args.way in
    at_kind k way c.args.shape.now (g.Areas c.in-Areas.areas) c.in-Areas.is c.args.used.now c.mark_areas.new.used (λ n. list_any (λ rs. rings_name (area_by (k true) rs) n) (along rings_marked 0 c.in-Areas.areas way)) (λ n. of_areas n k way c.in-Areas.areas)
    (c.mark_areas.ensures ∙ ap (λ rss. also_set (λ n. list_any (λ rs. rings_name (area_by (k true) rs) n) (along rings_marked 0 rss way)) 0 c.args.used.now) c.as_slice-in-Areas.ensures)

pub returns-after-shapes : goal.returns-after-shapes
returns-after-shapes t c =
    let k = sparing (refs_at_first (map_some (λ r. r.now) c.args.first)) in
    let way = map_some (λ w. w.now) c.args.way in
    let uses : Geometry Point (Bool × List ℤ) (Bool × List ℤ) → ℕ → Bool = λ s n. any_uses (option_lines_and_rings (prune (λ (p : Point). p) k s)) n in
    at_kind k way c.args.shape.now (g.Group c.in-Group.shapes) c.in-Group.is c.args.used.now c.shapes.used (λ n. list_any (λ s. uses s n) (along marked 0 c.in-Group.shapes way)) (λ n. of_group n k way c.in-Group.shapes)
    (ends (λ (i : ℕ) (s : TopoShape). uses (marked s (into_part i way))) (λ i s. suc i) (λ i ss n. list_any (λ s. uses s n) (along marked i ss way)) (λ i n. refl) (λ i s ss n. refl)
    c.shapes.i c.shapes.used _ c.as_slice-members.result.now c.shapes.i c.shapes-test.false c.shapes.invariant
    ∙ ap (λ ss. also_set (λ n. list_any (λ s. uses s n) (along marked 0 ss way)) 0 c.args.used.now) c.as_slice-members.ensures)
