-- The shapes that shapes of a valid topology are decoded to: there is one, and it is of the same kind.
use Rattle.std.proofs.Common.{◌≡◌, ℤ, true, false, List, [], ◌∷◌, map, length, Some, refl, sym, ap, ◌∙◌, arith}
use Rattle.std.proofs.lemmas.List.{take_all}
use Rattle.std.specs.List.{AllByRecursion, list_all}
use Rattle.json_value.specs.declared.json.Json.TheVariants as j
use Rattle.json_value.proofs.Texts.{fused}
use Rattle.geojson_types.specs.Features.{Shape, is_proper}
use Rattle.topojson_writer.specs.FeatureTexts.{head_in, head_text, contents_value}
use Rattle.topojson_writer.specs.FeatureValues.{position_value, positions_value, lines_value, polygons_value, shape_value, geometry_value}
use Rattle.topojson_writer.proofs.ShapeParts.{contents-point, contents-points, contents-line, contents-lines, contents-area, contents-areas, contents-group}
use Rattle.geometry.specs.declared.shape.Geometry.TheVariants as g
use Rattle.geometry.specs.Points.{Point}
use Rattle.geometry.proofs.Induction.{by_kinds}
use Rattle.topojson_types.specs.Topologies.{Contents, TopoShape}
use Rattle.topojson_types.specs.Transforms.{place}
use Rattle.topojson_types.specs.LinesAndRings.{IsShape}
use Rattle.topojson_types.proofs.Decoded.{Decodes, SoFar, point_decodes, points_decode, line_decodes, lines_decode, area_decodes, areas_decode, group_decodes}
use Rattle.topojson_types.proofs.Standing.{group_stands}
use Rattle.topojson_writer.specs.Decoded.{line_in, shape_in}

-- a shape of the same kind that it is decoded to
pub record Shows (t : Contents) (s : TopoShape) : Type 0 where
  pub shape : Shape
  pub decodes : Decodes t s shape
  pub head : head_text s ≡ head_text shape

module _ (t : Contents) where
  abbrev Is : TopoShape → Type 0
  Is s = IsShape t s → Shows t s

  -- what the members of a group are decoded to
  record Members (ss : List TopoShape) : Type 0 where
    shapes : List Shape
    shown : map Some shapes ≡ map (shape_in t) ss
    proper : list_all is_proper shapes ≡ true

  members : (ss : List TopoShape) → AllByRecursion Is ss → AllByRecursion (IsShape t) ss → Members ss
  members [] all is = record { shapes = []; shown = refl; proper = refl }
  members (s ∷ ss) all is =
      let first = all.0 is.0 in
      let rest = members ss all.1 is.1 in
      record { shapes = first.shape ∷ rest.shapes; shown = rw (first.decodes.0, rest.shown) refl; proper = rw (first.decodes.1, rest.proper) refl }

  group_shows : (ss : List TopoShape) → AllByRecursion Is ss → Is (g.Group ss)
  unfolding head_text
  group_shows ss all is =
      let ms = members ss all (group_stands t (g.Group ss) ss refl is) in
      let so : SoFar t ss (length ss) ms.shapes = record { shown = rw (take_all (length ss) ss (omega arith)) ms.shown; proper = ms.proper } in
      record {
        shape = g.Group ms.shapes;
        decodes = group_decodes t (g.Group ss) ss (length ss) ms.shapes ms.shapes refl (omega arith) so refl;
        head = ap head_in (g.outs-Group ss) ∙ sym (ap head_in (g.outs-Group ms.shapes));
      }

  pub shows : (s : TopoShape) → IsShape t s → Shows t s
  unfolding head_text
  shows = by_kinds Is (record {
    point = λ p is. record { shape = g.Point (place t.transform p); decodes = point_decodes t (g.Point p) is p (place t.transform p) refl refl; head = ap head_in (g.outs-Point p) ∙ sym (ap head_in (g.outs-Point (place t.transform p))) };
    points = λ ps is. record { shape = g.MultiPoint (map (place t.transform) ps); decodes = points_decode t (g.MultiPoint ps) is ps _ refl refl; head = ap head_in (g.outs-MultiPoint ps) ∙ sym (ap head_in (g.outs-MultiPoint (map (place t.transform) ps))) };
    line = λ l is. record { shape = g.Line (line_in t false l); decodes = line_decodes t (g.Line l) is l _ refl refl; head = ap head_in (g.outs-Line l) ∙ sym (ap head_in (g.outs-Line (line_in t false l))) };
    lines = λ ls is. record { shape = g.Lines (map (line_in t false) ls); decodes = lines_decode t (g.Lines ls) is ls _ refl refl; head = ap head_in (g.outs-Lines ls) ∙ sym (ap head_in (g.outs-Lines (map (line_in t false) ls))) };
    area = λ rs is. record { shape = g.Area (map (line_in t true) rs); decodes = area_decodes t (g.Area rs) is rs _ refl refl; head = ap head_in (g.outs-Area rs) ∙ sym (ap head_in (g.outs-Area (map (line_in t true) rs))) };
    areas = λ areas is. record { shape = g.Areas (map (map (line_in t true)) areas); decodes = areas_decode t (g.Areas areas) is areas _ refl refl; head = ap head_in (g.outs-Areas areas) ∙ sym (ap head_in (g.outs-Areas (map (map (line_in t true)) areas))) };
    group = group_shows;
  })

-- ---- the coordinates of the shape that a shape is decoded to, or its geometries

values : (ds : List Shape) → map geometry_value (map Some ds) ≡ map shape_value ds
values ds = fused geometry_value Some shape_value (λ d. refl) ds

each : (t : Contents) (ss : List TopoShape) → AllByRecursion (Is t) ss
each t [] = tt
each t (s ∷ ss) = (shows t s, each t ss)

module _ (t : Contents) (s : TopoShape) (is : IsShape t s) (d : Shape) (shown : shape_in t s ≡ Some d) where
  same : (e : Shape) → shape_in t s ≡ Some e → contents_value d ≡ contents_value e
  same e other = let k : d ≡ e = cc in ap contents_value k

  pub point_contents : (p : Point) → s ≡ g.Point p → contents_value d ≡ position_value (place t.transform p)
  point_contents p e = same _ (point_decodes t s is p _ e refl).0 ∙ contents-point _

  pub points_contents : (ps : List Point) → s ≡ g.MultiPoint ps → contents_value d ≡ positions_value (map (place t.transform) ps)
  points_contents ps e = same _ (points_decode t s is ps _ e refl).0 ∙ contents-points _

  pub line_contents : (l : List ℤ) → s ≡ g.Line l → contents_value d ≡ positions_value (line_in t false l)
  line_contents l e = same _ (line_decodes t s is l _ e refl).0 ∙ contents-line _

  pub lines_contents : (ls : List (List ℤ)) → s ≡ g.Lines ls → contents_value d ≡ lines_value (map (line_in t false) ls)
  lines_contents ls e = same _ (lines_decode t s is ls _ e refl).0 ∙ contents-lines _

  pub area_contents : (rs : List (List ℤ)) → s ≡ g.Area rs → contents_value d ≡ lines_value (map (line_in t true) rs)
  area_contents rs e = same _ (area_decodes t s is rs _ e refl).0 ∙ contents-area _

  pub areas_contents : (areas : List (List (List ℤ))) → s ≡ g.Areas areas → contents_value d ≡ polygons_value (map (map (line_in t true)) areas)
  areas_contents areas e = same _ (areas_decode t s is areas _ e refl).0 ∙ contents-areas _

  pub group_contents : (ss : List TopoShape) → s ≡ g.Group ss → contents_value d ≡ j.Array (map (λ m. geometry_value (shape_in t m)) ss)
  group_contents ss e =
      let ms = members t ss (each t ss) (group_stands t s ss e is) in
      let so : SoFar t ss (length ss) ms.shapes = record { shown = rw (take_all (length ss) ss (omega arith)) ms.shown; proper = ms.proper } in
      same _ (group_decodes t s ss (length ss) ms.shapes ms.shapes e (omega arith) so refl).0 ∙ contents-group ms.shapes
      ∙ ap (λ vs. j.Array vs) (sym (values ms.shapes) ∙ ap (map geometry_value) ms.shown ∙ fused geometry_value (shape_in t) _ (λ m. refl) ss)
