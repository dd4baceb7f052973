-- Geometries by their kinds: their values, and their texts in three parts.
use Rattle.std.proofs.Common.{◌≡◌, ℕ, List, ◌++◌, map, refl, ap}
use Rattle.std.specs.Prelude.{codes}
use Rattle.json_value.specs.declared.json.Json.{Json}
use Rattle.json_value.specs.declared.json.Json.TheVariants as j
use Rattle.json_value.specs.Text.{json_text, escaped_byte}
use Rattle.geometry.specs.declared.shape.Geometry.TheVariants as g
use Rattle.geojson_types.specs.Features.{Shape}
use Rattle.geometry.specs.Points.{Point}
use Rattle.geometry.proofs.Induction.{by_kinds}
use Rattle.geometry.proofs.ByKind.{AtKinds, at_kinds}
use Rattle.topojson_writer.specs.FeatureTexts.{head_in, head_text, contents_in, contents_value}
use Rattle.topojson_writer.specs.FeatureValues.{position_value, positions_value, lines_value, polygons_value, shape_step, shape_value}
use Rattle.topojson_writer.proofs.Objects.{object-of_two}

-- ---- the value of each kind

pub shape_value_at : AtKinds shape_value shape_step
shape_value_at = unfold shape_value in at_kinds shape_step

-- ---- the coordinates or the geometries

pub contents-point : (p : Point) → contents_value (g.Point p) ≡ position_value p
contents-point p = unfold contents_value in ap contents_in (g.outs-Point p)

pub contents-points : (ps : List Point) → contents_value (g.MultiPoint ps) ≡ positions_value ps
contents-points ps = unfold contents_value in ap contents_in (g.outs-MultiPoint ps)

pub contents-line : (ps : List Point) → contents_value (g.Line ps) ≡ positions_value ps
contents-line ps = unfold contents_value in ap contents_in (g.outs-Line ps)

pub contents-lines : (ls : List (List Point)) → contents_value (g.Lines ls) ≡ lines_value ls
contents-lines ls = unfold contents_value in ap contents_in (g.outs-Lines ls)

pub contents-area : (rs : List (List Point)) → contents_value (g.Area rs) ≡ lines_value rs
contents-area rs = unfold contents_value in ap contents_in (g.outs-Area rs)

pub contents-areas : (areas : List (List (List Point))) → contents_value (g.Areas areas) ≡ polygons_value areas
contents-areas areas = unfold contents_value in ap contents_in (g.outs-Areas areas)

pub contents-group : (shapes : List Shape) → contents_value (g.Group shapes) ≡ j.Array (map shape_value shapes)
contents-group shapes = unfold contents_value in ap contents_in (g.outs-Group shapes)

-- ---- the text of a geometry: its head, its contents and a brace

-- the claim of one geometry
abbrev InParts : Shape → Type 0
InParts shape = json_text (shape_value shape) ≡ head_text shape ++ (json_text (contents_value shape) ++ codes "}")

in_parts : (shape : Shape) (head : List ℕ) (value contents : Json) → shape_value shape ≡ value → head_text shape ≡ head → contents_value shape ≡ contents
    → json_text value ≡ head ++ (json_text contents ++ codes "}") → InParts shape
in_parts shape head value contents e f h text = rw (e, f, h) text

pub shape-text : (shape : Shape) → json_text (shape_value shape) ≡ head_text shape ++ (json_text (contents_value shape) ++ codes "}")
shape-text = unfold head_text escaped_byte in by_kinds InParts (record {
  point = λ p. in_parts _ _ _ _ (shape_value_at.point p) (ap head_in (g.outs-Point p)) (contents-point p) (object-of_two (codes "Point") (codes "\"Point\"") (codes "coordinates") (codes "\"coordinates\"") (position_value p) refl refl);
  points = λ ps. in_parts _ _ _ _ (shape_value_at.points ps) (ap head_in (g.outs-MultiPoint ps)) (contents-points ps) (object-of_two (codes "MultiPoint") (codes "\"MultiPoint\"") (codes "coordinates") (codes "\"coordinates\"") (positions_value ps) refl refl);
  line = λ ps. in_parts _ _ _ _ (shape_value_at.line ps) (ap head_in (g.outs-Line ps)) (contents-line ps) (object-of_two (codes "LineString") (codes "\"LineString\"") (codes "coordinates") (codes "\"coordinates\"") (positions_value ps) refl refl);
  lines = λ ls. in_parts _ _ _ _ (shape_value_at.lines ls) (ap head_in (g.outs-Lines ls)) (contents-lines ls) (object-of_two (codes "MultiLineString") (codes "\"MultiLineString\"") (codes "coordinates") (codes "\"coordinates\"") (lines_value ls) refl refl);
  area = λ rs. in_parts _ _ _ _ (shape_value_at.area rs) (ap head_in (g.outs-Area rs)) (contents-area rs) (object-of_two (codes "Polygon") (codes "\"Polygon\"") (codes "coordinates") (codes "\"coordinates\"") (lines_value rs) refl refl);
  areas = λ areas. in_parts _ _ _ _ (shape_value_at.areas areas) (ap head_in (g.outs-Areas areas)) (contents-areas areas) (object-of_two (codes "MultiPolygon") (codes "\"MultiPolygon\"") (codes "coordinates") (codes "\"coordinates\"") (polygons_value areas) refl refl);
  group = λ shapes h. in_parts _ _ _ _ (shape_value_at.group shapes) (ap head_in (g.outs-Group shapes)) (contents-group shapes) (object-of_two (codes "GeometryCollection") (codes "\"GeometryCollection\"") (codes "geometries") (codes "\"geometries\"") (j.Array (map shape_value shapes)) refl refl);
})
