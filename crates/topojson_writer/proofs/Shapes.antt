-- Geometries by their kinds: their types, and what they have after it.
use Rattle.std.proofs.Common.{◌≡◌, ℕ, ℤ, List, ◌++◌, map, refl, sym, ap, subst, ◌∙◌}
use Rattle.std.specs.Prelude.{codes}
use Rattle.json_value.specs.declared.json.Json.{Json}
use Rattle.json_value.specs.declared.json.Json.TheVariants as j
use Rattle.json_value.specs.Text.{json_text, quoted, name_text}
use Rattle.json_value.proofs.Texts.{text-text, fused}
use Rattle.geometry.specs.declared.shape.Geometry.TheVariants as g
use Rattle.geometry.specs.Points.{Point}
use Rattle.geometry.proofs.Induction.{by_kinds}
use Rattle.topojson_types.specs.Topologies.{TopoShape}
use Rattle.topojson_types.specs.Values.{Geometrical, typed, inner_value, line_value, lines_value, geometrical}
use Rattle.topojson_types.proofs.ByKind.{geometrical_at}
use Rattle.topojson_writer.specs.Texts.{shape_value, type_text, members_text, parts_name, parts_value}
use Rattle.topojson_writer.proofs.GeometryObjects.{member-alone}

-- ---- the value of each kind

pub is-group : (cell : Point → Json) (shapes : List TopoShape) → geometrical cell (g.Group shapes) ≡ typed (codes "GeometryCollection") (codes "geometries") (j.Array (map (shape_value cell) shapes))
is-group cell shapes = (geometrical_at cell).group shapes
    ∙ ap (λ (vs : List Json). typed (codes "GeometryCollection") (codes "geometries") (j.Array vs)) (fused inner_value (geometrical cell) (λ s. inner_value (geometrical cell s)) (λ s. refl) shapes)

-- ---- the type

pub type-is : (o : Geometrical) (type key : List ℕ) (v : Json) → o ≡ typed type key v → type_text o ≡ codes "{\"type\":" ++ quoted type
unfolding type_text
type-is o type key v e = ap type_text e ∙ ap (λ (text : List ℕ). codes "{\"type\":" ++ text) (text-text type)

-- ---- the name of what is after it

pub name-is : (o : Geometrical) (type key : List ℕ) (v : Json) → o ≡ typed type key v → parts_name o ≡ codes "," ++ name_text key
unfolding parts_name
name-is o type key v e = ap parts_name e

-- ---- its value

pub value-point : (cell : Point → Json) (p : Point) → parts_value (geometrical cell (g.Point p)) ≡ cell p
unfolding parts_value
value-point cell p = ap parts_value ((geometrical_at cell).point p)

pub value-points : (cell : Point → Json) (ps : List Point) → parts_value (geometrical cell (g.MultiPoint ps)) ≡ j.Array (map cell ps)
unfolding parts_value
value-points cell ps = ap parts_value ((geometrical_at cell).points ps)

pub value-line : (cell : Point → Json) (refs : List ℤ) → parts_value (geometrical cell (g.Line refs)) ≡ line_value refs
unfolding parts_value
value-line cell refs = ap parts_value ((geometrical_at cell).line refs)

pub value-lines : (cell : Point → Json) (ls : List (List ℤ)) → parts_value (geometrical cell (g.Lines ls)) ≡ lines_value ls
unfolding parts_value
value-lines cell ls = ap parts_value ((geometrical_at cell).lines ls)

pub value-area : (cell : Point → Json) (rs : List (List ℤ)) → parts_value (geometrical cell (g.Area rs)) ≡ lines_value rs
unfolding parts_value
value-area cell rs = ap parts_value ((geometrical_at cell).area rs)

pub value-areas : (cell : Point → Json) (areas : List (List (List ℤ))) → parts_value (geometrical cell (g.Areas areas)) ≡ j.Array (map lines_value areas)
unfolding parts_value
value-areas cell areas = ap parts_value ((geometrical_at cell).areas areas)

pub value-group : (cell : Point → Json) (shapes : List TopoShape) → parts_value (geometrical cell (g.Group shapes)) ≡ j.Array (map (shape_value cell) shapes)
unfolding parts_value
value-group cell shapes = ap parts_value (is-group cell shapes)

-- ---- a geometry has one member after its type

abbrev HasOne : Geometrical → Type 0
HasOne o = members_text o.parts ≡ parts_name o ++ json_text (parts_value o)

typed-has_one : (type key : List ℕ) (v : Json) → HasOne (typed type key v)
unfolding parts_name parts_value
typed-has_one type key v = member-alone key v

has_one : (o : Geometrical) (type key : List ℕ) (v : Json) → o ≡ typed type key v → HasOne o
has_one o type key v e = subst HasOne (sym e) (typed-has_one type key v)

pub parts-text : (cell : Point → Json) (s : TopoShape) → members_text (geometrical cell s).parts ≡ parts_name (geometrical cell s) ++ json_text (parts_value (geometrical cell s))
parts-text cell = by_kinds (λ s. HasOne (geometrical cell s)) (record {
  point = λ p. has_one _ _ _ _ ((geometrical_at cell).point p);
  points = λ ps. has_one _ _ _ _ ((geometrical_at cell).points ps);
  line = λ refs. has_one _ _ _ _ ((geometrical_at cell).line refs);
  lines = λ ls. has_one _ _ _ _ ((geometrical_at cell).lines ls);
  area = λ rs. has_one _ _ _ _ ((geometrical_at cell).area rs);
  areas = λ areas. has_one _ _ _ _ ((geometrical_at cell).areas areas);
  group = λ shapes h. has_one _ _ _ _ (is-group cell shapes);
})
