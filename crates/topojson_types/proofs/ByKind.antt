-- The equations of the definitions over the kinds of a topology's geometry.
use Rattle.std.proofs.Common.{◌≡◌, List, ◌∙◌}
use Rattle.std.proofs.lemmas.List.Folds.{list_all-map}
use Rattle.std.specs.List.{list_all}
use Rattle.json_value.specs.declared.json.Json.{Json}
use Rattle.geometry.specs.declared.shape.Geometry.TheVariants as g
use Rattle.geometry.specs.Points.{Point}
use Rattle.geometry.proofs.ByKind.{AtKinds, at_kinds}
use Rattle.topojson_types.specs.Topologies.{TopoShape}
use Rattle.topojson_types.specs.Validity.{full_step, is_full, places_step, places, single_step, is_single}
use Rattle.topojson_types.specs.Values.{geometrical_step, geometrical}

-- whether a shape is full
pub full_at : AtKinds is_full full_step
unfolding is_full
full_at = at_kinds full_step

pub full-group : (ts : List TopoShape) → is_full (g.Group ts) ≡ list_all is_full ts
full-group ts = full_at.group ts ∙ list_all-map (λ b. b) is_full ts

-- the cells of its Points and MultiPoints
pub places_at : AtKinds places places_step
unfolding places
places_at = at_kinds places_step

-- whether a shape is no Group
pub single_at : AtKinds is_single single_step
unfolding is_single
single_at = at_kinds single_step

-- what a shape is written as, where `cell` is how cells are
pub geometrical_at : (cell : Point → Json) → AtKinds (geometrical cell) (geometrical_step cell)
unfolding geometrical
geometrical_at cell = at_kinds (geometrical_step cell)
