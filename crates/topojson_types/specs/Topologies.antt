-- What contracts see of a topology, and its lines.
use Rattle.std.specs.Prelude.{ℕ, ℤ, Bool, List, [], ◌∷◌, Option, map}
use Rattle.geometry.specs.declared.shape.Geometry.{Geometry}
use Rattle.geometry.specs.Lists.{joined}
use Rattle.geometry.specs.Points.{Point}
use Rattle.geometry.specs.Pruning.{option_lines_and_rings}
use Rattle.topojson_types.specs.declared.feature.TopoFeature.{TopoFeature}
use Rattle.topojson_types.specs.declared.object.TopoObject.{TopoObject}
use Rattle.topojson_types.specs.declared.object.TopoObject.TheVariants.{One, Many}
use Rattle.topojson_types.specs.declared.transform.Transform.{Transform}

-- a geometry over cells, where a line and a ring are lists of arc indexes
abbrev pub TopoShape : Type 0
TopoShape = Geometry Point (List ℤ) (List ℤ)

-- the objects by name, in order, the arcs as their cells, and the transform by which cells lie in the plane
pub record Contents : Type 0 where
  pub objects : List (List ℕ × TopoObject)
  pub arcs : List (List Point)
  pub transform : Option Transform

-- the features of an object
abbrev pub object_features : TopoObject → List TopoFeature
object_features (One f) = f ∷ []
object_features (Many fs) = fs

-- the open lines (false) and the rings (true) of features, as their arc indexes, in reading order
abbrev pub features_lines_and_rings : List TopoFeature → List (Bool × List ℤ)
features_lines_and_rings fs = joined (map (λ f. option_lines_and_rings f.shape) fs)

-- the open lines (false) and the rings (true) of all objects, as their arc indexes, in reading order
abbrev pub objects_lines_and_rings : List (List ℕ × TopoObject) → List (Bool × List ℤ)
objects_lines_and_rings os = joined (map (λ o. features_lines_and_rings (object_features o.1)) os)
