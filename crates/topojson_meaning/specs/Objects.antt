-- The objects of a topology by name (TopoJSON 1.0, sections 2.1.5 and 2.2), or the first fault.
use Rattle.std.specs.Prelude.{ℕ, Bool, false, ◌||◌, List, [], ◌∷◌, Option, codes, bytes_eq, if◌then◌else◌}
use Rattle.json_value.specs.declared.json.Json.{Json}
use Rattle.geometry.specs.Points.{Point}
use Rattle.topojson_types.specs.declared.feature.TopoFeature.{TopoFeature}
use Rattle.topojson_types.specs.declared.transform.Transform.{Transform}
use Rattle.topojson_types.specs.declared.object.TopoObject.{TopoObject}
use Rattle.topojson_types.specs.declared.object.TopoObject.TheVariants.{One, Many}
use Rattle.topojson_meaning.specs.declared.fault.TopoFault.TheVariants.{Duplicate}
use Rattle.topojson_meaning.specs.declared.geometry_type.GeometryType.{GeometryType}
use Rattle.topojson_meaning.specs.Features.{feature, feature_element}
use Rattle.topojson_meaning.specs.GeometryTypes.{is_collection, object_type}
use Rattle.topojson_meaning.specs.Members.{Members, need_as, elements, members}
use Rattle.topojson_meaning.specs.Reader.{Reader, ◌>>=◌, give, fail, pure, each}

-- the features of a collection that is an object, by the value of its `geometries`
unfoldable pub features : Option Transform → List (List Point) → Json → Reader (List TopoFeature)
features transform arcs v = do
  vs ← pure (elements v)
  each (feature_element transform arcs) vs

-- a collection with these members is its features
unfoldable pub collection : Option Transform → List (List Point) → Members → Reader TopoObject
collection transform arcs ms = do
  fs ← need_as (codes "geometries") (features transform arcs) ms
  give (Many fs)

-- any other geometry object is one feature
unfoldable pub single : Option Transform → List (List Point) → Option GeometryType → Members → Reader TopoObject
single transform arcs type ms = do
  f ← feature transform arcs type ms
  give (One f)

-- the object that a value is, whose `type` is looked at first
unfoldable pub object : Option Transform → List (List Point) → Json → Reader TopoObject
object transform arcs v = do
  ms ← pure (members v)
  type ← pure (object_type ms)
  if is_collection type then collection transform arcs ms else single transform arcs type ms

-- the name is one of these
abbrev pub is_met : List ℕ → List (List ℕ) → Bool
is_met name [] = false
is_met name (n ∷ ns) = bytes_eq n name || is_met name ns

-- a name that wasn't met before
abbrev pub new_name : List (List ℕ) → List ℕ → Reader (List ℕ)
new_name met name = if is_met name met then fail Duplicate else give name

-- the objects by name in order, after those of the names that were met
unfoldable pub objects_after : Option Transform → List (List Point) → List (List ℕ) → Members → Reader (List (List ℕ × TopoObject))
objects_after transform arcs met [] = give []
objects_after transform arcs met (m ∷ ms) = do
  name ← new_name met m.0
  o ← object transform arcs m.1
  os ← objects_after transform arcs (name ∷ met) ms
  give ((name, o) ∷ os)

-- the objects by name in order
unfoldable pub objects : Option Transform → List (List Point) → Json → Reader (List (List ℕ × TopoObject))
objects transform arcs v = do
  ms ← pure (members v)
  objects_after transform arcs [] ms
