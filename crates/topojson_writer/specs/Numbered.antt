-- What the types of a feature's parts see to: number texts are numbers, and coordinates are within the bound of a position.
use Rattle.std.specs.Prelude.{List, [], ◌∷◌}
use Rattle.std.specs.List.{AllByRecursion}
use Rattle.json_value.specs.Numbers.{HasNumbers}
use Rattle.geojson_types.specs.declared.layer.FeatureSet.{FeatureSet}
use Rattle.geojson_types.specs.declared.layer.FeatureSet.TheVariants.{One, Many}
use Rattle.geojson_types.specs.Features.{Featured}
use Rattle.geojson_types.specs.Places.{option_points}
use Rattle.geometry.specs.Points.{IsPosition}
use Rattle.topojson_types.specs.Values.{id_members}
use Rattle.topojson_writer.specs.FeatureValues.{Member, properties_value}

-- the numbers of each member's value are numbers
abbrev pub HaveNumbers : List Member → Type 0
HaveNumbers ms = AllByRecursion (λ m. HasNumbers m.1) ms

-- `NumText` sees to the first two, and `Position` to the third
pub record IsNumbered (f : Featured) : Type 0 where
  pub id : HaveNumbers (id_members f.id)
  pub properties : HasNumbers (properties_value f.properties)
  pub positions : AllByRecursion IsPosition (option_points f.shape)

-- the features of a set in order
abbrev pub features_of : FeatureSet → List Featured
features_of (One f) = f ∷ []
features_of (Many fs) = fs
