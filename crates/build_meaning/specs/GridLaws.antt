-- What is true of layers and topologies on a grid, and without one.
use Rattle.std.specs.Prelude.{◌≡◌, ℕ, ◌+◌, ◌≤◌, max, List, Option, None, Some, length, map}
use Rattle.std.specs.List.{AllByRecursion}
use Rattle.build_meaning.specs.Built.{built}
use Rattle.build_meaning.specs.Expected.{expected}
use Rattle.build_meaning.specs.BuiltLaws.{AreSound}
use Rattle.build_meaning.specs.Layers.{Named, names_of}
use Rattle.geojson_types.specs.declared.layer.FeatureSet.TheVariants as set
use Rattle.geojson_types.specs.Features.{Featured}
use Rattle.geojson_types.specs.Nesting.{option_nesting, properties_nesting, feature_nesting}
use Rattle.geojson_types.specs.Numbers.{IdHasNumbers, PropertiesHaveNumbers, FeatureHasNumbers}
use Rattle.geojson_types.specs.Texts.{IdHasTexts, PropertiesHaveTexts, FeatureHasTexts}
use Rattle.geometry.specs.Lists.{joined}
use Rattle.grid_snap.specs.Axes.{Axes}
use Rattle.build_meaning.specs.Celled.{EachCell}
use Rattle.topojson_types.specs.declared.feature.TopoFeature.{TopoFeature}
use Rattle.topojson_types.specs.Decoding.{decoded}
use Rattle.topojson_types.specs.Topologies.{Contents, object_features}
use Rattle.topojson_types.specs.Validity.{AreDistinct, IsTopology}
use Rattle.build_meaning.specs.Quantized.{IsCount, AreInputs, AreOn, IsOn, IsGridIfSome, named_grid, snapped_named, quantized}

-- ---- snapped layers

-- layers snapped to the grid that is asked for: they are as sound as they were, under the same names, and lie on the grid
pub record IsSnapped (g : Option Axes) (before after : Named) : Type 0 where
  pub sound : AreSound after
  pub names : names_of after ≡ names_of before
  pub on : AreOn g after

abbrev pub SnappedAreOn : Type 0
SnappedAreOn = (count : Option ℕ) (ls : Named) → IsCount count → AreSound ls → AreInputs ls → IsSnapped (named_grid count ls) ls (snapped_named (named_grid count ls) ls)

-- what is true of each feature of layers
abbrev pub EachFeature : (Featured → Type 0) → Named → Type 0
EachFeature X ls = AllByRecursion (λ l. AllByRecursion X l.1.features) ls

-- their features nest no deeper than before, their numbers stay numbers, and their texts UTF-8
pub record KeepsLayers (before after : Named) : Type 0 where
  pub nests : (n : ℕ) → EachFeature (λ f. feature_nesting f ≤ n) before → EachFeature (λ f. feature_nesting f ≤ n) after
  pub numbers : EachFeature FeatureHasNumbers before → EachFeature FeatureHasNumbers after
  pub texts : EachFeature FeatureHasTexts before → EachFeature FeatureHasTexts after

abbrev pub SnappedKeep : Type 0
SnappedKeep = (g : Option Axes) (ls : Named) → KeepsLayers ls (snapped_named g ls)

-- ---- topologies on the grid

-- a valid topology each of whose positions lies on the grid is valid on it
abbrev pub QuantizedIsValid : Type 0
QuantizedIsValid = (g : Option Axes) (y : Contents) → IsGridIfSome g → y.transform ≡ None → EachCell (IsOn g) y → IsTopology y → IsTopology (quantized g y)

-- a valid topology each of whose positions lies on the grid decodes to the same features on it
abbrev pub QuantizedDecodes : Type 0
QuantizedDecodes = (g : Option Axes) (y : Contents) (name : List ℕ) → IsGridIfSome g → y.transform ≡ None → EachCell (IsOn g) y → decoded (quantized g y) name ≡ decoded y name

-- the features of all objects
abbrev pub all_features : Contents → List TopoFeature
all_features y = joined (map (λ o. object_features o.1) y.objects)

-- the objects have the same names, and their features, in order, the same identifiers and properties; features nest no deeper than
-- before, their numbers stay numbers, and their texts UTF-8; there are as many arcs, each as long as before
pub record Keeps (before after : Contents) : Type 0 where
  pub names : map (λ o. o.0) after.objects ≡ map (λ o. o.0) before.objects
  pub ids : map (λ f. f.id) (all_features after) ≡ map (λ f. f.id) (all_features before)
  pub properties : map (λ f. f.properties) (all_features after) ≡ map (λ f. f.properties) (all_features before)
  pub nests : (n : ℕ) → AllByRecursion (λ f. max (option_nesting f.shape) (1 + properties_nesting f.properties) ≤ n) (all_features before)
      → AllByRecursion (λ f. max (option_nesting f.shape) (1 + properties_nesting f.properties) ≤ n) (all_features after)
  pub numbers : AllByRecursion (λ f. IdHasNumbers f.id × PropertiesHaveNumbers f.properties) (all_features before)
      → AllByRecursion (λ f. IdHasNumbers f.id × PropertiesHaveNumbers f.properties) (all_features after)
  pub texts : AllByRecursion (λ f. IdHasTexts f.id × PropertiesHaveTexts f.properties) (all_features before)
      → AllByRecursion (λ f. IdHasTexts f.id × PropertiesHaveTexts f.properties) (all_features after)
  pub arcs : length after.arcs ≡ length before.arcs
  pub lengths : map length after.arcs ≡ map length before.arcs

abbrev pub QuantizedKeeps : Type 0
QuantizedKeeps = (g : Option Axes) (y : Contents) → Keeps y (quantized g y)

-- ---- what is built of layers that lie on the grid

-- each of its positions lies on the grid
abbrev pub BuiltCellsAreOn : Type 0
BuiltCellsAreOn = (g : Option Axes) (t limit : ℕ) (ls : Named) → AreOn g ls → EachCell (IsOn g) (built t limit ls)

-- on the grid it is valid
abbrev pub BuiltIsValidQuantized : Type 0
BuiltIsValidQuantized = (g : Option Axes) (t limit : ℕ) (ls : Named) → AreOn g ls → AreSound ls → AreDistinct (names_of ls) → IsTopology (quantized g (built t limit ls))

-- decoding gives each layer the features that are expected of it
abbrev pub BuiltDecodesQuantized : Type 0
BuiltDecodesQuantized = (g : Option Axes) (t limit : ℕ) (ls : Named) → AreOn g ls → AreSound ls → AreDistinct (names_of ls)
    → AllByRecursion (λ l. decoded (quantized g (built t limit ls)) l.0 ≡ Some (set.Many l.1.features)) (expected t limit ls)
