-- What is true of the topology that is written of layers.
use Rattle.std.specs.Prelude.{◌≡◌, ℕ, ◌≤◌, Option, Some, map, IsUtf8}
use Rattle.std.specs.List.{AllByRecursion}
use Rattle.arc_table.specs.Laws.{AreOnceIn}
use Rattle.build_meaning.specs.Built.{all_arcs}
use Rattle.build_meaning.specs.Expected.{expected}
use Rattle.build_meaning.specs.Layers.{Named, names_of, layers_of}
use Rattle.cutter.specs.Segments.{line_segments}
use Rattle.geojson_types.specs.declared.layer.FeatureSet.TheVariants as set
use Rattle.geojson_types.specs.Nesting.{feature_nesting}
use Rattle.geojson_types.specs.Numbers.{FeatureHasNumbers}
use Rattle.geojson_types.specs.Texts.{FeatureHasTexts}
use Rattle.build_meaning.specs.GridLaws.{EachFeature}
use Rattle.linework.specs.Linework.{linework}
use Rattle.topojson_meaning.specs.Bounds as bounds
use Rattle.topojson_meaning.specs.Texts.{ContentsHaveTexts}
use Rattle.topojson_types.specs.Decoding.{decoded}
use Rattle.topojson_types.specs.Validity.{IsTopology}
use Rattle.layer_topology.specs.Written.{snapped_to, written, AreTaken}

-- it is valid
abbrev pub IsValid : Type 0
IsValid = (count : Option ℕ) (t limit : ℕ) (ls : Named) → AreTaken count ls → IsTopology (written count t limit ls)

-- the objects of what is written have the names of the layers, in order
abbrev pub HasNames : Type 0
HasNames = (count : Option ℕ) (t limit : ℕ) (ls : Named) → AreTaken count ls → map (λ o. o.0) (written count t limit ls).objects ≡ names_of ls

-- decoding it gives each layer the features that are expected of the snapped layer
abbrev pub DecodesBack : Type 0
DecodesBack = (count : Option ℕ) (t limit : ℕ) (ls : Named) → AreTaken count ls
    → AllByRecursion (λ l. decoded (written count t limit ls) l.0 ≡ Some (set.Many l.1.features)) (expected t limit (snapped_to count ls))

-- before reduction each segment of the snapped layers' lines lies once, in exactly one arc
abbrev pub EachSegmentOnce : Type 0
EachSegmentOnce = (count : Option ℕ) (ls : Named) → AreTaken count ls
    → AreOnceIn (all_arcs (linework (layers_of (snapped_to count ls)))) (line_segments (linework (layers_of (snapped_to count ls))))

-- the features of what is written nest no deeper than those of the layers
abbrev pub NestsNoDeeper : Type 0
NestsNoDeeper = (count : Option ℕ) (t limit n : ℕ) (ls : Named) → EachFeature (λ f. feature_nesting f ≤ n) ls
    → AllByRecursion (λ f. bounds.feature_nesting f ≤ n) (bounds.objects_features (written count t limit ls).objects)

-- the number texts of its features are numbers where those of the layers are
abbrev pub NumbersStay : Type 0
NumbersStay = (count : Option ℕ) (t limit : ℕ) (ls : Named) → EachFeature FeatureHasNumbers ls
    → AllByRecursion bounds.FeatureHasNumbers (bounds.objects_features (written count t limit ls).objects)

-- the texts of what is written are UTF-8 where those of the layers and their names are
abbrev pub TextsStay : Type 0
TextsStay = (count : Option ℕ) (t limit : ℕ) (ls : Named) → AreTaken count ls → AllByRecursion (λ n. IsUtf8 n) (names_of ls) → EachFeature FeatureHasTexts ls
    → ContentsHaveTexts (written count t limit ls)

-- what is true of it, all in all
pub record WrittenLaws : Type 0 where
  pub valid : IsValid
  pub names : HasNames
  pub back : DecodesBack
  pub once : EachSegmentOnce
  pub nests : NestsNoDeeper
  pub numbers : NumbersStay
  pub texts : TextsStay
