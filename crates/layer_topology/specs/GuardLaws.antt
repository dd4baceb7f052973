-- What is true of what is left of a topology, and of what is written of layers, under the guards that are asked for.
use Rattle.std.specs.Prelude.{◌≡◌, ℕ, ◌≤◌, ℤ, Bool, true, List, None, Option, map}
use Rattle.std.specs.List.{AllByRecursion}
use Rattle.geojson_types.specs.Features.{Featured}
use Rattle.geojson_types.specs.Nesting.{feature_nesting}
use Rattle.geometry.specs.Lists.{then_some}
use Rattle.geometry.specs.Points.{Point}
use Rattle.geometry.specs.Pruning.{prune}
use Rattle.linework.specs.Linework.{linework}
use Rattle.topojson_meaning.specs.Bounds as bounds
use Rattle.topojson_types.specs.declared.feature.TopoFeature.{TopoFeature}
use Rattle.topojson_types.specs.declared.object.TopoObject.TheVariants.{Many}
use Rattle.topojson_types.specs.Topologies.{Contents}
use Rattle.topojson_types.specs.Validity.{AreDistinct, IsTopology}
use Rattle.build_meaning.specs.Assembled.{arcs_of_layers}
use Rattle.build_meaning.specs.BuiltLaws.{AreSound}
use Rattle.build_meaning.specs.Expected.{unless}
use Rattle.build_meaning.specs.GridLaws.{EachFeature}
use Rattle.build_meaning.specs.Layers.{Named, layers_of, names_of}
use Rattle.build_meaning.specs.InTurn.{judged, layers_arcs_left, layers_left_in_turn, left_in_turn, unpaired, without_small}
use Rattle.build_meaning.specs.LayersMarked.{drafted_refs, layer_shape_marked, unprotected_cause}
use Rattle.build_meaning.specs.Left.{is_at_once, no_guards}
use Rattle.build_meaning.specs.SimplifiedLaws.{labels}
use Rattle.build_meaning.specs.Trimming.{trimmed}
use Rattle.build_meaning.specs.declared.guards.Guards.{Guards}
use Rattle.layer_topology.specs.declared.level.Level.{Level}
use Rattle.layer_topology.specs.Levels.{is_simplifying_level, KeepsShareOf}
use Rattle.layer_topology.specs.Promises.{CrossesNoMore, KeepsShapes}
use Rattle.layer_topology.specs.Written.{written, written_left, AreTaken}

-- It is valid where the topology is, has the same names, identifiers, properties and transform, and its features nest no deeper. Where
-- crossings may not be made it has no more of them, and where shapes stay each feature keeps its greatest ring.
pub record IsLeftOf (guards : Guards) (t limit : ℕ) (y left : Contents) : Type 0 where
  pub valid : IsTopology y → IsTopology left
  pub labels_stay : labels left ≡ labels y
  pub transform : left.transform ≡ y.transform
  pub nests : (n : ℕ) → AllByRecursion (λ f. bounds.feature_nesting f ≤ n) (bounds.objects_features y.objects)
      → AllByRecursion (λ f. bounds.feature_nesting f ≤ n) (bounds.objects_features left.objects)
  pub crosses : guards.no_crossings ≡ true → CrossesNoMore y (without_small guards limit y) left
  pub stays : guards.keep_shapes ≡ true → IsTopology y → KeepsShapes guards t limit y left

abbrev pub LeftLaw : Type 0
LeftLaw = (guards : Guards) (t limit : ℕ) (y : Contents) → IsLeftOf guards t limit y (left_in_turn guards t limit y).contents

-- at the threshold that is chosen for it the share of the positions between the ends of arcs stays that are reduced at once
abbrev pub ShareStays : Type 0
ShareStays = (guards : Guards) (level : Level) (y : Contents) → is_simplifying_level level ≡ true → KeepsShareOf guards level y

-- ---- layers

-- What is written of layers is what is left of the topology that is written at zero, by the threshold and the limit, has the names of the layers
-- in order, and nests no deeper than they do.
pub record IsWrittenLeft (guards : Guards) (count : Option ℕ) (t limit : ℕ) (ls : Named) : Type 0 where
  pub valid : IsTopology (written_left guards count t limit ls).contents
  pub names : map (λ o. o.0) (written_left guards count t limit ls).contents.objects ≡ names_of ls
  pub nests : (n : ℕ) → EachFeature (λ f. feature_nesting f ≤ n) ls
      → AllByRecursion (λ f. bounds.feature_nesting f ≤ n) (bounds.objects_features (written_left guards count t limit ls).contents.objects)
  pub is_left : IsLeftOf guards t limit (written count 0 0 ls) (written_left guards count t limit ls).contents
  pub simplified : (left_in_turn guards t limit (written count 0 0 ls)).contents ≡ (written_left guards count t limit ls).contents

abbrev pub WrittenLeftLaw : Type 0
WrittenLeftLaw = (guards : Guards) (count : Option ℕ) (t limit : ℕ) (ls : Named) → AreTaken count ls → IsWrittenLeft guards count t limit ls

-- a line or ring of layers by the indexes of its own arcs, unless there is the cause to drop it that is reported of it
abbrev pub refs_left : Guards → ℕ → ℕ → Named → Bool → Bool × List Point → Option (List ℤ)
refs_left guards t limit ls closed l =
    unless (judged (unprotected_cause (linework (layers_of ls)) (arcs_of_layers ls) limit) (unprotected_cause (linework (layers_of ls)) (layers_arcs_left guards t limit ls) limit) closed (unpaired l))
    (drafted_refs (linework (layers_of ls)) closed l.1)

abbrev pub feature_left : Guards → ℕ → ℕ → Named → Featured → TopoFeature
feature_left guards t limit ls f =
    record { id = f.id; properties = f.properties; shape = then_some (λ s. prune (λ p. p) (refs_left guards t limit ls) (layer_shape_marked guards.keep_shapes ls s)) f.shape }

-- Where guards are asked for, what is left of layers is left by their own lines and rings over all their arcs: each unless there is the cause to drop it
-- that is reported of it.
abbrev pub LeftByLines : Type 0
LeftByLines = (guards : Guards) (t limit : ℕ) (ls : Named) → is_at_once guards ≡ true → AreSound ls → AreDistinct (names_of ls) → (layers_left_in_turn guards t limit ls).contents
    ≡ trimmed (record { objects = map (λ l. (l.0, Many (map (feature_left guards t limit ls) l.1.features))) ls; arcs = layers_arcs_left guards t limit ls; transform = None })

-- without a guard it is what is written of them at the threshold and the limit
abbrev pub UnguardedIsWritten : Type 0
UnguardedIsWritten = (count : Option ℕ) (t limit : ℕ) (ls : Named) → AreTaken count ls → (written_left no_guards count t limit ls).contents ≡ written count t limit ls

-- at a threshold and a limit of zero nothing is removed, whatever guards are asked for
abbrev pub GuardedAtZero : Type 0
GuardedAtZero = (guards : Guards) (count : Option ℕ) (ls : Named) → AreTaken count ls → (written_left guards count 0 0 ls).contents ≡ written count 0 0 ls
