-- What is true of each topology that is read, and of each that is written: it is read back, and its text is read.
use Rattle.std.specs.Prelude.{◌≡◌, ℕ, ◌+◌, ◌<◌, ◌≤◌, ◌^◌, length, Ok}
use Rattle.std.specs.List.{AllByRecursion}
use Rattle.json_value.specs.declared.json.Json.{Json}
use Rattle.json_value.specs.Depth.{depth}
use Rattle.json_value.specs.Grammar.{Reads}
use Rattle.json_value.specs.Numbers.{HasNumbers}
use Rattle.json_value.specs.Text.{json_text}
use Rattle.geojson_types.specs.declared.counts.Counts.{Counts}
use Rattle.geojson_types.specs.Counting.{no_counts}
use Rattle.topojson_types.specs.Topologies.{Contents}
use Rattle.topojson_types.specs.Validity.{IsTopology}
use Rattle.topojson_types.specs.Values.{topology_value}
use Rattle.topojson_meaning.specs.Bounds.{objects_features, feature_nesting, FeatureHasNumbers}
use Rattle.topojson_meaning.specs.Topologies.{topology}

-- valid, and of no more arcs than a list in memory can have
abbrev pub IsStored : Contents → Type 0
IsStored t = IsTopology t × (length t.arcs < 2 ^ 63)

-- the number texts of all features are numbers
abbrev pub FeaturesHaveNumbers : Contents → Type 0
FeaturesHaveNumbers t = AllByRecursion FeatureHasNumbers (objects_features t.objects)

-- no feature nests deeper than this
abbrev pub FeaturesNest : ℕ → Contents → Type 0
FeaturesNest n t = AllByRecursion (λ f. feature_nesting f ≤ n) (objects_features t.objects)

-- a topology that a value stands for is valid
abbrev pub ReadsValid : Type 0
ReadsValid = (v : Json) (t : Contents) (c : Counts) → topology v ≡ Ok (t, c) → IsTopology t

-- the value of a topology stands for that topology, and nothing is counted
abbrev pub ReadsBack : Type 0
ReadsBack = (t : Contents) → IsStored t → topology (topology_value t) ≡ Ok (t, no_counts)

-- the numbers in the value of a topology are numbers where those of its features are
abbrev pub ValueHasNumbers : Type 0
ValueHasNumbers = (t : Contents) → IsStored t → FeaturesHaveNumbers t → HasNumbers (topology_value t)

-- it nests four deeper than its features
abbrev pub ValueNests : Type 0
ValueNests = (t : Contents) (n : ℕ) → FeaturesNest n t → depth (topology_value t) ≤ 4 + n

-- the text of that value is read as it, at each depth that leaves four to the features
abbrev pub TextIsRead : Type 0
TextIsRead = (t : Contents) (n d : ℕ) → IsStored t → FeaturesHaveNumbers t → FeaturesNest n t → 4 + n ≤ d → Reads d (json_text (topology_value t)) (topology_value t)
