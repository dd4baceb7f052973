-- What is true of each layer that is read.
use Rattle.std.specs.Prelude.{◌≡◌, ◌≤◌, Bool, true, false, List, Ok, All}
use Rattle.std.specs.List.{AllByRecursion}
use Rattle.json_value.specs.declared.json.Json.{Json}
use Rattle.json_value.specs.Depth.{depth}
use Rattle.json_value.specs.Numbers.{HasNumbers}
use Rattle.json_value.specs.WellFormed.{HasTexts}
use Rattle.geojson_types.specs.declared.counts.Counts.{Counts}
use Rattle.geojson_types.specs.Features.{Featured, is_proper_option}
use Rattle.geojson_types.specs.Nesting.{feature_nesting}
use Rattle.geojson_types.specs.Numbers.{FeatureHasNumbers}
use Rattle.geojson_types.specs.Texts.{FeatureHasTexts}
use Rattle.geojson_types.specs.Places.{features_points}
use Rattle.geometry.specs.Points.{Point, IsInput}
use Rattle.geometry.specs.Pruning.{option_lines_and_rings}
use Rattle.geometry.specs.Rings.{is_ring}
use Rattle.geojson_meaning.specs.Layers.{layer}

-- no list is empty but a Group's, and each line has two positions or more
abbrev pub ShapesAreProper : Type 0
ShapesAreProper = (exact : Bool) (v : Json) (fs : List Featured) (c : Counts) → layer exact v ≡ Ok (fs, c)
    → AllByRecursion (λ f. is_proper_option f.shape ≡ true) fs

-- all positions are inputs
abbrev pub InputsAlone : Type 0
InputsAlone = (exact : Bool) (v : Json) (fs : List Featured) (c : Counts) → layer exact v ≡ Ok (fs, c)
    → All IsInput (features_points fs)

-- an element of `lines_and_rings` that is marked as a ring is one
abbrev pub RingCloses : Bool × List Point → Type 0
RingCloses b = b.0 ≡ true → is_ring b.1 ≡ true

-- all rings are linear rings
abbrev pub RingsClose : Type 0
RingsClose = (exact : Bool) (v : Json) (fs : List Featured) (c : Counts) → layer exact v ≡ Ok (fs, c)
    → AllByRecursion (λ f. AllByRecursion RingCloses (option_lines_and_rings f.shape)) fs

-- a layer that is taken where only whole units are is taken where others are too: the same, with the same counts
pub record ExactIsStricter : Type 0 where
  pub same : (v : Json) (fs : List Featured) (c : Counts) → layer true v ≡ Ok (fs, c) → layer false v ≡ Ok (fs, c)
  pub rounded : (v : Json) (fs : List Featured) (c : Counts) → layer true v ≡ Ok (fs, c) → c.rounded ≡ 0

-- no feature is deeper than the value
abbrev pub NothingDeeper : Type 0
NothingDeeper = (exact : Bool) (v : Json) (fs : List Featured) (c : Counts) → layer exact v ≡ Ok (fs, c)
    → AllByRecursion (λ f. feature_nesting f ≤ depth v) fs

-- what stands for a number in a feature is one, if that is so in the value
abbrev pub NumbersStay : Type 0
NumbersStay = (exact : Bool) (v : Json) (fs : List Featured) (c : Counts) → HasNumbers v → layer exact v ≡ Ok (fs, c)
    → AllByRecursion FeatureHasNumbers fs

-- the identifiers and properties of features have UTF-8 texts, if that is so in the value
abbrev pub TextsStay : Type 0
TextsStay = (exact : Bool) (v : Json) (fs : List Featured) (c : Counts) → HasTexts v → layer exact v ≡ Ok (fs, c)
    → AllByRecursion FeatureHasTexts fs
