-- What is true of the layers that are read, and what that rests on.
use Rattle.std.specs.Prelude.{ℕ, ◌≤◌, List, IsUtf8}
use Rattle.build_meaning.specs.Layers.{names_of}
use Rattle.geojson_types.specs.declared.counts.Counts.{Counts}
use Rattle.geojson_meaning.specs.Laws.{ShapesAreProper, InputsAlone, RingsClose, NothingDeeper, NumbersStay, TextsStay}
use Rattle.json_value.specs.declared.json.Json.{Json}
use Rattle.json_value.specs.Depth.{depth}
use Rattle.json_value.specs.Grammar.{Reads}
use Rattle.json_value.specs.WellFormed.{IsWellFormed}
use Rattle.inputs.specs.Sources.{Sources, Named, AllRead}
use Rattle.layer_topology.specs.Written.{AreTaken}
use Rattle.topojson_types.specs.Validity.{AreDistinct}
use Rattle.mapchain_engine.specs.declared.options.Options.{Options}

-- what is true of each layer that a value stands for, and of each value that bytes spell
pub record LayerLaws : Type 0 where
  pub proper : ShapesAreProper
  pub inputs : InputsAlone
  pub rings : RingsClose
  pub nests : NothingDeeper
  pub numbers : NumbersStay
  pub texts : TextsStay
  pub shallow : (d : ℕ) (b : List ℕ) (v : Json) → Reads d b v → depth v ≤ d
  pub formed : (d : ℕ) (b : List ℕ) (v : Json) → IsUtf8 b → Reads d b v → IsWellFormed v

-- layers that are read of sources, under names that differ, are such that a topology can be made of them
abbrev pub ReadAreTaken : Type 0
ReadAreTaken = (o : Options) (olds news : Sources) (layers : Named) (counts : List Counts) → AllRead o.exact olds news layers counts
    → AreDistinct (names_of layers) → AreTaken o.grid layers
