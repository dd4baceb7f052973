-- The layer that the bytes of a source spell, or why they spell none.
use Rattle.std.specs.Prelude.{◌≡◌, ◌≢◌, ℕ, Bool, List, Result, Ok, Err, IsUtf8}
use Rattle.byte_ends.specs.Ends.{Fed}
use Rattle.json_value.specs.declared.json.Json.{Json}
use Rattle.json_value.specs.Grammar.{Reads}
use Rattle.json_value.specs.Limits.{layer_depth}
use Rattle.geojson_types.specs.declared.counts.Counts.{Counts}
use Rattle.geojson_types.specs.declared.layer.Layer.{Layer}
use Rattle.geojson_types.specs.Features.{Featured}
use Rattle.geojson_meaning.specs.declared.fault.GeoFaultKind.TheVariants as geo
use Rattle.geojson_meaning.specs.Layers.{layer}
use Rattle.inputs.specs.declared.fault.BuildFault.{BuildFault}
use Rattle.inputs.specs.declared.fault.BuildFault.TheVariants.{EmptyName, DuplicateName, Read, Json as Text, Geo, Write, Memory}
use Rattle.inputs.specs.Texts.{IsNoText, IsRead, IsUntroubled, FailsToEnd}

-- the bytes are UTF-8 and spell a JSON value (RFC 8259) that stands for a layer (RFC 7946) of these features, and this is counted in it
pub record SpellsLayer (exact : Bool) (bytes : List ℕ) (features : List Featured) (counts : Counts) : Type 0 where
  pub utf8 : IsUtf8 bytes
  pub value : Json
  pub spelled : Reads layer_depth bytes value
  pub stands : layer exact value ≡ Ok (features, counts)

-- why the bytes of the layer of this number spell no layer
abbrev pub IsNoLayer : ℕ → Bool → List ℕ → BuildFault → Type 0
IsNoLayer n exact bytes (Text i fault) = (i ≡ n) × IsNoText layer_depth bytes fault
IsNoLayer n exact bytes (Geo i fault) = (i ≡ n) × (fault.kind ≢ geo.Memory) × IsUtf8 bytes × (v : Json) × Reads layer_depth bytes v × (layer exact v ≡ Err fault)
IsNoLayer n exact bytes Memory = Unit {0}
IsNoLayer n exact bytes (EmptyName i) = ⊥
IsNoLayer n exact bytes (DuplicateName i) = ⊥
IsNoLayer n exact bytes (Read i fault) = ⊥
IsNoLayer n exact bytes (Write sent) = ⊥

-- the answer for the bytes of the layer of this number
abbrev pub IsLayerOf : ℕ → Bool → List ℕ → Result (Layer × Counts) BuildFault → Type 0
IsLayerOf n exact bytes (Ok r) = SpellsLayer exact bytes r.0.features r.1
IsLayerOf n exact bytes (Err e) = IsNoLayer n exact bytes e

-- ---- sources

-- why the layer of this number can't be had of the source
abbrev pub FailsToRead : ℕ → Bool → Fed → Fed → BuildFault → Type 0
FailsToRead n exact old new (Read i fault) = (i ≡ n) × FailsToEnd old new fault
FailsToRead n exact old new Memory = IsUntroubled old new
FailsToRead n exact old new e = (bytes : List ℕ) × IsRead old new bytes × IsNoLayer n exact bytes e

-- the answer for the source of the layer of this number
abbrev pub ReadsLayer : ℕ → Bool → Fed → Fed → Result (Layer × Counts) BuildFault → Type 0
ReadsLayer n exact old new (Ok r) = (bytes : List ℕ) × IsRead old new bytes × SpellsLayer exact bytes r.0.features r.1
ReadsLayer n exact old new (Err e) = FailsToRead n exact old new e
