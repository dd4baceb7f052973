-- What `to_geo` answers, reads and writes, where as many positions as it is given may be written, or however many there are.
use Rattle.std.specs.Prelude.{◌≡◌, ℕ, true, List, Option, None, Some, Result, Ok, Err, IsUtf8, if◌then◌else◌, nat_lt}
use Rattle.byte_ends.specs.Ends.{Fed, Drained}
use Rattle.byte_ends.specs.Writes.{WritesAll, WritesPrefix}
use Rattle.json_value.specs.Text.{json_text}
use Rattle.geojson_types.specs.declared.counts.Counts.{Counts}
use Rattle.geojson_types.specs.declared.layer.FeatureSet.{FeatureSet}
use Rattle.topojson_writer.specs.FeatureValues.{features_value}
use Rattle.topojson_writer.specs.Numbered.{features_of}
use Rattle.topojson_types.specs.Decoding.{decoded}
use Rattle.topojson_types.specs.Topologies.{Contents}
use Rattle.inputs.specs.declared.file_fault.FileFault.{FileFault}
use Rattle.inputs.specs.declared.file_fault.FileFault.TheVariants.{ManyPositions, NoObject, Write}
use Rattle.reports.specs.Positions.{positions_of}
use Rattle.mapchain_engine.specs.Files.{IsTopologyRead, FailsToGive}

-- the GeoJSON text (RFC 7946) of features
abbrev pub features_text : FeatureSet → List ℕ
features_text features = json_text (features_value features)

-- all of the text was taken and flushed, and the answer is its length, or a prefix of it was taken, and the device failed
abbrev pub SendsText : Drained → Drained → List ℕ → Result ℕ FileFault → Type 0
SendsText old new text (Ok sent) = WritesAll old new 0 text sent × (new.flushed ≡ true)
SendsText old new text (Err (Write sent)) = WritesPrefix old new 0 text sent
SendsText old new text (Err e) = ⊥

-- the source was read to its end, its bytes spell a topology, and these are the features of its object of this name
pub record GivesFeatures (name : List ℕ) (old new : Fed) (features : FeatureSet) : Type 0 where
  pub contents : Contents
  pub counts : Counts
  pub read : IsTopologyRead old new contents counts
  pub found : decoded contents name ≡ Some features

-- the number of positions, where that is more than may be written
abbrev pub excess : Option ℕ → ℕ → Option ℕ
excess None n = None
excess (Some most) n = if nat_lt most n then Some n else None

-- that of features
abbrev pub excess_of : Option ℕ → FeatureSet → Option ℕ
excess_of most features = excess most (positions_of (features_of features))

-- such a text is sent where they have no more positions than may be written; else nothing was taken, and the answer is how many they have
abbrev pub SendsWithin : Option ℕ → Drained → Drained → FeatureSet → Result ℕ FileFault → Type 0
SendsWithin most old new features (Err (ManyPositions count)) = (new ≡ old) × (excess_of most features ≡ Some count)
SendsWithin most old new features r = SendsText old new (features_text features) r × (excess_of most features ≡ None)

-- they have no more positions than may be written, their text is UTF-8, the sink took the whole of it and passed it on, and the answer is its length
pub record IsDecodedWithin (most : Option ℕ) (name : List ℕ) (old new : Fed) (sink_old sink_new : Drained) (sent : ℕ) : Type 0 where
  pub features : FeatureSet
  pub given : GivesFeatures name old new features
  pub within : excess_of most features ≡ None
  pub utf8 : IsUtf8 (features_text features)
  pub written : WritesAll sink_old sink_new 0 (features_text features) sent
  pub flushed : sink_new.flushed ≡ true

abbrev pub IsDecoded : List ℕ → Fed → Fed → Drained → Drained → ℕ → Type 0
IsDecoded = IsDecodedWithin None

-- the device failed when it had taken a prefix of their text
pub record IsDecodedInPart (most : Option ℕ) (name : List ℕ) (old new : Fed) (sink_old sink_new : Drained) (sent : ℕ) : Type 0 where
  pub features : FeatureSet
  pub given : GivesFeatures name old new features
  pub within : excess_of most features ≡ None
  pub written : WritesPrefix sink_old sink_new 0 (features_text features) sent

-- the source was read to its end, its bytes spell a topology, and none of its objects has this name
pub record LacksObject (name : List ℕ) (old new : Fed) : Type 0 where
  pub contents : Contents
  pub counts : Counts
  pub read : IsTopologyRead old new contents counts
  pub absent : decoded contents name ≡ None

-- the features of its object of this name have so many positions, more than may be written
pub record HasManyPositions (most : Option ℕ) (name : List ℕ) (old new : Fed) (count : ℕ) : Type 0 where
  pub features : FeatureSet
  pub given : GivesFeatures name old new features
  pub over : excess_of most features ≡ Some count

-- why the features of an object of this name can't be had, or may not be written
abbrev pub FailsToDecode : Option ℕ → List ℕ → Fed → Fed → FileFault → Type 0
FailsToDecode most name old new NoObject = LacksObject name old new
FailsToDecode most name old new (ManyPositions count) = HasManyPositions most name old new count
FailsToDecode most name old new e = FailsToGive old new e

-- why no features are written whole: nothing is written unless the device failed
abbrev pub IsGeoFaultWithin : Option ℕ → List ℕ → Fed → Fed → Drained → Drained → FileFault → Type 0
IsGeoFaultWithin most name old new sink_old sink_new (Write sent) = IsDecodedInPart most name old new sink_old sink_new sent
IsGeoFaultWithin most name old new sink_old sink_new e = (sink_new ≡ sink_old) × FailsToDecode most name old new e

abbrev pub IsGeoFault : List ℕ → Fed → Fed → Drained → Drained → FileFault → Type 0
IsGeoFault = IsGeoFaultWithin None
