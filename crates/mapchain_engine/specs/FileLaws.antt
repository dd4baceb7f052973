-- What is true of the outcomes of the bytes of a file, and of what is decoded of them.
use Rattle.std.specs.Prelude.{◌≡◌, List, ℕ, Some, Result, IsUtf8}
use Rattle.geojson_types.specs.declared.counts.Counts.{Counts}
use Rattle.geojson_types.specs.declared.layer.FeatureSet.{FeatureSet}
use Rattle.inputs.specs.declared.file_fault.FileFault.{FileFault}
use Rattle.topojson_types.specs.Decoding.{decoded}
use Rattle.topojson_types.specs.Topologies.{Contents}
use Rattle.mapchain_engine.specs.FileOutcomes.{FileHasOutcome, plain_file_outcome}
use Rattle.mapchain_engine.specs.Files.{SpellsTopology}
use Rattle.mapchain_engine.specs.Geo.{features_text}

-- any bytes have an outcome, where this is asked of a topology
abbrev pub HaveFileOutcome : {A : Type 0} → (Contents → Counts → Result A FileFault) → Type 0
HaveFileOutcome {A} asked = (bytes : List ℕ) → (outcome : Result A FileFault) × FileHasOutcome asked bytes outcome

-- bytes have only one outcome, but for the place and the reason in a malformed text
abbrev pub HaveOneFileOutcome : {A : Type 0} → (Contents → Counts → Result A FileFault) → Type 0
HaveOneFileOutcome {A} asked = (bytes : List ℕ) (one other : Result A FileFault) → FileHasOutcome asked bytes one → FileHasOutcome asked bytes other
    → plain_file_outcome one ≡ plain_file_outcome other

-- where bytes spell a topology, the text of the features of its object of a name is UTF-8
abbrev pub DecodedIsUtf8 : Type 0
DecodedIsUtf8 = (bytes name : List ℕ) (contents : Contents) (counts : Counts) (features : FeatureSet) → SpellsTopology bytes contents counts
    → decoded contents name ≡ Some features → IsUtf8 (features_text features)
