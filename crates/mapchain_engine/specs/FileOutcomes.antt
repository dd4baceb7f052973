-- The outcome of the bytes of a file, and which answers follow it.
use Rattle.std.specs.Prelude.{◌≡◌, ◌⊎◌, ℕ, List, Option, None, Some, Result, Ok, Err}
use Rattle.byte_ends.specs.Ends.{Drained}
use Rattle.byte_ends.specs.Writes.{WritesAll}
use Rattle.byte_ends.specs.declared.source.ReadFault.TheVariants as read
use Rattle.json_reading.specs.declared.fault.JsonFault.{JsonFault}
use Rattle.json_value.specs.declared.json.Json.{Json as Value}
use Rattle.geojson_types.specs.declared.counts.Counts.{Counts}
use Rattle.geojson_types.specs.declared.layer.FeatureSet.{FeatureSet}
use Rattle.topojson_types.specs.Decoding.{decoded}
use Rattle.topojson_types.specs.Topologies.{Contents}
use Rattle.topojson_meaning.specs.declared.fault.TopoFault.{TopoFault}
use Rattle.topojson_meaning.specs.Topologies.{topology}
use Rattle.inputs.specs.declared.file_fault.FileFault.{FileFault}
use Rattle.inputs.specs.declared.file_fault.FileFault.TheVariants.{Read, Json, Topo, NoObject, ManyPositions, Write, Memory}
use Rattle.reports.specs.declared.summary.Summary.{Summary}
use Rattle.json_value.specs.Limits.{topology_depth}
use Rattle.mapchain_engine.specs.Geo.{excess_of, features_text}
use Rattle.inputs.specs.Texts.{BytesHaveOutcome, plain_text_fault}
use Rattle.reports.specs.Summaries.{summary_of, with_crossings}
use Rattle.build_meaning.specs.ArcPositions.{crossings_of}

-- ---- what is asked of a topology and of what is counted in reading it

-- the summary of a topology
abbrev pub summarised : Contents → Counts → Result Summary FileFault
summarised t counts = Ok (summary_of t)

-- with its crossings
abbrev pub summarised_with_crossings : Contents → Counts → Result Summary FileFault
summarised_with_crossings t counts = Ok (with_crossings (crossings_of t) (summary_of t))

-- a text, unless it would have so many positions too many
abbrev pub unless_many : Option ℕ → List ℕ → Result (List ℕ) FileFault
unless_many None text = Ok text
unless_many (Some count) text = Err (ManyPositions count)

-- the text of features with as many positions as may be written
abbrev pub text_within : Option ℕ → Option FeatureSet → Result (List ℕ) FileFault
text_within most None = Err NoObject
text_within most (Some features) = unless_many (excess_of most features) (features_text features)

-- that of the features of its object of this name
abbrev pub object_text_within : Option ℕ → List ℕ → Contents → Counts → Result (List ℕ) FileFault
object_text_within most name t counts = text_within most (decoded t name)

-- however many positions they have
abbrev pub object_text : List ℕ → Contents → Counts → Result (List ℕ) FileFault
object_text name = object_text_within None name

-- ---- the outcome of bytes, where that is asked

abbrev pub of_topology : {A : Type 0} → (Contents → Counts → Result A FileFault) → Result (Contents × Counts) TopoFault → Result A FileFault
of_topology asked (Err fault) = Err (Topo fault)
of_topology asked (Ok r) = asked r.0 r.1

abbrev pub of_file : {A : Type 0} → (Contents → Counts → Result A FileFault) → Result Value JsonFault → Result A FileFault
of_file asked (Err fault) = Err (Json fault)
of_file asked (Ok v) = of_topology asked (topology v)

-- the bytes are too many, or else their text decides
abbrev pub FileHasOutcome : {A : Type 0} → (Contents → Counts → Result A FileFault) → List ℕ → Result A FileFault → Type 0
FileHasOutcome asked bytes outcome = BytesHaveOutcome topology_depth (Read read.TooLong) (of_file asked) bytes outcome

-- ---- answers

-- the fault without the place and the reason in a malformed text, which nothing promises
abbrev pub plain_file_fault : FileFault → FileFault
plain_file_fault (Json fault) = Json (plain_text_fault fault)
plain_file_fault (Read fault) = Read fault
plain_file_fault (Topo fault) = Topo fault
plain_file_fault NoObject = NoObject
plain_file_fault (ManyPositions count) = ManyPositions count
plain_file_fault (Write sent) = Write sent
plain_file_fault Memory = Memory

-- the outcome with such a fault
abbrev pub plain_file_outcome : {A : Type 0} → Result A FileFault → Result A FileFault
plain_file_outcome (Ok a) = Ok a
plain_file_outcome (Err e) = Err (plain_file_fault e)

-- memory was refused, or the source failed
abbrev pub IsOutsideGiven : FileFault → Type 0
IsOutsideGiven (Read read.Read) = Unit {0}
IsOutsideGiven Memory = Unit {0}
IsOutsideGiven e = ⊥

-- memory was refused, the source failed, or the sink failed
abbrev pub IsOutsideFile : FileFault → Type 0
IsOutsideFile (Write sent) = Unit {0}
IsOutsideFile e = IsOutsideGiven e

-- the answer is that of the outcome, unless memory or the source failed
abbrev pub FollowsSummary : Result Summary FileFault → Result Summary FileFault → Type 0
FollowsSummary (Ok s) (Ok summary) = summary ≡ s
FollowsSummary (Ok s) (Err e) = IsOutsideGiven e
FollowsSummary (Err f) (Ok summary) = ⊥
FollowsSummary (Err f) (Err e) = (plain_file_fault e ≡ plain_file_fault f) ⊎ IsOutsideGiven e

-- the text of the outcome was written, unless memory, the source or the sink failed, or its fault is answered
abbrev pub FollowsText : Drained → Drained → Result (List ℕ) FileFault → Result ℕ FileFault → Type 0
FollowsText old new (Ok text) (Ok sent) = WritesAll old new 0 text sent
FollowsText old new (Ok text) (Err e) = IsOutsideFile e
FollowsText old new (Err f) (Ok sent) = ⊥
FollowsText old new (Err f) (Err e) = (plain_file_fault e ≡ plain_file_fault f) ⊎ IsOutsideGiven e
