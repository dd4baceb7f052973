-- The topology that a file's bytes spell, or why they spell none.
use Rattle.std.specs.Prelude.{◌≡◌, ◌≢◌, ℕ, Bool, true, false, List, Result, Ok, Err, IsUtf8}
use Rattle.byte_ends.specs.Ends.{Fed}
use Rattle.json_value.specs.declared.json.Json.{Json as Value}
use Rattle.json_value.specs.Grammar.{Reads}
use Rattle.json_value.specs.Limits.{topology_depth}
use Rattle.geojson_types.specs.declared.counts.Counts.{Counts}
use Rattle.topojson_types.specs.Topologies.{Contents}
use Rattle.topojson_meaning.specs.declared.fault.TopoFault.TheVariants as topo
use Rattle.topojson_meaning.specs.ArcTexts.{AreArcTexts}
use Rattle.topojson_meaning.specs.Topologies.{topology}
use Rattle.topojson_decoder.specs.Kept.{of_contents}
use Rattle.topojson_decoder.specs.declared.keeping.Keeping.{Keeping}
use Rattle.topojson_decoder.specs.declared.texts.SpelledTopology.{SpelledTopology}
use Rattle.topojson_decoder.specs.declared.topologies.Parts.{Parts}
use Rattle.inputs.specs.declared.file_fault.FileFault.{FileFault}
use Rattle.inputs.specs.declared.file_fault.FileFault.TheVariants.{Read, Json, Topo, NoObject, ManyPositions, Write, Memory}
use Rattle.inputs.specs.Texts.{IsNoText, IsRead, IsUntroubled, FailsToEnd}
use Rattle.reports.specs.declared.summary.Summary.{Summary}
use Rattle.reports.specs.Summaries.{summary_of, with_crossings}
use Rattle.build_meaning.specs.ArcPositions.{crossings_of}

-- the bytes are UTF-8 and spell a JSON value (RFC 8259) that stands for this topology (TopoJSON 1.0), with what is counted in
-- reading it
pub record SpellsTopology (bytes : List ℕ) (contents : Contents) (counts : Counts) : Type 0 where
  pub utf8 : IsUtf8 bytes
  pub value : Value
  pub spelled : Reads topology_depth bytes value
  pub stands : topology value ≡ Ok (contents, counts)

-- why the bytes spell no topology
abbrev pub IsNoTopology : List ℕ → FileFault → Type 0
IsNoTopology bytes (Json fault) = IsNoText topology_depth bytes fault
IsNoTopology bytes (Topo fault) = (fault ≢ topo.Memory) × IsUtf8 bytes × (v : Value) × Reads topology_depth bytes v × (topology v ≡ Err fault)
IsNoTopology bytes Memory = Unit {0}
IsNoTopology bytes (Read fault) = ⊥
IsNoTopology bytes NoObject = ⊥
IsNoTopology bytes (ManyPositions count) = ⊥
IsNoTopology bytes (Write sent) = ⊥

-- the answer for the bytes
abbrev pub IsTopologyOf : List ℕ → Result (Contents × Counts) FileFault → Type 0
IsTopologyOf bytes (Ok r) = SpellsTopology bytes r.0 r.1
IsTopologyOf bytes (Err e) = IsNoTopology bytes e

-- the same of a topology beside texts, which are those of its arcs
abbrev pub IsSpelledOf : List ℕ → Result (SpelledTopology × Counts) FileFault → Type 0
IsSpelledOf bytes (Ok r) = SpellsTopology bytes r.0.topology r.1 × AreArcTexts r.0.topology.transform r.0.topology.arcs r.0.texts.items
IsSpelledOf bytes (Err e) = IsNoTopology bytes e

-- the source was read to its end, and its bytes spell this topology, with what is counted in reading it
pub record IsTopologyRead (old new : Fed) (contents : Contents) (counts : Counts) : Type 0 where
  pub bytes : List ℕ
  pub read : IsRead old new bytes
  pub spells : SpellsTopology bytes contents counts

-- why no topology can be had of the source
abbrev pub FailsToGive : Fed → Fed → FileFault → Type 0
FailsToGive old new (Read fault) = FailsToEnd old new fault
FailsToGive old new Memory = IsUntroubled old new
FailsToGive old new e = (bytes : List ℕ) × IsRead old new bytes × IsNoTopology bytes e

-- the answer for the source
abbrev pub ReadsTopology : Fed → Fed → Result (Contents × Counts) FileFault → Type 0
ReadsTopology old new (Ok r) = IsTopologyRead old new r.0 r.1
ReadsTopology old new (Err e) = FailsToGive old new e

-- ---- what is kept of it, where not all is

-- the answer for the bytes
abbrev pub IsKeptOf : Keeping → List ℕ → Result Parts FileFault → Type 0
IsKeptOf keeping bytes (Ok parts) = (t : Contents) × (counts : Counts) × SpellsTopology bytes t counts × (parts ≡ of_contents keeping t)
IsKeptOf keeping bytes (Err e) = IsNoTopology bytes e

-- and for the source
pub record IsKeptRead (keeping : Keeping) (old new : Fed) (parts : Parts) : Type 0 where
  pub contents : Contents
  pub counts : Counts
  pub read : IsTopologyRead old new contents counts
  pub kept : parts ≡ of_contents keeping contents

abbrev pub ReadsKept : Keeping → Fed → Fed → Result Parts FileFault → Type 0
ReadsKept keeping old new (Ok parts) = IsKeptRead keeping old new parts
ReadsKept keeping old new (Err e) = FailsToGive old new e

-- the source was read to its end, and this is the summary of the topology that its bytes spell
pub record IsSummarised (old new : Fed) (summary : Summary) : Type 0 where
  pub contents : Contents
  pub counts : Counts
  pub read : IsTopologyRead old new contents counts
  pub reported : summary ≡ summary_of contents

-- the same, with the crossings of the topology
pub record IsCounted (old new : Fed) (summary : Summary) : Type 0 where
  pub contents : Contents
  pub counts : Counts
  pub read : IsTopologyRead old new contents counts
  pub reported : summary ≡ with_crossings (crossings_of contents) (summary_of contents)

-- with crossings (true), or without
abbrev pub IsReported : Bool → Fed → Fed → Summary → Type 0
IsReported true old new summary = IsCounted old new summary
IsReported false old new summary = IsSummarised old new summary
