-- What is answered of a source that is read to its end.
use Rattle.std.proofs.Common.{◌≢◌, ℕ, List, Result, Ok, Err, refl}
use Rattle.byte_ends.specs.Ends.{Fed}
use Rattle.json_reading.specs.Outcome.{SaysUtf8, SpellsNothing}
use Rattle.json_reading.specs.declared.fault.JsonFault.{JsonFault}
use Rattle.json_reading.specs.declared.fault.JsonFault.TheVariants as text
use Rattle.geojson_types.specs.declared.counts.Counts.{Counts}
use Rattle.inputs.specs.declared.file_fault.FileFault.{FileFault}
use Rattle.inputs.specs.declared.file_fault.FileFault.TheVariants.{Json, Topo, Memory}
use Rattle.inputs.specs.Texts.{IsNoText, IsRead}
use Rattle.topojson_decoder.specs.declared.keeping.Keeping.{Keeping}
use Rattle.topojson_decoder.specs.declared.topologies.Parts.{Parts}
use Rattle.topojson_types.specs.Topologies.{Contents}
use Rattle.json_value.specs.Limits.{topology_depth}
use Rattle.mapchain_engine.specs.Files.{FailsToGive, IsKeptOf, IsNoTopology, IsTopologyOf, ReadsKept, ReadsTopology}

-- why bytes are no text
pub no_text : (bytes : List ℕ) (fault : JsonFault) → fault ≢ text.Memory → SaysUtf8 bytes (Err fault) → SpellsNothing topology_depth bytes (Err fault) → IsNoText topology_depth bytes fault
no_text bytes (text.NotUtf8 at) other utf8 none = utf8
no_text bytes (text.Malformed at why) other utf8 none = (utf8, none)
no_text bytes text.Memory other utf8 none = absurd (other refl)

module _ (old new : Fed) (bytes : List ℕ) (is : IsRead old new bytes) where
  fails : (e : FileFault) → IsNoTopology bytes e → FailsToGive old new e
  fails (Json fault) h = (bytes, is, h)
  fails (Topo fault) h = (bytes, is, h)
  fails Memory h = is.untroubled
  fails e h = absurd h

  pub topology_read : (r : Result (Contents × Counts) FileFault) → IsTopologyOf bytes r → ReadsTopology old new r
  topology_read (Ok r) h = record { bytes = bytes; read = is; spells = h }
  topology_read (Err e) h = fails e h

  pub kept_read : (keeping : Keeping) (r : Result Parts FileFault) → IsKeptOf keeping bytes r → ReadsKept keeping old new r
  kept_read keeping (Ok parts) h = record { contents = h.0; counts = h.1; read = record { bytes = bytes; read = is; spells = h.2 }; kept = h.3 }
  kept_read keeping (Err e) h = fails e h
