-- What is true of simplifying the bytes of a topology.
use Rattle.std.specs.Prelude.{◌≡◌, ℕ, List, length, Some, Ok, IsUtf8}
use Rattle.byte_ends.specs.Ends.{Fed, Drained, Takes}
use Rattle.geojson_types.specs.declared.counts.Counts.{Counts}
use Rattle.json_value.specs.declared.json.Json.{Json}
use Rattle.json_value.specs.Grammar.{Reads}
use Rattle.build_meaning.specs.declared.guards.Guards.{Guards}
use Rattle.layer_topology.specs.declared.level.Level.{Level}
use Rattle.reports.specs.declared.report.Report.{Report}
use Rattle.topojson_meaning.specs.Topologies.{topology}
use Rattle.topojson_types.specs.Topologies.{Contents}
use Rattle.json_value.specs.Limits.{topology_depth}
use Rattle.mapchain_engine.specs.Files.{SpellsTopology}
use Rattle.mapchain_engine.specs.Simplified.{simplified_contents_text, report_of, IsSimplified}

-- the bytes spell a JSON value (RFC 8259) that stands for this topology (TopoJSON 1.0), with these counts
pub record StandsFor (bytes : List ℕ) (contents : Contents) (counts : Counts) : Type 0 where
  pub value : Json
  pub spelled : Reads topology_depth bytes value
  pub stands : topology value ≡ Ok (contents, counts)

-- where a source has left bytes that spell a topology, a simplifying that answers wrote the text of what is left of that topology,
-- and its report is that of it
abbrev pub WrittenIsSimplified : Type 0
WrittenIsSimplified = (guards : Guards) (level : Level) (limit : ℕ) (bytes : List ℕ) (contents : Contents) (counts : Counts) (source after : Fed) (sink_old sink_new : Drained) (report : Report)
    → StandsFor bytes contents counts → source.left ≡ Some bytes → IsSimplified guards level limit source after sink_old sink_new report
    → Takes sink_old sink_new (simplified_contents_text guards level limit contents) (length (simplified_contents_text guards level limit contents)) × (report ≡ report_of guards level limit contents counts)

-- where bytes spell a topology, the text of what is left of it is UTF-8
abbrev pub SimplifiedIsUtf8 : Type 0
SimplifiedIsUtf8 = (guards : Guards) (level : Level) (limit : ℕ) (bytes : List ℕ) (contents : Contents) (counts : Counts) → SpellsTopology bytes contents counts → IsUtf8 (simplified_contents_text guards level limit contents)
