-- Which answers of simplifying follow the outcome of the bytes of the file.
use Rattle.std.specs.Prelude.{◌≡◌, ◌⊎◌, ℕ, List, length, Result, Ok, Err}
use Rattle.byte_ends.specs.Ends.{Drained, Takes}
use Rattle.geojson_types.specs.declared.counts.Counts.{Counts}
use Rattle.inputs.specs.declared.file_fault.FileFault.{FileFault}
use Rattle.build_meaning.specs.declared.guards.Guards.{Guards}
use Rattle.layer_topology.specs.declared.level.Level.{Level}
use Rattle.reports.specs.declared.report.Report.{Report}
use Rattle.topojson_types.specs.Topologies.{Contents}
use Rattle.mapchain_engine.specs.FileOutcomes.{plain_file_fault, IsOutsideGiven, IsOutsideFile}
use Rattle.mapchain_engine.specs.Simplified.{simplified_contents_text, report_of}

-- the text of what is left of a topology at the level, and the report
abbrev pub simplified : Guards → Level → ℕ → Contents → Counts → Result (List ℕ × Report) FileFault
simplified guards level limit y counts = Ok (simplified_contents_text guards level limit y, report_of guards level limit y counts)

-- the text of the outcome was written, and the answer is its report, unless memory, the source or the sink failed, or its fault is
-- answered
abbrev pub FollowsSimplified : Drained → Drained → Result (List ℕ × Report) FileFault → Result Report FileFault → Type 0
FollowsSimplified old new (Ok r) (Ok report) = Takes old new r.0 (length r.0) × (new.failures ≡ 0) × (report ≡ r.1)
FollowsSimplified old new (Ok r) (Err e) = IsOutsideFile e
FollowsSimplified old new (Err f) (Ok report) = ⊥
FollowsSimplified old new (Err f) (Err e) = (plain_file_fault e ≡ plain_file_fault f) ⊎ IsOutsideGiven e
