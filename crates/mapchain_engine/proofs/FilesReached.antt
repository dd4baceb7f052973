-- The bytes of a file have an outcome.
use Rattle.std.proofs.Common.{ℕ, List, Result}
use Rattle.byte_ends.specs.declared.source.ReadFault.TheVariants as read
use Rattle.geojson_types.specs.declared.counts.Counts.{Counts}
use Rattle.inputs.specs.declared.file_fault.FileFault.{FileFault}
use Rattle.inputs.specs.declared.file_fault.FileFault.TheVariants.{Read}
use Rattle.inputs.proofs.BytesReached.{outcome_there}
use Rattle.topojson_types.specs.Topologies.{Contents}
use Rattle.mapchain_engine.specs.FileOutcomes.{of_file, FileHasOutcome}
use Rattle.json_value.specs.Limits.{topology_depth}

pub file_there : {A : Type 0} (asked : Contents → Counts → Result A FileFault) (b : List ℕ) → (outcome : Result A FileFault) × FileHasOutcome asked b outcome
file_there asked b = outcome_there topology_depth (Read read.TooLong) (of_file asked) b
