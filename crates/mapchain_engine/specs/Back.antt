-- The outcome of the bytes that a build wrote, and what is answered of them.
use Rattle.std.specs.Prelude.{◌≡◌, ℕ, ◌≤◌, false, List, Some, Result, Ok, Err, IfErr, length}
use Rattle.std.specs.List.{AllByRecursion}
use Rattle.byte_ends.specs.Ends.{Fed, Drained, Takes}
use Rattle.byte_ends.specs.Writes.{WritesAll}
use Rattle.geojson_types.specs.declared.layer.FeatureSet.TheVariants.{Many}
use Rattle.geojson_types.specs.Counting.{no_counts}
use Rattle.inputs.specs.declared.file_fault.FileFault.{FileFault}
use Rattle.inputs.specs.declared.file_fault.FileFault.TheVariants.{Memory}
use Rattle.inputs.specs.Texts.{max_input}
use Rattle.inputs.specs.Sources.{Sources}
use Rattle.build_meaning.specs.declared.guards.Guards.{Guards}
use Rattle.layer_topology.specs.declared.level.Level.{Level}
use Rattle.build_meaning.specs.Left.{is_at_once}
use Rattle.mapchain_engine.specs.Laws.{IsWrittenTo}
use Rattle.reports.specs.declared.report.Report.{Report}
use Rattle.reports.specs.declared.summary.Summary.{Summary}
use Rattle.reports.specs.Summaries.{summary_of}
use Rattle.mapchain_engine.specs.Building.{expected_for, written_for, IsBuilt}
use Rattle.mapchain_engine.specs.declared.options.Options.{Options}
use Rattle.mapchain_engine.specs.FileOutcomes.{FileHasOutcome, FollowsSummary, FollowsText, object_text, summarised}
use Rattle.mapchain_engine.specs.Files.{FailsToGive}
use Rattle.mapchain_engine.specs.Geo.{features_text, IsGeoFault}
use Rattle.mapchain_engine.specs.SimplifyOutcomes.{simplified, FollowsSimplified}
use Rattle.mapchain_engine.specs.Simplified.{simplified_contents_text, report_of, IsSimplifyFault}

-- Where they are no more than an input may have, what a build wrote comes, with the name of each layer, to the text of the features that
-- are expected of it, where it had no guards; with any name to the text of the features that its object of this name decodes to; to
-- the summary of the topology that is built, and at each level and ring limit to what is left of that topology. So `to_geo`,
-- `stat` and `simplify`, which answer the outcome of the bytes, refuse it only for memory or a device.
abbrev pub ComesBack : Type 0
ComesBack = (o : Options) (olds news : Sources) (sink_old sink_new : Drained) (report : Report) (is : IsBuilt o olds news sink_old sink_new report)
    (source : Fed) (from : IsWrittenTo sink_old sink_new source) → length from.bytes ≤ max_input
    → (is_at_once o.guards ≡ false → AllByRecursion (λ l. FileHasOutcome (object_text l.0) from.bytes (Ok (features_text (Many l.1.features)))) (expected_for o is.layers))
    × ((name : List ℕ) → FileHasOutcome (object_text name) from.bytes (object_text name (written_for o is.layers) no_counts))
    × FileHasOutcome summarised from.bytes (Ok (summary_of (written_for o is.layers)))
    × ((guards : Guards) (level : Level) (limit : ℕ) → FileHasOutcome (simplified guards level limit) from.bytes (simplified guards level limit (written_for o is.layers) no_counts))

-- ---- what is answered of them

-- what the contracts of `to_geo`, `stat` and `simplify` say of a call that answers this: why it refuses, and that the bytes decide
pub record AnswersGeo (name : List ℕ) (old new : Fed) (out_old out_new : Drained) (result : Result ℕ FileFault) : Type 0 where
  pub refused : IfErr result (λ e. IsGeoFault name old new out_old out_new e)
  pub decided : (bytes : List ℕ) (outcome : Result (List ℕ) FileFault) → old.left ≡ Some bytes → FileHasOutcome (object_text name) bytes outcome
      → FollowsText out_old out_new outcome result

pub record AnswersStat (old new : Fed) (result : Result Summary FileFault) : Type 0 where
  pub refused : IfErr result (λ e. FailsToGive old new e)
  pub decided : (bytes : List ℕ) (outcome : Result Summary FileFault) → old.left ≡ Some bytes → FileHasOutcome summarised bytes outcome → FollowsSummary outcome result

pub record AnswersSimplify (guards : Guards) (level : Level) (limit : ℕ) (old new : Fed) (out_old out_new : Drained) (result : Result Report FileFault) : Type 0 where
  pub refused : IfErr result (λ e. IsSimplifyFault guards level limit old new out_old out_new e)
  pub decided : (bytes : List ℕ) (outcome : Result (List ℕ × Report) FileFault) → old.left ≡ Some bytes → FileHasOutcome (simplified guards level limit) bytes outcome
      → FollowsSimplified out_old out_new outcome result

-- an answer of which this holds, or want of memory
abbrev pub OrMemory : {A : Type 0} → (A → Type 0) → Result A FileFault → Type 0
OrMemory P (Ok a) = P a
OrMemory P (Err e) = e ≡ Memory

-- Where they are no more than an input may have, and no device has failed, `to_geo` with the name of a layer writes, of what a build
-- wrote without guards, the text of the features that are expected of that layer,
abbrev pub GeoIsNeverRefused : Type 0
GeoIsNeverRefused = (o : Options) (olds news : Sources) (sink_old sink_new : Drained) (report : Report) (is : IsBuilt o olds news sink_old sink_new report)
    (source after : Fed) (out_old out_new : Drained) (result : Result ℕ FileFault) (from : IsWrittenTo sink_old sink_new source) → length from.bytes ≤ max_input
    → after.failures ≡ 0 → out_new.failures ≡ 0 → is_at_once o.guards ≡ false
    → AllByRecursion (λ l. AnswersGeo l.0 source after out_old out_new result → OrMemory (λ sent. WritesAll out_old out_new 0 (features_text (Many l.1.features)) sent) result)
    (expected_for o is.layers)

-- `stat` reports the summary of the topology that was built; or there is no memory.
abbrev pub StatIsNeverRefused : Type 0
StatIsNeverRefused = (o : Options) (olds news : Sources) (sink_old sink_new : Drained) (report : Report) (is : IsBuilt o olds news sink_old sink_new report)
    (source after : Fed) (result : Result Summary FileFault) (from : IsWrittenTo sink_old sink_new source) → length from.bytes ≤ max_input
    → after.failures ≡ 0 → AnswersStat source after result → OrMemory (λ summary. summary ≡ summary_of (written_for o is.layers)) result

-- `simplify` writes at each level and ring limit the text of what is left of the topology that was built, with its report; or there is no memory.
abbrev pub SimplifyIsNeverRefused : Type 0
SimplifyIsNeverRefused = (o : Options) (olds news : Sources) (sink_old sink_new : Drained) (report : Report) (is : IsBuilt o olds news sink_old sink_new report)
    (guards : Guards) (level : Level) (limit : ℕ) (source after : Fed) (out_old out_new : Drained) (result : Result Report FileFault) (from : IsWrittenTo sink_old sink_new source) → length from.bytes ≤ max_input
    → after.failures ≡ 0 → out_new.failures ≡ 0 → AnswersSimplify guards level limit source after out_old out_new result
    → OrMemory (λ reported. Takes out_old out_new (simplified_contents_text guards level limit (written_for o is.layers)) (length (simplified_contents_text guards level limit (written_for o is.layers)))
    × (reported ≡ report_of guards level limit (written_for o is.layers) no_counts)) result
