-- What was built is answered, or there is no memory.
use Rattle.std.proofs.Common.{◌≡◌, ℕ, ◌+◌, List, length, Result, Ok, Err, IfErr, refl, arith}
use Rattle.byte_ends.specs.Ends.{Fed, Drained, Takes, saturated}
use Rattle.byte_ends.specs.Writes.{WritesAll}
use Rattle.byte_ends.specs.declared.source.ReadFault.TheVariants as read
use Rattle.geojson_types.specs.declared.layer.FeatureSet.TheVariants.{Many}
use Rattle.geojson_types.specs.Counting.{no_counts}
use Rattle.inputs.specs.declared.file_fault.FileFault.{FileFault}
use Rattle.inputs.specs.declared.file_fault.FileFault.TheVariants.{Read, Write, Memory}
use Rattle.owned_values.proofs.Elements.{all_weaker}
use Rattle.build_meaning.specs.declared.guards.Guards.{Guards}
use Rattle.layer_topology.specs.declared.level.Level.{Level}
use Rattle.mapchain_engine.specs.Back.{AnswersGeo, OrMemory, GeoIsNeverRefused, StatIsNeverRefused, SimplifyIsNeverRefused}
use Rattle.mapchain_engine.proofs.ComingBack.{comes_back}
use Rattle.reports.specs.declared.report.Report.{Report}
use Rattle.reports.specs.declared.summary.Summary.{Summary}
use Rattle.reports.specs.Summaries.{summary_of}
use Rattle.mapchain_engine.specs.Building.{expected_for, written_for}
use Rattle.mapchain_engine.specs.FileOutcomes.{FileHasOutcome, FollowsSummary, FollowsText, IsOutsideFile, IsOutsideGiven, object_text}
use Rattle.mapchain_engine.specs.Files.{FailsToGive}
use Rattle.mapchain_engine.specs.Geo.{features_text, IsGeoFault}
use Rattle.mapchain_engine.specs.SimplifyOutcomes.{FollowsSimplified, simplified}
use Rattle.mapchain_engine.specs.Simplified.{simplified_contents_text, report_of, IsSimplifyFault}

-- a source that failed in a call has failures
counted : (old new : ℕ) → new ≡ saturated (old + 1) → new ≡ 0 → ⊥
counted old new e h = omega arith

-- no device failed, so it is memory
given_memory : (old new : Fed) (e : FileFault) → new.failures ≡ 0 → FailsToGive old new e → IsOutsideGiven e → e ≡ Memory
given_memory old new (Read read.Read) none f out = absurd (counted old.failures new.failures f.0 none)
given_memory old new Memory none f out = refl
given_memory old new e none f out = absurd out

module _ (old new : Fed) (out_old out_new : Drained) (none : new.failures ≡ 0) (sound : out_new.failures ≡ 0) where
  geo_memory : (name : List ℕ) (e : FileFault) → IsGeoFault name old new out_old out_new e → IsOutsideFile e → e ≡ Memory
  geo_memory name (Write sent) f out = let failed = f.written.failed in absurd (omega arith)
  geo_memory name (Read read.Read) f out = given_memory old new (Read read.Read) none f.1 out
  geo_memory name Memory f out = refl
  geo_memory name e f out = absurd out

  simplify_memory : (guards : Guards) (level : Level) (limit : ℕ) (e : FileFault) → IsSimplifyFault guards level limit old new out_old out_new e → IsOutsideFile e → e ≡ Memory
  simplify_memory guards level limit (Write sent) f out = let failed = f.written.failed in absurd (omega arith)
  simplify_memory guards level limit (Read read.Read) f out = given_memory old new (Read read.Read) none f.1 out
  simplify_memory guards level limit Memory f out = refl
  simplify_memory guards level limit e f out = absurd out

  geo_answers : (name text : List ℕ) (result : Result ℕ FileFault) → IfErr result (λ e. IsGeoFault name old new out_old out_new e) → FollowsText out_old out_new (Ok text) result
      → OrMemory (λ sent. WritesAll out_old out_new 0 text sent) result
  geo_answers name text (Ok sent) refused follows = follows
  geo_answers name text (Err e) refused follows = geo_memory name e refused follows

  simplify_answers : (guards : Guards) (level : Level) (limit : ℕ) (r : List ℕ × Report) (result : Result Report FileFault) → IfErr result (λ e. IsSimplifyFault guards level limit old new out_old out_new e)
      → FollowsSimplified out_old out_new (Ok r) result → OrMemory (λ reported. Takes out_old out_new r.0 (length r.0) × (reported ≡ r.1)) result
  simplify_answers guards level limit r (Ok reported) refused follows = (follows.0, follows.2)
  simplify_answers guards level limit r (Err e) refused follows = simplify_memory guards level limit e refused follows

stat_answers : (old new : Fed) → new.failures ≡ 0 → (s : Summary) (result : Result Summary FileFault) → IfErr result (λ e. FailsToGive old new e) → FollowsSummary (Ok s) result
    → OrMemory (λ summary. summary ≡ s) result
stat_answers old new none s (Ok summary) refused follows = follows
stat_answers old new none s (Err e) refused follows = given_memory old new e none refused follows

pub geo_is_never_refused : GeoIsNeverRefused
geo_is_never_refused o olds news sink_old sink_new report is source after out_old out_new result from short none sound plain =
    all_weaker (λ l. FileHasOutcome (object_text l.0) from.bytes (Ok (features_text (Many l.1.features))))
    (λ l. AnswersGeo l.0 source after out_old out_new result → OrMemory (λ sent. WritesAll out_old out_new 0 (features_text (Many l.1.features)) sent) result)
    (λ l comes says. geo_answers source after out_old out_new none sound l.0 (features_text (Many l.1.features)) result says.refused (says.decided from.bytes (Ok (features_text (Many l.1.features))) from.left comes))
    (expected_for o is.layers) ((comes_back o olds news sink_old sink_new report is source from short).0 plain)

pub stat_is_never_refused : StatIsNeverRefused
stat_is_never_refused o olds news sink_old sink_new report is source after result from short none says =
    let comes = (comes_back o olds news sink_old sink_new report is source from short).2 in
    stat_answers source after none (summary_of (written_for o is.layers)) result says.refused (says.decided from.bytes (Ok (summary_of (written_for o is.layers))) from.left comes)

pub simplify_is_never_refused : SimplifyIsNeverRefused
simplify_is_never_refused o olds news sink_old sink_new report is guards level limit source after out_old out_new result from short none sound says =
    let y = written_for o is.layers in
    let comes = (comes_back o olds news sink_old sink_new report is source from short).3 guards level limit in
    simplify_answers source after out_old out_new none sound guards level limit (simplified_contents_text guards level limit y, report_of guards level limit y no_counts) result says.refused (says.decided from.bytes (simplified guards level limit y no_counts) from.left comes)
