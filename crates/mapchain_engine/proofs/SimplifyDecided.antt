-- The bytes of a file have one outcome, and what `simplify` says of its answer makes it follow that outcome.
use Rattle.std.proofs.Common.{◌≡◌, ◌⊎◌, ℕ, List, length, ◌∙◌, ap, subst, inl, inr, Some, Result, Ok, Err}
use Rattle.byte_ends.specs.Ends.{Fed, Drained, Takes}
use Rattle.inputs.specs.declared.file_fault.FileFault.{FileFault}
use Rattle.inputs.specs.declared.file_fault.FileFault.TheVariants.{Read, Json, Topo, NoObject, ManyPositions, Write, Memory}
use Rattle.reports.specs.declared.report.Report.{Report}
use Rattle.build_meaning.specs.declared.guards.Guards.{Guards}
use Rattle.layer_topology.specs.declared.level.Level.{Level}
use Rattle.mapchain_engine.specs.FileOutcomes.{FileHasOutcome, plain_file_outcome, IsOutsideGiven}
use Rattle.mapchain_engine.specs.Files.{FailsToGive}
use Rattle.mapchain_engine.proofs.FilesDecided.{one_file, topology_comes, fails_come, is_outside}
use Rattle.mapchain_engine.specs.SimplifyOutcomes.{FollowsSimplified, simplified}
use Rattle.mapchain_engine.specs.Simplified.{simplified_contents_text, report_of, IsSimplified, IsSimplifyFault}

-- the text and the report
abbrev Made : Type 0
Made = List ℕ × Report

module _ (sink_old sink_new : Drained) where
  follows_fault : (outcome : Result Made FileFault) (e : FileFault) → plain_file_outcome (Err e) ≡ plain_file_outcome outcome → FollowsSimplified sink_old sink_new outcome (Err e)
  follows_fault (Ok r) e h = absurd cc
  follows_fault (Err f) e h = inl cc

  follows_outside : (outcome : Result Made FileFault) (e : FileFault) → IsOutsideGiven e → FollowsSimplified sink_old sink_new outcome (Err e)
  follows_outside (Ok r) e h = is_outside e h
  follows_outside (Err f) e h = inr h

  follows_written : (outcome : Result Made FileFault) (r : Made) (report : Report) → plain_file_outcome (Ok r) ≡ plain_file_outcome outcome → Takes sink_old sink_new r.0 (length r.0) → sink_new.failures ≡ 0
      → report ≡ r.1 → FollowsSimplified sink_old sink_new outcome (Ok report)
  follows_written (Ok s) r report h took sound reported =
      let e : r ≡ s = cc in
      (subst (λ (z : Made). Takes sink_old sink_new z.0 (length z.0)) e took, sound, reported ∙ ap (λ (z : Made). z.1) e)
  follows_written (Err f) r report h took sound reported = absurd cc

  follows_cut : (outcome : Result Made FileFault) (r : Made) (sent : ℕ) → plain_file_outcome (Ok r) ≡ plain_file_outcome outcome → FollowsSimplified sink_old sink_new outcome (Err (Write sent))
  follows_cut (Ok s) r sent h = tt
  follows_cut (Err f) r sent h = absurd cc

  module _ (guards : Guards) (level : Level) (limit : ℕ) (old new : Fed) (b : List ℕ) (left : old.left ≡ Some b) (outcome : Result Made FileFault) (comes : FileHasOutcome (simplified guards level limit) b outcome) where
    failed : (e : FileFault) → FailsToGive old new e → FollowsSimplified sink_old sink_new outcome (Err e)
    failed e fails = on (fails_come (simplified guards level limit) old new b e left fails)
      where
        on : IsOutsideGiven e ⊎ FileHasOutcome (simplified guards level limit) b (Err e) → FollowsSimplified sink_old sink_new outcome (Err e)
        on (inl out) = follows_outside outcome e out
        on (inr all) = follows_fault outcome e (one_file (simplified guards level limit) b (Err e) outcome all comes)

    pub simplified_follows : (report : Report) → IsSimplified guards level limit old new sink_old sink_new report → FollowsSimplified sink_old sink_new outcome (Ok report)
    simplified_follows report is =
        follows_written outcome (simplified_contents_text guards level limit is.contents, report_of guards level limit is.contents is.counts) report
        (one_file (simplified guards level limit) b (simplified guards level limit is.contents is.counts) outcome (topology_comes (simplified guards level limit) old new b is.contents is.counts left is.read) comes) is.written is.sound is.reported

    pub fault_follows : (e : FileFault) → IsSimplifyFault guards level limit old new sink_old sink_new e → FollowsSimplified sink_old sink_new outcome (Err e)
    fault_follows (Write sent) is =
        follows_cut outcome (simplified_contents_text guards level limit is.contents, report_of guards level limit is.contents is.counts) sent
        (one_file (simplified guards level limit) b (simplified guards level limit is.contents is.counts) outcome (topology_comes (simplified guards level limit) old new b is.contents is.counts left is.read) comes)
    fault_follows NoObject is = failed NoObject is.1
    fault_follows (ManyPositions count) is = failed (ManyPositions count) is.1
    fault_follows Memory is = failed Memory is.1
    fault_follows (Read r) is = failed (Read r) is.1
    fault_follows (Json r) is = failed (Json r) is.1
    fault_follows (Topo r) is = failed (Topo r) is.1
