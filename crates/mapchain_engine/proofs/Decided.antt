-- What building says of its answer makes it follow the one outcome of the bytes of the layers.
use Rattle.std.proofs.Common.{⊎_elim, ◌≡◌, ℕ, List, ◌∙◌, ap, inl, inr, Result, Ok, Err}
use Rattle.std.specs.Prelude.{IfOk, IfErr}
use Rattle.byte_ends.specs.Ends.{Drained}
use Rattle.geojson_types.specs.declared.counts.Counts.{Counts}
use Rattle.inputs.specs.declared.fault.BuildFault.{BuildFault}
use Rattle.inputs.specs.declared.fault.BuildFault.TheVariants.{Read, Write, Memory}
use Rattle.reports.specs.declared.report.Report.{Report}
use Rattle.inputs.specs.Outcomes.{Texts, Outcome, AllHaveOutcome, HasOutcome, plain_outcome, IsOutsideRead, HaveBytes, FirstHaveBytes, HaveBytesFor}
use Rattle.inputs.specs.Sources.{Sources, Named, AllRead, FailsAt}
use Rattle.inputs.proofs.LayersDecided.{once, read_comes, fails_come, first_comes, first_fails}
use Rattle.mapchain_engine.specs.Building.{report_of, IsBuilt, IsLateFault}
use Rattle.mapchain_engine.specs.declared.options.Options.{Options}
use Rattle.mapchain_engine.specs.BuildOutcomes.{IsOutside, Follows}

-- ---- the answer follows

follows_outside : (o : Options) (outcome : Outcome) (e : BuildFault) → IsOutsideRead e → IsOutside e → Follows o outcome (Err e)
follows_outside o (Ok r) e h k = k
follows_outside o (Err f) e h k = inr h

is_outside : (e : BuildFault) → IsOutsideRead e → IsOutside e
is_outside (Read i r) h = h
is_outside Memory h = h
is_outside (Write sent) h = tt
is_outside e h = absurd h

follows_fault : (o : Options) (outcome : Outcome) (e : BuildFault) → plain_outcome (Err e) ≡ plain_outcome outcome → Follows o outcome (Err e)
follows_fault o (Ok r) e h = absurd cc
follows_fault o (Err f) e h = inl cc

follows_built : (o : Options) (outcome : Outcome) (ls : Named) (cs : List Counts) (report : Report) → plain_outcome (Ok (ls, cs)) ≡ plain_outcome outcome → report ≡ report_of o ls cs → Follows o outcome (Ok report)
follows_built o (Ok r) ls cs report h reported = let e : (ls, cs) ≡ r = cc in reported ∙ ap (λ (z : Named × List Counts). report_of o z.0 z.1) e
follows_built o (Err f) ls cs report h reported = absurd cc

follows_cut : (o : Options) (outcome : Outcome) (ls : Named) (cs : List Counts) (sent : ℕ) → plain_outcome (Ok (ls, cs)) ≡ plain_outcome outcome → Follows o outcome (Err (Write sent))
follows_cut o (Ok r) ls cs sent h = tt
follows_cut o (Err f) ls cs sent h = absurd cc

module _ (o : Options) (olds news : Sources) (sink_old sink_new : Drained) (bs : Texts) (outcome : Outcome) (comes : HasOutcome o.exact bs outcome) (have : HaveBytes olds bs) where
  built_follows : (report : Report) → IsBuilt o olds news sink_old sink_new report → Follows o outcome (Ok report)
  built_follows report is =
      let all = read_comes 0 o.exact olds news is.layers is.counts bs is.builds.read have in
      follows_built o outcome is.layers is.counts report (once o.exact bs (Ok (is.layers, is.counts)) outcome all comes) is.reported

  failed : (e : BuildFault) → FailsAt o.exact 0 olds news e → Follows o outcome (Err e)
  failed e f = ⊎_elim (λ out. follows_outside o outcome e out (is_outside e out)) (λ all. follows_fault o outcome e (once o.exact bs (Err e) outcome all comes)) (fails_come 0 o.exact olds news bs e f have)

  late_follows : (e : BuildFault) → IsLateFault o olds news sink_old sink_new e → Follows o outcome (Err e)
  late_follows (Write sent) is =
      let all = read_comes 0 o.exact olds news is.layers is.counts bs is.builds.read have in
      follows_cut o outcome is.layers is.counts sent (once o.exact bs (Ok (is.layers, is.counts)) outcome all comes)
  late_follows Memory is = follows_outside o outcome Memory tt tt
  late_follows e is = failed e is.1

  all_decide : (r : Result Report BuildFault) → IfOk r (λ report. IsBuilt o olds news sink_old sink_new report) → IfErr r (λ e. IsLateFault o olds news sink_old sink_new e) → Follows o outcome r
  all_decide (Ok report) is late = built_follows report is
  all_decide (Err e) is late = late_follows e late

-- ---- the first sources have a fault

not_taken : (o : Options) (bs : Texts) (f : BuildFault) (r : Named × List Counts) → AllHaveOutcome 0 o.exact bs (Ok r) → HasOutcome o.exact bs (Err f) → ⊥
not_taken o bs f r all comes = let e = once o.exact bs (Ok r) (Err f) all comes in absurd cc

module _ (o : Options) (olds news : Sources) (sink_old sink_new : Drained) (bs : Texts) (f : BuildFault) (comes : HasOutcome o.exact bs (Err f)) (have : FirstHaveBytes olds bs) where
  not_built : (ls : Named) (cs : List Counts) → AllRead o.exact olds news ls cs → ⊥
  not_built ls cs all = let r = first_comes 0 o.exact olds news ls cs bs all have in not_taken o bs f r.0 r.1 comes

  first_failed : (e : BuildFault) → FailsAt o.exact 0 olds news e → Follows o (Err f) (Err e)
  first_failed e fails = ⊎_elim (λ out. inr out)
      (λ h. ⊎_elim (λ all. follows_fault o (Err f) e (once o.exact bs (Err e) (Err f) all comes)) (λ r. absurd (not_taken o bs f r.0 r.1 comes)) h) (first_fails 0 o.exact olds news bs e fails have)

  first_follows : (e : BuildFault) → IsLateFault o olds news sink_old sink_new e → Follows o (Err f) (Err e)
  first_follows (Write sent) is = absurd (not_built is.layers is.counts is.builds.read)
  first_follows Memory is = inr tt
  first_follows e is = first_failed e is.1

  first_decide : (r : Result Report BuildFault) → IfOk r (λ report. IsBuilt o olds news sink_old sink_new report) → IfErr r (λ e. IsLateFault o olds news sink_old sink_new e) → Follows o (Err f) r
  first_decide (Ok report) is late = absurd (not_built is.layers is.counts is.builds.read)
  first_decide (Err e) is late = first_follows e late

pub decides : (o : Options) (olds news : Sources) (sink_old sink_new : Drained) (bs : Texts) (outcome : Outcome) → HaveBytesFor outcome olds bs → HasOutcome o.exact bs outcome
    → (r : Result Report BuildFault) → IfOk r (λ report. IsBuilt o olds news sink_old sink_new report) → IfErr r (λ e. IsLateFault o olds news sink_old sink_new e) → Follows o outcome r
decides o olds news sink_old sink_new bs (Ok made) have comes r is late = all_decide o olds news sink_old sink_new bs (Ok made) comes have r is late
decides o olds news sink_old sink_new bs (Err f) have comes r is late = first_decide o olds news sink_old sink_new bs f comes have r is late
