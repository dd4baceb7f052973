-- Texts that weren't written whole, and summaries that there are none of.
use Rattle.std.proofs.Common.{◌≡◌, inr, ℕ, Bool, List, Err, refl, ap, subst, ◌∙◌}
use Rattle.byte_ends.specs.Ends.{Drained, Fed}
use Rattle.byte_ends.specs.Writes.{Sends}
use Rattle.byte_ends.specs.declared.sink.WriteFault.{WriteFault}
use Rattle.byte_ends.specs.declared.sink.WriteFault.TheVariants as write
use Rattle.reports.specs.FaultLines.{fault_text}
use Rattle.reports.specs.Statuses.{status_of}
use Rattle.reports.specs.Printing.{Prints}
use Rattle.inputs.specs.Sent.{build_fault_of}
use Rattle.inputs.specs.declared.fault.BuildFault.{BuildFault}
use Rattle.inputs.specs.declared.file_fault.FileFault.{FileFault}
use Rattle.inputs.specs.declared.file_fault.FileFault.TheVariants.{Write}
use Rattle.reports.specs.Summaries.{summary_text}
use Rattle.reports.specs.declared.summary.Summary.{Summary}
use Rattle.mapchain_engine.specs.Files.{FailsToGive, IsReported}
use Rattle.mapchain_engine.specs.Geo.{SendsText}
use Rattle.mapchain_cli.specs.Endings.{IsSummaryFault}
use Rattle.mapchain_cli.specs.Runs.{IsHelped}

-- help that was cut short, where that is reported
pub help_cut : (old new err_old err_new : Drained) (text : List ℕ) (fault : WriteFault) (reported_as : BuildFault) (status : ℕ) → reported_as ≡ build_fault_of fault
    → Sends old new 0 text (Err fault) → Prints err_old err_new (fault_text reported_as) → status ≡ status_of reported_as
    → IsHelped (record { out = old; err = err_old }) (record { out = new; err = err_new }) status
help_cut old new err_old err_new text (write.Write sent) reported_as status is cut reported at =
    (text, sent, inr (cut, subst (λ e. Prints err_old err_new (fault_text e)) is reported, at ∙ ap status_of is))

-- no summary can be had of the source
pub summary_fault : (crossings : Bool) (sink : Drained) (s u : Fed) (e : FileFault) → FailsToGive s u e → IsSummaryFault crossings sink sink s u e
summary_fault crossings sink s u (Write sent) h = absurd h.2
summary_fault crossings sink s u e h = (refl, h)

-- a summary that was cut short
pub summary_cut : (crossings : Bool) (old new : Drained) (s u : Fed) (summary : Summary) (e : FileFault) → IsReported crossings s u summary
    → SendsText old new (summary_text summary) (Err e) → IsSummaryFault crossings old new s u e
summary_cut crossings old new s u summary (Write sent) is w = (summary, is, w)
summary_cut crossings old new s u summary e is w = absurd w
