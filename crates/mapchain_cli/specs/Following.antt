-- What is said of a run beside its report or the line of its fault, where that is asked.
use Rattle.std.specs.Prelude.{◌≡◌, ◌⊎◌, ℕ, zero, suc, Bool, true, false, List, codes, Option, None, Some, Ok, Err}
use Rattle.std.specs.Borrow.{Bor}
use Rattle.byte_ends.specs.Ends.{Drained}
use Rattle.byte_ends.specs.Writes.{WritesAll, WritesPrefix}
use Rattle.command_words.specs.Asked.{Detail}
use Rattle.command_words.specs.declared.request.Request.{Request}
use Rattle.explanations.specs.Brief.{brief}
use Rattle.reports.specs.Statuses.{failed}
use Rattle.reports.specs.Printing.{Prints}
use Rattle.reports.specs.declared.report.Report.{Report}
use Rattle.reports.specs.RunReports.{run_text}
use Rattle.reports.specs.declared.run_report.RunFault.{RunFault}
use Rattle.reports.specs.declared.run_report.RunFault.TheVariants as fault
use Rattle.reports.specs.declared.run_report.RunReport.{RunReport}
use Rattle.mapchain_cli.specs.Files.{FileState, FileUse, IsFresh, Keeps, begun, discarded, not_kept, used}
use Rattle.mapchain_cli.specs.Notes.{ended_of}
use Rattle.mapchain_cli.specs.Outputs.{IsPerformed}
use Rattle.mapchain_cli.specs.Performing.{Outcome, Streams, status_after, printed_unless_quiet}
use Rattle.mapchain_cli.specs.declared.ending.Ending.{Ending}
use Rattle.mapchain_cli.specs.declared.ending.Ending.TheVariants.{BadArea, BadRingArea, BadShare, Refused, FileRefused, Memory}

-- ---- the report of a run

-- a fault of the report is the reason why a request isn't done
abbrev pub IsFaultOf : Ending → Option RunFault → Type 0
IsFaultOf BadArea (Some (fault.Words words)) = words.now ≡ codes "bad area"
IsFaultOf BadRingArea (Some (fault.Words words)) = words.now ≡ codes "bad ring area"
IsFaultOf BadShare (Some (fault.Words words)) = words.now ≡ codes "bad share"
IsFaultOf (Refused e) (Some (fault.Build f)) = f.now ≡ e
IsFaultOf (FileRefused e) (Some (fault.File f)) = f.now ≡ e
IsFaultOf Memory (Some fault.Memory) = Unit {0}
IsFaultOf ending f = ⊥

-- the fault of a report is that of the outcome, if it has one
abbrev pub HasFault : Outcome → Option RunFault → Type 0
HasFault (Ok report) None = Unit {0}
HasFault (Err ending) f = IsFaultOf ending f
HasFault outcome f = ⊥

abbrev pub HasReport : Outcome → Option (Bor Report) → Type 0
HasReport (Ok None) None = Unit {0}
HasReport (Ok (Some report)) (Some r) = r.now ≡ report
HasReport (Err ending) None = Unit {0}
HasReport outcome r = ⊥

-- the report of a run has its status, its fault, what was counted, and this explanation
pub record IsReportOf (outcome : Outcome) (text : List ℕ) (exit : ℕ) (run : RunReport) : Type 0 where
  pub status : run.status ≡ exit
  pub fault : HasFault outcome run.fault
  pub report : HasReport outcome run.report
  pub explanation : run.explanation.now ≡ text

-- the text of the run's report is put in the place of the file of this path
pub record PutsReport (files : FileUse) (path : List ℕ) (run : RunReport) : Type 0 where
  pub fresh : Drained
  pub is_fresh : IsFresh fresh
  pub output : Drained
  pub sent : ℕ
  pub whole : WritesAll fresh output 0 (run_text run) sent
  pub flushed : output.flushed ≡ true
  pub kept : Keeps path (ended_of output) (begun (Some fresh) path files.before) files.after

-- the device of its output failed, which was taken away
pub record IsBroken (files : FileUse) (path : List ℕ) (run : RunReport) : Type 0 where
  pub fresh : Drained
  pub is_fresh : IsFresh fresh
  pub output : Drained
  pub sent : ℕ
  pub prefix : WritesPrefix fresh output 0 (run_text run) sent
  pub away : files.after ≡ discarded (ended_of output) (begun (Some fresh) path files.before)

-- the output of the run's report took it, and couldn't take the place of the file
pub record IsHeld (files : FileUse) (path : List ℕ) (run : RunReport) : Type 0 where
  pub fresh : Drained
  pub is_fresh : IsFresh fresh
  pub output : Drained
  pub sent : ℕ
  pub whole : WritesAll fresh output 0 (run_text run) sent
  pub flushed : output.flushed ≡ true
  pub away : files.after ≡ not_kept (ended_of output) (begun (Some fresh) path files.before)

-- it couldn't be written: its output couldn't be begun, or one of these
abbrev pub IsUnwritten : FileUse → List ℕ → RunReport → Type 0
IsUnwritten files path run = (files.after ≡ begun None path files.before) ⊎ (IsBroken files path run ⊎ IsHeld files path run)

-- the line of a report that couldn't be written
abbrev pub no_report : List ℕ
no_report = codes "error: F4 NoReport\n"

-- the status then: that of the run, unless that is done
abbrev pub unreported : ℕ → ℕ
unreported zero = failed
unreported (suc n) = suc n

-- where that is asked an explanation is printed in brief
abbrev pub PrintsIf : Bool → Drained → Drained → List ℕ → Type 0
PrintsIf true old new text = Prints old new (brief text)
PrintsIf false old new text = new ≡ old

-- its line is printed, and then a reason, where that is asked
abbrev pub TellsUnwritten : Bool → Drained → Drained → Type 0
TellsUnwritten explains old new = (told : Drained) × (reason : List ℕ) × Prints old told no_report × PrintsIf explains told new reason

-- the report of the run is written to the file of this path, or it couldn't be, which is reported
abbrev pub IsReported : FileUse → List ℕ → Bool → Outcome → List ℕ → Drained → Drained → ℕ → Type 0
IsReported files path explains outcome explanation old new status = (run : RunReport) × IsReportOf outcome explanation (status_after outcome) run ×
    ((PutsReport files path run × (new ≡ old) × (status ≡ status_after outcome))
    ⊎ (IsUnwritten files path run × TellsUnwritten explains old new × (status ≡ unreported (status_after outcome))))

-- where it is asked for
abbrev pub ReportsTo : Option (List ℕ) → FileUse → Bool → Outcome → List ℕ → Drained → Drained → ℕ → Type 0
ReportsTo None files explains outcome explanation old new status = (files.after ≡ files.before) × (new ≡ old) × (status ≡ status_after outcome)
ReportsTo (Some path) files explains outcome explanation old new status = IsReported files path explains outcome explanation old new status

-- ---- an explanation, and then the report

-- no file is opened for an explanation, which is reported in brief where that is asked, and the report of the run has all of it
pub record IsExplained (files : FileUse) (detail : Detail) (outcome : Outcome) (old new : Drained) (status : ℕ) : Type 0 where
  pub explanation : List ℕ
  pub explained : Drained
  pub prints : PrintsIf detail.explains old explained explanation
  pub reports : ReportsTo detail.report files detail.explains outcome explanation explained new status

-- nothing more is done where nothing is asked
abbrev pub Follows : Bool → Option (List ℕ) → FileUse → Detail → Outcome → Drained → Drained → ℕ → Type 0
Follows false None files detail outcome old new status = (files.after ≡ files.before) × (new ≡ old) × (status ≡ status_after outcome)
Follows explains report files detail outcome old new status = IsExplained files detail outcome old new status

-- ---- an order

-- the request comes out so over its output, which is reported on standard error, and then what is asked for beside is done
pub record IsCarriedOut (files : FileUse) (output : Option (List ℕ)) (detail : Detail) (request : Request) (old new : Streams) (status : ℕ) : Type 0 where
  pub outcome : Outcome
  pub then : FileState
  pub performed : IsPerformed (used files.before then) output request old.out new.out outcome
  pub reported : Drained
  pub prints : Prints old.err reported (printed_unless_quiet detail.quiet outcome)
  pub follows : Follows detail.explains detail.report (used then files.after) detail outcome reported new.err status
