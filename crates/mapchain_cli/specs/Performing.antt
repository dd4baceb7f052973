-- How a request comes out over a sink, and what is said of that.
use Rattle.std.specs.Prelude.{ℕ, Bool, if◌then◌else◌, List, [], codes, Option, None, Some, Result, Ok, Err}
use Rattle.byte_ends.specs.Ends.{Drained}
use Rattle.command_words.specs.declared.request.Request.{Request}
use Rattle.reports.specs.FaultLines.{fault_text, file_fault_text}
use Rattle.reports.specs.Statuses.{failed, file_status_of, status_of, words_refused}
use Rattle.reports.specs.Reports.{report_text}
use Rattle.reports.specs.declared.report.Report.{Report}
use Rattle.mapchain_cli.specs.Asking.{IsAnswered, IsRefused}
use Rattle.mapchain_cli.specs.Files.{FileUse}
use Rattle.mapchain_cli.specs.declared.ending.Ending.{Ending}
use Rattle.mapchain_cli.specs.declared.ending.Ending.TheVariants.{BadArea, BadRingArea, BadShare, Refused, FileRefused, Memory}

-- standard output and standard error
pub record Streams : Type 0 where
  pub out : Drained
  pub err : Drained

-- ---- how a request comes out

-- it is done, with the report of a build or of simplifying, or it isn't
abbrev pub Outcome : Type 0
Outcome = Result (Option Report) Ending

-- over files with these contents it is done, and what is asked for was written; or it isn't, for this reason
abbrev pub ComesOut : FileUse → Request → Drained → Drained → Outcome → Type 0
ComesOut files request old new (Ok report) = IsAnswered files request old new report
ComesOut files request old new (Err ending) = IsRefused files request old new ending

-- ---- what standard error takes

-- of one that isn't done: a line. For want of memory before the files are read there is none
abbrev pub line_of : Ending → List ℕ
line_of BadArea = codes "error: bad area\n"
line_of BadRingArea = codes "error: bad ring area\n"
line_of BadShare = codes "error: bad share\n"
line_of (Refused fault) = fault_text fault
line_of (FileRefused fault) = file_fault_text fault
line_of Memory = []

-- the status of a request that isn't done: 1 where the contents of a file are refused, 2 where words are, 3 where devices or memory fail
abbrev pub ending_status : Ending → ℕ
ending_status BadArea = words_refused
ending_status BadRingArea = words_refused
ending_status BadShare = words_refused
ending_status (Refused fault) = status_of fault
ending_status (FileRefused fault) = file_status_of fault
ending_status Memory = failed

-- of a request that came out so: the report of a build or of simplifying where it is done
abbrev pub printed_text : Outcome → List ℕ
printed_text (Ok None) = []
printed_text (Ok (Some report)) = report_text report
printed_text (Err ending) = line_of ending

-- the same, but where a request is done nothing, if its report is left out
abbrev pub printed_unless_quiet : Bool → Outcome → List ℕ
printed_unless_quiet quiet (Ok report) = if quiet then [] else printed_text (Ok report)
printed_unless_quiet quiet (Err ending) = line_of ending

abbrev pub status_after : Outcome → ℕ
status_after (Ok report) = 0
status_after (Err ending) = ending_status ending
