-- Requests over standard output, or over an output that takes the place of a file.
use Rattle.std.specs.Prelude.{◌≡◌, ◌⊎◌, ℕ, Bool, true, false, List, Option, None, Some, Ok, Err, option_map}
use Rattle.byte_ends.specs.Ends.{Drained}
use Rattle.command_words.specs.declared.request.Order.{Order}
use Rattle.command_words.specs.declared.request.Request.{Request}
use Rattle.command_words.specs.declared.request.Request.TheVariants.{Build, Simplify, Geo, Stat}
use Rattle.inputs.specs.declared.fault.BuildFault.TheVariants.{Write}
use Rattle.inputs.specs.declared.file_fault.FileFault.TheVariants as file
use Rattle.reports.specs.declared.report.Report.{Report}
use Rattle.mapchain_cli.specs.Asking.{IsAnswered, IsRefused}
use Rattle.mapchain_cli.specs.Files.{FileState, FileUse, IsFresh, Keeps, begun, discarded, not_kept, used, with_begin, with_discard, with_keep}
use Rattle.mapchain_cli.specs.Notes.{ended_of}
use Rattle.mapchain_cli.specs.Performing.{ComesOut, Outcome}
use Rattle.mapchain_cli.specs.declared.counts.OutputCounts.{OutputCounts}
use Rattle.mapchain_cli.specs.declared.ending.Ending.{Ending}
use Rattle.mapchain_cli.specs.declared.ending.Ending.TheVariants.{Refused, FileRefused}

abbrev pub is_build : Request → Bool
is_build (Build layers exact grid area keep ring_area no_crossings keep_shapes) = true
is_build (Simplify area keep ring_area no_crossings keep_shapes path) = false
is_build (Geo name most path) = false
is_build (Stat crossings path) = false

-- how a run ends whose output couldn't be begun or kept, once it had taken so many bytes: as where its device fails
abbrev pub unkept : Bool → ℕ → Ending
unkept true sent = Refused (Write sent)
unkept false sent = FileRefused (file.Write sent)

-- the output for the file of this path is begun, over which the request ends: what it was and what it is then, and the
-- files then
pub record Begins (path : List ℕ) (before : FileState) : Type 0 where
  pub fresh : Drained
  pub is_fresh : IsFresh fresh
  pub output : Drained
  pub opened : FileState

abbrev pub over : (path : List ℕ) (before : FileState) → Begins path before → FileUse
over path before b = used (begun (Some b.fresh) path before) b.opened

-- the request is done over the output, which is kept as the file of this path
pub record IsDelivered (files : FileUse) (path : List ℕ) (request : Request) (outcome : Outcome) : Type 0 where
  pub begins : Begins path files.before
  pub report : Option Report
  pub answered : IsAnswered (over path files.before begins) request begins.fresh begins.output report
  pub kept : Keeps path (ended_of begins.output) begins.opened files.after
  pub done : outcome ≡ Ok report

-- the request isn't done over the output, which is taken away; nothing else changes
pub record IsAbandoned (files : FileUse) (path : List ℕ) (request : Request) (outcome : Outcome) : Type 0 where
  pub begins : Begins path files.before
  pub ending : Ending
  pub why : IsRefused (over path files.before begins) request begins.fresh begins.output ending
  pub away : files.after ≡ discarded (ended_of begins.output) begins.opened
  pub refused : outcome ≡ Err ending

-- it is done over the output, which can't take the place of the file; nothing else changes
pub record IsUnkept (files : FileUse) (path : List ℕ) (request : Request) (outcome : Outcome) : Type 0 where
  pub begins : Begins path files.before
  pub report : Option Report
  pub answered : IsAnswered (over path files.before begins) request begins.fresh begins.output report
  pub away : files.after ≡ not_kept (ended_of begins.output) begins.opened
  pub refused : outcome ≡ Err (unkept (is_build request) begins.output.sent)

-- the output can't be begun; nothing else changes
abbrev pub IsUnbegun : FileUse → List ℕ → Request → Outcome → Type 0
IsUnbegun files path request outcome = (files.after ≡ begun None path files.before) × (outcome ≡ Err (unkept (is_build request) 0))

-- how a request comes out whose output is to take the place of the file of this path
abbrev pub IsSent : FileUse → List ℕ → Request → Outcome → Type 0
IsSent files path request outcome =
    IsUnbegun files path request outcome ⊎ (IsAbandoned files path request outcome ⊎ (IsUnkept files path request outcome ⊎ IsDelivered files path request outcome))

-- ---- either way

-- the file that an order names for its output
abbrev pub asked_output : Order → Option (List ℕ)
asked_output order = option_map (λ o. o.now) order.output

-- how a request comes out over standard output, or over this file, when standard output takes nothing
abbrev pub IsPerformed : FileUse → Option (List ℕ) → Request → Drained → Drained → Outcome → Type 0
IsPerformed files None request old new outcome = ComesOut files request old new outcome
IsPerformed files (Some path) request old new outcome = (new ≡ old) × IsSent files path request outcome

-- ---- counts

-- one output couldn't be begun; or it was begun, and then kept, or couldn't be, or taken away
abbrev pub SettlesOne : OutputCounts → OutputCounts → Type 0
SettlesOne old new = (new ≡ with_begin false old)
    ⊎ (((is_kept : Bool) × (new ≡ with_keep is_kept (with_begin true old))) ⊎ (new ≡ with_discard (with_begin true old)))

-- no output was tried, or one or two, the first of which was settled before the second
abbrev pub Settles : OutputCounts → OutputCounts → Type 0
Settles old new = (new ≡ old) ⊎ (SettlesOne old new ⊎ ((between : OutputCounts) × SettlesOne old between × SettlesOne between new))
