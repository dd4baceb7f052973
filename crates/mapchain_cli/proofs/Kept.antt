-- What a run's promise says of files.
use Rattle.std.proofs.Common.{◌≡◌, ◌⊎◌, ◌∙◌, ◌<◌, inl, inr, ℕ, List, Bool, true, false, Option, None, Some, Ok, Err, ap, ap₂, arith, refl, subst, sym}
use Rattle.std.specs.Option.{option_and_then}
use Rattle.byte_ends.specs.Ends.{Drained}
use Rattle.command_words.specs.Asked.{Detail, Ordered, detail, report_of}
use Rattle.command_words.specs.declared.request.Request.{Request}
use Rattle.mapchain_cli.specs.Files.{FileState, FileUse, HoldsBut, begun, discarded, not_kept, used, with_discard, with_keep}
use Rattle.mapchain_cli.specs.Following.{Follows, IsCarriedOut, IsExplained, IsReported, ReportsTo}
use Rattle.mapchain_cli.specs.Notes.{ended_of}
use Rattle.mapchain_cli.specs.Outputs.{IsPerformed, IsSent, Settles, SettlesOne, asked_output, over}
use Rattle.mapchain_cli.specs.Performing.{ComesOut, Outcome, Streams, status_after}
use Rattle.mapchain_cli.specs.Runs.{RunsOn}
use Rattle.mapchain_cli.specs.declared.counts.Counts.{Counts}
use Rattle.mapchain_cli.specs.declared.counts.OutputCounts.{OutputCounts}
use Rattle.mapchain_cli.proofs.Statuses.{HasStatus, carried_status}
use Rattle.mapchain_cli.proofs.Untouched.{Stays, answered, opened, refused}

-- no output was tried, or one was settled
abbrev AtMostOne : FileState → FileState → Type 0
AtMostOne old new = (new.counts.outputs ≡ old.counts.outputs) ⊎ SettlesOne old.counts.outputs new.counts.outputs

settle_two : (a b c : FileState) → AtMostOne a b → AtMostOne b c → Settles a.counts.outputs c.counts.outputs
settle_two a b c (inl h) (inl k) = inl (k ∙ h)
settle_two a b c (inl h) (inr k) = inr (inl (subst (λ (o : OutputCounts). SettlesOne o c.counts.outputs) h k))
settle_two a b c (inr h) (inl k) = inr (inl (subst (λ (o : OutputCounts). SettlesOne a.counts.outputs o) (sym k) h))
settle_two a b c (inr h) (inr k) = inr (inr (b.counts.outputs, h, k))

-- ---- a request

record Performed (before then : FileState) (outcome : Outcome) : Type 0 where
  pub lost : 0 < status_after outcome → then.contents ≡ before.contents
  pub outputs : AtMostOne before then

only_reads : (before then : FileState) (outcome : Outcome) → Stays (used before then) → Performed before then outcome
only_reads before then outcome h = record { lost = λ _. h.contents; outputs = inl h.outputs }

sent : (before then : FileState) (path : List ℕ) (request : Request) (outcome : Outcome) → IsSent (used before then) path request outcome → Performed before then outcome
sent before then path request outcome (inl h) = record {
  lost = λ _. ap (λ (s : FileState). s.contents) h.0;
  outputs = inr (inl (ap (λ (s : FileState). s.counts.outputs) h.0));
}
sent before then path request outcome (inr (inl h)) =
    let still = refused (over path before h.begins) request h.begins.fresh h.begins.output h.ending h.why in
    record {
      lost = λ _. ap (λ (s : FileState). s.contents) h.away ∙ still.contents;
      outputs = inr (inr (inr (ap (λ (s : FileState). s.counts.outputs) h.away ∙ ap with_discard still.outputs)));
    }
sent before then path request outcome (inr (inr (inl h))) =
    let still = answered (over path before h.begins) request h.begins.fresh h.begins.output h.report h.answered in
    record {
      lost = λ _. ap (λ (s : FileState). s.contents) h.away ∙ still.contents;
      outputs = inr (inr (inl (false, ap (λ (s : FileState). s.counts.outputs) h.away ∙ ap (with_keep false) still.outputs)));
    }
sent before then path request outcome (inr (inr (inr h))) =
    let still = answered (over path before h.begins) request h.begins.fresh h.begins.output h.report h.answered in
    record {
      lost = λ more. absurd (omega (arith, more, ap status_after h.done));
      outputs = inr (inr (inl (true, ap (λ (c : Counts). c.outputs) h.kept.counted ∙ ap (with_keep true) still.outputs)));
    }

comes_out : (before then : FileState) (request : Request) (old new : Drained) (outcome : Outcome) → ComesOut (used before then) request old new outcome
    → Performed before then outcome
comes_out before then request old new (Ok report) h = only_reads before then (Ok report) (answered (used before then) request old new report h)
comes_out before then request old new (Err ending) h = only_reads before then (Err ending) (refused (used before then) request old new ending h)

performed : (before then : FileState) (output : Option (List ℕ)) (request : Request) (old new : Drained) (outcome : Outcome)
    → IsPerformed (used before then) output request old new outcome → Performed before then outcome
performed before then None request old new outcome h = comes_out before then request old new outcome h
performed before then (Some path) request old new outcome h = sent before then path request outcome h.1

-- ---- what is said beside

record Followed (then after : FileState) (report : Option (List ℕ)) : Type 0 where
  pub holds : HoldsBut report then after
  pub outputs : AtMostOne then after

holds_still : (report : Option (List ℕ)) (old new : FileState) → new.contents ≡ old.contents → HoldsBut report old new
holds_still None old new e = e
holds_still (Some path) old new e = λ other but. ap (λ (c : List ℕ → Option (List ℕ)). c other) e

holds_after : (report : Option (List ℕ)) (a b c : FileState) → b.contents ≡ a.contents → HoldsBut report b c → HoldsBut report a c
holds_after None a b c e h = h ∙ e
holds_after (Some path) a b c e h = λ other but. h other but ∙ ap (λ (x : List ℕ → Option (List ℕ)). x other) e

-- all that changes are counts of outputs
only_outputs : (then after next : FileState) (path : List ℕ) → after ≡ next → next.contents ≡ then.contents → SettlesOne then.counts.outputs next.counts.outputs
    → Followed then after (Some path)
only_outputs then after next path is same one = record {
  holds = λ other but. ap (λ (s : FileState). s.contents other) is ∙ ap (λ (c : List ℕ → Option (List ℕ)). c other) same;
  outputs = inr (subst (λ (s : FileState). SettlesOne then.counts.outputs s.counts.outputs) (sym is) one);
}

reported : (then after : FileState) (path : List ℕ) (explains : Bool) (outcome : Outcome) (text : List ℕ) (old new : Drained) (status : ℕ)
    → IsReported (used then after) path explains outcome text old new status → Followed then after (Some path)
reported then after path explains outcome text old new status (run, is, inl (h, same, exit)) =
    let kept = h.kept in
    record { holds = λ other but. kept.others other but; outputs = inr (inr (inl (true, ap (λ (c : Counts). c.outputs) kept.counted))) }
reported then after path explains outcome text old new status (run, is, inr (inl unbegun, printed, exit)) =
    only_outputs then after (begun None path then) path unbegun refl (inl refl)
reported then after path explains outcome text old new status (run, is, inr (inr (inl broken), printed, exit)) =
    only_outputs then after (discarded (ended_of broken.output) (begun (Some broken.fresh) path then)) path broken.away refl (inr (inr refl))
reported then after path explains outcome text old new status (run, is, inr (inr (inr held), printed, exit)) =
    only_outputs then after (not_kept (ended_of held.output) (begun (Some held.fresh) path then)) path held.away refl (inr (inl (false, refl)))

reports_to : (then after : FileState) (report : Option (List ℕ)) (explains : Bool) (outcome : Outcome) (text : List ℕ) (old new : Drained) (status : ℕ)
    → ReportsTo report (used then after) explains outcome text old new status → Followed then after report
reports_to then after None explains outcome text old new status h =
    record { holds = ap (λ (s : FileState). s.contents) h.0; outputs = inl (ap (λ (s : FileState). s.counts.outputs) h.0) }
reports_to then after (Some path) explains outcome text old new status h = reported then after path explains outcome text old new status h

explained : (then after : FileState) (detail : Detail) (outcome : Outcome) (old new : Drained) (status : ℕ)
    → IsExplained (used then after) detail outcome old new status → Followed then after detail.report
explained then after detail outcome old new status h = reports_to then after detail.report detail.explains outcome h.explanation h.explained new status h.reports

followed : (explains : Bool) (report : Option (List ℕ)) (then after : FileState) (detail : Detail) (outcome : Outcome) (old new : Drained) (status : ℕ)
    → detail.report ≡ report → Follows explains report (used then after) detail outcome old new status → Followed then after report
followed false None then after detail outcome old new status is h =
    record { holds = ap (λ (s : FileState). s.contents) h.0; outputs = inl (ap (λ (s : FileState). s.counts.outputs) h.0) }
followed false (Some path) then after detail outcome old new status is h = subst (Followed then after) is (explained then after detail outcome old new status h)
followed true report then after detail outcome old new status is h = subst (Followed then after) is (explained then after detail outcome old new status h)

-- ---- all of it

-- what a status says of files, where a report of the run is to go to this file, if to any
pub record FilesSay (files : FileUse) (report : Option (List ℕ)) (status : ℕ) : Type 0 where
  pub lost : 0 < status → report ≡ None → files.after.contents ≡ files.before.contents
  pub kept : (status ≡ 1) ⊎ (status ≡ 2) → HoldsBut report files.before files.after
  pub settled : Settles files.before.counts.outputs files.after.counts.outputs

still : (files : FileUse) (report : Option (List ℕ)) (status : ℕ) → Stays files → FilesSay files report status
still files report status h = record {
  lost = λ _ _. h.contents;
  kept = λ _. holds_still report files.before files.after h.contents;
  settled = inl h.outputs;
}

-- the status is that of the request, where it is no failure
of_request : (report : Option (List ℕ)) (outcome : Outcome) (status : ℕ) → HasStatus report outcome status → (status ≡ 1) ⊎ (status ≡ 2) → 0 < status_after outcome
of_request report outcome status (inl is) h = elim h [ inl one ↦ omega (arith, is, one) | inr two ↦ omega (arith, is, two) ]
of_request report outcome status (inr is) h = elim h [ inl one ↦ absurd (omega (arith, is.0, one)) | inr two ↦ absurd (omega (arith, is.0, two)) ]

unreported_request : (report : Option (List ℕ)) (outcome : Outcome) (status : ℕ) → HasStatus report outcome status → report ≡ None → 0 < status → 0 < status_after outcome
unreported_request report outcome status (inl is) none more = omega (arith, is, more)
unreported_request report outcome status (inr is) none more = absurd (is.2 none)

holds_all : (report : Option (List ℕ)) (old new : FileState) → report ≡ None → HoldsBut report old new → new.contents ≡ old.contents
holds_all report old new none h = subst (λ (r : Option (List ℕ)). HoldsBut r old new) none h

carried_out : (files : FileUse) (output : Option (List ℕ)) (detail : Detail) (request : Request) (old new : Streams) (status : ℕ)
    → IsCarriedOut files output detail request old new status → FilesSay files detail.report status
carried_out files output detail request old new status h =
    let did = performed files.before h.then output request old.out new.out h.outcome h.performed in
    let said = followed detail.explains detail.report h.then files.after detail h.outcome h.reported new.err status refl h.follows in
    let is = carried_status files output detail request old new status h in
    record {
      lost = λ more none. holds_all detail.report h.then files.after none said.holds ∙ did.lost (unreported_request detail.report h.outcome status is none more);
      kept = λ refused. holds_after detail.report files.before h.then files.after (did.lost (of_request detail.report h.outcome status is refused)) said.holds;
      settled = settle_two files.before h.then files.after did.outputs said.outputs;
    }

pub files_say : (files : FileUse) (given : List (List ℕ)) (old new : Streams) (status : ℕ) → RunsOn files given old new status → FilesSay files (report_of given) status
files_say files given old new status (inl (order, asks, details, h)) =
    let file : report_of given ≡ (detail order).report = ap₂ (λ (o : Option Ordered) (d : Option Detail). option_and_then (λ (x : Ordered). option_and_then (λ (y : Detail). y.report) d) o) asks details in
    subst (λ (f : Option (List ℕ)). FilesSay files f status) (sym file) (carried_out files (asked_output order) (detail order) order.request old new status h)
files_say files given old new status (inr (fault, why, ends, unopened)) = still files (report_of given) status (opened files 0 unopened)
