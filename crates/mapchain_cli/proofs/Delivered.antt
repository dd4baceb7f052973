-- How a request comes out whose output takes the place of a file.
use Rattle.std.proofs.Common.{◌≡◌, ◌∙◌, ℕ, List, Bool, Option, Some, Err, ap, refl, subst, sym}
use Rattle.byte_ends.specs.Ends.{Drained}
use Rattle.byte_ends.specs.Writes.{Sends, WritesPrefix}
use Rattle.byte_ends.specs.declared.sink.WriteFault.{WriteFault}
use Rattle.byte_ends.specs.declared.sink.WriteFault.TheVariants.{Write}
use Rattle.command_words.specs.declared.request.Request.{Request}
use Rattle.command_words.specs.declared.request.Request.TheVariants.{Build, Simplify, Geo, Stat}
use Rattle.effective_area.specs.Calls.{Call}
use Rattle.reports.specs.declared.report.Report.{Report}
use Rattle.mapchain_cli.specs.Asking.{CallsFor, IsAnswered}
use Rattle.mapchain_cli.specs.Files.{FileState, Keeps, begun, used}
use Rattle.mapchain_cli.specs.Notes.{Ended, Noted, ended_of, with_ended}
use Rattle.mapchain_cli.specs.Outputs.{is_build, unkept}
use Rattle.mapchain_cli.specs.declared.ending.Ending.{Ending}
use Rattle.mapchain_cli.proofs.Untouched.{answered}

-- the ending that is reported is that of the request
pub unkept_of : (request : Request) (b : Bool) (sent : ℕ) (ending : Ending) → b ≡ is_build request → ending ≡ unkept b sent → ending ≡ unkept (is_build request) sent
unkept_of request b sent ending same is = is ∙ ap (λ x. unkept x sent) same

same_path : (p path : List ℕ) → Some p ≡ Some path → p ≡ path
same_path p path e = cc

-- the output that is kept is the one that was begun for this path
pub kept_for : (path : List ℕ) (ended : Ended) (old new : FileState) → old.pending ≡ Some path → (p : List ℕ) × Keeps p ended old new → Keeps path ended old new
kept_for path ended old new is (p, k) = subst (λ q. Keeps q ended old new) (same_path p path (sym k.begun ∙ is)) k

-- what the device of an output was when it was given back
pub same_end : (output : Drained) (taken : Option (List ℕ)) (failures : ℕ) (flushed : Bool) → taken ≡ output.taken → failures ≡ output.failures
    → flushed ≡ output.flushed → record { taken = taken; failures = failures; flushed = flushed } ≡ ended_of output
same_end output taken failures flushed a b c =
    subst (λ t. record { taken = t; failures = failures; flushed = flushed } ≡ ended_of output) (sym a)
    (subst (λ f. record { taken = output.taken; failures = f; flushed = flushed } ≡ ended_of output) (sym b)
    (subst (λ f. record { taken = output.taken; failures = output.failures; flushed = f } ≡ ended_of output) (sym c) refl))

-- a request that is done leaves the path for which its output was begun
pub still_pending : (path : List ℕ) (before opened : FileState) (request : Request) (old new : Drained) (report : Option Report)
    → IsAnswered (used (begun (Some old) path before) opened) request old new report → opened.pending ≡ Some path
still_pending path before opened request old new report h = (answered (used (begun (Some old) path before) opened) request old new report h).pending

-- a text that wasn't written and passed on was written in part
pub prefix_of : (old new : Drained) (count : ℕ) (text : List ℕ) (fault : WriteFault) → Sends old new count text (Err fault) → (sent : ℕ) × WritesPrefix old new count text sent
prefix_of old new count text (Write sent) h = (sent, h)

-- what a reducer was asked for stays so where the output is kept, and what was known before it was begun is known of
pub kept_calls : (path : List ℕ) (fresh : Drained) (ended : Ended) (before opened after : FileState) (request : Request) (asked calls : List Call)
    → after.noted ≡ with_ended ended opened.noted → CallsFor (used (begun (Some fresh) path before) opened) request asked calls → CallsFor (used before after) request asked calls
kept_calls path fresh ended before opened after (Build layers exact grid area keep ring_area no_crossings keep_shapes) asked calls noted (options, olds, news, fits, opens, are, called) =
    (options, olds, news, fits, opens, ap (λ (n : Noted). n.sources) noted ∙ are, called)
kept_calls path fresh ended before opened after (Simplify area keep ring_area no_crossings keep_shapes path2) asked calls noted (level, old, new, fits, opens, is, called) =
    (level, old, new, fits, opens, ap (λ (n : Noted). n.source) noted ∙ is, called)
kept_calls path fresh ended before opened after (Geo name most path2) asked calls noted h = h
kept_calls path fresh ended before opened after (Stat crossings path2) asked calls noted h = h
