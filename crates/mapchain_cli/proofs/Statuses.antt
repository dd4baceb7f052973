-- What a run's promise says of its status and of standard output.
use Rattle.std.proofs.Common.{◌≡◌, ◌⊎◌, ◌<◌, ◌≤◌, inl, inr, ℕ, zero, suc, List, Bool, true, false, Option, None, Some, IfSome, Ok, Err, ap, arith, refl, subst, sym}
use Rattle.std.specs.Option.{option_and_then}
use Rattle.byte_ends.specs.Ends.{Drained}
use Rattle.byte_ends.specs.declared.source.ReadFault.{ReadFault}
use Rattle.byte_ends.specs.declared.source.ReadFault.TheVariants as read
use Rattle.command_words.specs.Asked.{Detail, Ordered, detail, output_of}
use Rattle.command_words.specs.declared.request.Request.{Request}
use Rattle.command_words.specs.declared.request.Request.TheVariants.{Build, Simplify, Geo, Stat}
use Rattle.command_words.specs.declared.words_fault.WordsFault.{WordsFault}
use Rattle.command_words.specs.declared.words_fault.WordsFault.TheVariants as words
use Rattle.reports.specs.Statuses.{file_status_of, read_status_of, status_of}
use Rattle.inputs.specs.declared.fault.BuildFault.{BuildFault}
use Rattle.inputs.specs.declared.fault.BuildFault.TheVariants.{Read, Json, Write}
use Rattle.inputs.specs.declared.file_fault.FileFault.{FileFault}
use Rattle.inputs.specs.declared.file_fault.FileFault.TheVariants as file
use Rattle.inputs.specs.Sources.{Sources}
use Rattle.reports.specs.declared.report.Report.{Report}
use Rattle.mapchain_engine.specs.Building.{IsLateFault}
use Rattle.mapchain_engine.specs.declared.options.Options.{Options}
use Rattle.mapchain_engine.specs.Geo.{IsGeoFaultWithin}
use Rattle.mapchain_engine.specs.Simplified.{IsSimplifyFault}
use Rattle.mapchain_cli.specs.Asking.{guards_of, IsAnswered, IsRefused, RefusesBuild, RefusesTopology}
use Rattle.mapchain_cli.specs.Endings.{IsSummaryFault, RefusesLayers}
use Rattle.mapchain_cli.specs.Files.{FileUse, Layers, used}
use Rattle.mapchain_cli.specs.Following.{Follows, IsCarriedOut, ReportsTo, unreported}
use Rattle.mapchain_cli.specs.Outputs.{IsPerformed, asked_output}
use Rattle.mapchain_cli.specs.Performing.{ComesOut, Outcome, Streams, ending_status, status_after}
use Rattle.mapchain_cli.specs.Runs.{EndsAtWords, IsHelped, IsRefusedFor, LacksMemory, RunsOn}
use Rattle.mapchain_cli.specs.declared.ending.Ending.{Ending}
use Rattle.mapchain_cli.specs.declared.ending.Ending.TheVariants.{Refused, FileRefused, Memory}

-- ---- standard output of a request that isn't done

late_keeps : (o : Options) (olds news : Sources) (old new : Drained) (e : BuildFault) → IsLateFault o olds news old new e → status_of e < 3 → new ≡ old
late_keeps o olds news old new (Write sent) h lt = absurd (omega arith)
late_keeps o olds news old new e h lt = h.0

layers_keep : (c : FileUse) (o : Options) (layers : Layers) (old new : Drained) (e : BuildFault) → RefusesLayers c o layers old new e → status_of e < 3 → new ≡ old
layers_keep c o layers old new e (inl h) lt = h.0
layers_keep c o layers old new e (inr (inl h)) lt = h.0
layers_keep c o layers old new e (inr (inr h)) lt = late_keeps o h.sources_old h.sources_new old new e h.fault lt

build_keeps : (c : FileUse) (request : Request) (old new : Drained) (e : BuildFault) → RefusesBuild c request old new e → status_of e < 3 → new ≡ old
build_keeps c (Build layers exact grid area keep ring_area no_crossings keep_shapes) old new e h lt = layers_keep c h.0 _ old new e h.2 lt
build_keeps c request old new e h lt = absurd h

-- where each fault but that of writing leaves standard output as it was, one with a status under 3 does
file_keeps : (IsFault : FileFault → Type 0) (old new : Drained) → ((f : _) → IsFault (file.Read f) → new ≡ old) → ((f : _) → IsFault (file.Json f) → new ≡ old)
    → ((f : _) → IsFault (file.Topo f) → new ≡ old) → (IsFault file.NoObject → new ≡ old) → ((n : _) → IsFault (file.ManyPositions n) → new ≡ old) → (IsFault file.Memory → new ≡ old)
    → (e : FileFault) → IsFault e → file_status_of e < 3 → new ≡ old
file_keeps IsFault old new at_read at_json at_topo at_object at_many at_memory (file.Write sent) h lt = absurd (omega arith)
file_keeps IsFault old new at_read at_json at_topo at_object at_many at_memory (file.Read fault) h lt = at_read fault h
file_keeps IsFault old new at_read at_json at_topo at_object at_many at_memory (file.Json fault) h lt = at_json fault h
file_keeps IsFault old new at_read at_json at_topo at_object at_many at_memory (file.Topo fault) h lt = at_topo fault h
file_keeps IsFault old new at_read at_json at_topo at_object at_many at_memory file.NoObject h lt = at_object h
file_keeps IsFault old new at_read at_json at_topo at_object at_many at_memory (file.ManyPositions n) h lt = at_many n h
file_keeps IsFault old new at_read at_json at_topo at_object at_many at_memory file.Memory h lt = at_memory h

topology_keeps : (c : FileUse) (request : Request) (old new : Drained) (e : FileFault) → RefusesTopology c request old new e → file_status_of e < 3 → new ≡ old
topology_keeps c (Build layers exact grid area keep ring_area no_crossings keep_shapes) old new e h lt = absurd h
topology_keeps c (Simplify area keep ring_area no_crossings keep_shapes path) old new e h lt =
    elim h.4 [
      | inl k ↦ k.0
      | inr k ↦ file_keeps (λ f. IsSimplifyFault (guards_of no_crossings keep_shapes) h.0 h.1 k.source_old k.source_new old new f) old new (λ f x. x.0) (λ f x. x.0) (λ f x. x.0) (λ x. x.0) (λ n x. x.0) (λ x. x.0) e k.fault lt
    ]
topology_keeps c (Geo name most path) old new e (inl h) lt = h.0
topology_keeps c (Geo name most path) old new e (inr h) lt =
    file_keeps (λ f. IsGeoFaultWithin most name.now h.source_old h.source_new old new f) old new (λ f x. x.0) (λ f x. x.0) (λ f x. x.0) (λ x. x.0) (λ n x. x.0) (λ x. x.0) e h.fault lt
topology_keeps c (Stat crossings path) old new e (inl h) lt = h.0
topology_keeps c (Stat crossings path) old new e (inr h) lt =
    file_keeps (λ f. IsSummaryFault crossings old new h.source_old h.source_new f) old new (λ f x. x.0) (λ f x. x.0) (λ f x. x.0) (λ x. x.0) (λ n x. x.0) (λ x. x.0) e h.fault lt

keeps : (c : FileUse) (request : Request) (old new : Drained) (ending : Ending) → IsRefused c request old new ending → ending_status ending < 3 → new ≡ old
keeps c request old new (Refused e) h lt = build_keeps c request old new e h lt
keeps c request old new (FileRefused e) h lt = topology_keeps c request old new e h lt
keeps c request old new ending h lt = h.0

-- ---- standard output of one that is

sound : (c : FileUse) (request : Request) (old new : Drained) (report : Option Report) → IsAnswered c request old new report → (new.failures ≡ 0) × (new.flushed ≡ true)
sound c (Build layers exact grid area keep ring_area no_crossings keep_shapes) old new (Some report) h = (h.2.built.sound, h.2.built.flushed)
sound c (Build layers exact grid area keep ring_area no_crossings keep_shapes) old new None h = absurd h
sound c (Simplify area keep ring_area no_crossings keep_shapes path) old new (Some report) h = (h.4.simplified.sound, h.4.simplified.flushed)
sound c (Simplify area keep ring_area no_crossings keep_shapes path) old new None h = absurd h
sound c (Geo name most path) old new (Some report) h = absurd h
sound c (Geo name most path) old new None h = (h.decoded.written.sound, h.decoded.flushed)
sound c (Stat crossings path) old new (Some report) h = absurd h
sound c (Stat crossings path) old new None h = (h.sent.1, h.sent.2)

-- ---- statuses

read_is : (fault : ReadFault) → (0 < read_status_of fault) × (read_status_of fault ≤ 3)
read_is read.TooLong = (omega arith, omega arith)
read_is fault = (omega arith, omega arith)

status_is : (e : BuildFault) → (0 < status_of e) × (status_of e ≤ 3)
status_is (Read n fault) = read_is fault
status_is e = (omega arith, omega arith)

file_status_is : (e : FileFault) → (0 < file_status_of e) × (file_status_of e ≤ 3)
file_status_is (file.Read fault) = read_is fault
file_status_is e = (omega arith, omega arith)

pub ending_is : (ending : Ending) → (0 < ending_status ending) × (ending_status ending ≤ 3)
ending_is (Refused e) = status_is e
ending_is (FileRefused e) = file_status_is e
ending_is ending = (omega arith, omega arith)

-- ---- all of it

-- what a status says of standard output, where the output is to go to this file, if to any
pub record Says (old new : Drained) (file : Option (List ℕ)) (status : ℕ) : Type 0 where
  pub small : status ≤ 3
  pub done : status ≡ 0 → file ≡ None → new.failures ≡ 0
  pub flushed : status ≡ 0 → file ≡ None → new.flushed ≡ true
  pub elsewhere : IfSome file (λ _. new ≡ old)
  pub refused : (status ≡ 1) ⊎ (status ≡ 2) → new ≡ old

at_done : (old new : Drained) (status : ℕ) → status ≡ 0 → new.failures ≡ 0 → new.flushed ≡ true → Says old new None status
at_done old new status is f p = record {
  small = omega arith;
  done = λ _ _. f;
  flushed = λ _ _. p;
  elsewhere = tt;
  refused = λ h. elim h [ inl one ↦ absurd (omega arith) | inr two ↦ absurd (omega arith) ];
}

at_other : (old new : Drained) (status : ℕ) → (0 < status) × (status ≤ 3) → (status < 3 → new ≡ old) → Says old new None status
at_other old new status is h = record {
  small = is.1;
  done = λ zero _. absurd (omega (arith, is.0));
  flushed = λ zero _. absurd (omega (arith, is.0));
  elsewhere = tt;
  refused = λ k. elim k [ inl one ↦ h (omega arith) | inr two ↦ h (omega arith) ];
}

-- standard output took nothing
at_rest : (old new : Drained) (file : Option (List ℕ)) (status : ℕ) → status ≤ 3 → new ≡ old → (status ≡ 0 → file ≡ None → ⊥) → Says old new file status
at_rest old new file status small same other = record {
  small = small;
  done = λ zero none. absurd (other zero none);
  flushed = λ zero none. absurd (other zero none);
  elsewhere = rested file same;
  refused = λ _. same;
}
  where
    rested : (f : Option (List ℕ)) → new ≡ old → IfSome f (λ _. new ≡ old)
    rested None e = tt
    rested (Some path) e = e

lacks : (old new : Streams) (file : Option (List ℕ)) (status : ℕ) → LacksMemory old new status → Says old.out new.out file status
lacks old new file status h = at_rest old.out new.out file status (omega (arith, h.2)) h.0 (λ zero _. absurd (omega (arith, h.2)))

helped : (old new : Streams) (status : ℕ) → IsHelped old new status → Says old.out new.out None status
helped old new status (text, sent, inl h) = at_done old.out new.out status h.3 h.0.sound h.1
helped old new status (text, sent, inr h) = at_other old.out new.out status (omega (arith, h.2), omega (arith, h.2)) (λ lt. absurd (omega (arith, h.2)))

refused_for : (fault : WordsFault) (old new : Streams) (status : ℕ) → IsRefusedFor fault old new status → Says old.out new.out None status
refused_for fault old new status h = at_other old.out new.out status (omega (arith, h.4), omega (arith, h.4)) (λ _. h.2)

refused_or : (fault : WordsFault) (old new : Streams) (file : Option (List ℕ)) (status : ℕ) → file ≡ None → IsRefusedFor fault old new status ⊎ LacksMemory old new status
    → Says old.out new.out file status
refused_or fault old new file status none (inl h) = rw none (refused_for fault old new status h)
refused_or fault old new file status none (inr h) = lacks old new file status h

at_words : (fault : WordsFault) (old new : Streams) (file : Option (List ℕ)) (status : ℕ) → (fault ≡ words.Memory) ⊎ (file ≡ None) → EndsAtWords fault old new status
    → Says old.out new.out file status
at_words words.Memory old new file status why h = lacks old new file status h
at_words fault old new file status (inl m) h = lacks old new file status (subst (λ f. EndsAtWords f old new status) m h)
at_words (words.Help error) old new file status (inr none) (inl h) = rw none (helped old new status h)
at_words (words.Help error) old new file status (inr none) (inr h) = lacks old new file status h
at_words fault old new file status (inr none) h = refused_or fault old new file status none h

-- ---- the status of a run is that of its request, but where the report of one that is done can't be written

abbrev pub HasStatus : Option (List ℕ) → Outcome → ℕ → Type 0
HasStatus report outcome status = (status ≡ status_after outcome) ⊎ ((status ≡ 3) × (status_after outcome ≡ 0) × (report ≡ None → ⊥))

at_unreported : (path : List ℕ) (n status : ℕ) → status ≡ unreported n → (status ≡ n) ⊎ ((status ≡ 3) × (n ≡ 0) × (Some path ≡ None → ⊥))
at_unreported path zero status e = inr (e, refl, λ is. cc)
at_unreported path (suc n) status e = inl e

reported_status : (report : Option (List ℕ)) (files : FileUse) (explains : Bool) (outcome : Outcome) (text : List ℕ) (old new : Drained) (status : ℕ)
    → ReportsTo report files explains outcome text old new status → HasStatus report outcome status
reported_status None files explains outcome text old new status h = inl h.2
reported_status (Some path) files explains outcome text old new status (run, is, inl h) = inl h.2
reported_status (Some path) files explains outcome text old new status (run, is, inr h) = at_unreported path (status_after outcome) status h.2

follow_status : (explains : Bool) (report : Option (List ℕ)) (files : FileUse) (detail : Detail) (outcome : Outcome) (old new : Drained) (status : ℕ)
    → detail.report ≡ report → Follows explains report files detail outcome old new status → HasStatus report outcome status
follow_status false None files detail outcome old new status is h = inl h.2
follow_status false (Some path) files detail outcome old new status is h =
    subst (λ (r : Option (List ℕ)). HasStatus r outcome status) is (reported_status detail.report _ detail.explains outcome h.explanation h.explained new status h.reports)
follow_status true report files detail outcome old new status is h =
    subst (λ (r : Option (List ℕ)). HasStatus r outcome status) is (reported_status detail.report _ detail.explains outcome h.explanation h.explained new status h.reports)

pub carried_status : (files : FileUse) (output : Option (List ℕ)) (detail : Detail) (request : Request) (old new : Streams) (status : ℕ)
    → (h : IsCarriedOut files output detail request old new status) → HasStatus detail.report h.outcome status
carried_status files output detail request old new status h =
    follow_status detail.explains detail.report (used h.then files.after) detail h.outcome h.reported new.err status refl h.follows

pub after_is : (outcome : Outcome) → status_after outcome ≤ 3
after_is (Ok report) = omega arith
after_is (Err ending) = (ending_is ending).1

small : (report : Option (List ℕ)) (outcome : Outcome) (status : ℕ) → HasStatus report outcome status → status ≤ 3
small report outcome status (inl h) = omega (arith, h, after_is outcome)
small report outcome status (inr h) = omega (arith, h.0)

comes_out : (files : FileUse) (request : Request) (old new : Drained) (outcome : Outcome) (report : Option (List ℕ)) (status : ℕ)
    → ComesOut files request old new outcome → HasStatus report outcome status → Says old new None status
comes_out files request old new (Ok r) report status h (inl is) =
    let s = sound files request old new r h in
    at_done old new status is s.0 s.1
comes_out files request old new (Ok r) report status h (inr is) = at_other old new status (omega (arith, is.0), omega (arith, is.0)) (λ lt. absurd (omega (arith, is.0, lt)))
comes_out files request old new (Err ending) report status h (inl is) =
    rw is (at_other old new (ending_status ending) (ending_is ending) (keeps files request old new ending h))
comes_out files request old new (Err ending) report status h (inr is) = absurd (omega (arith, is.1, (ending_is ending).0))

performed : (files : FileUse) (output : Option (List ℕ)) (request : Request) (old new : Drained) (outcome : Outcome) (report : Option (List ℕ)) (status : ℕ)
    → IsPerformed files output request old new outcome → HasStatus report outcome status → Says old new output status
performed files None request old new outcome report status h is = comes_out files request old new outcome report status h is
performed files (Some path) request old new outcome report status h is =
    at_rest old new (Some path) status (small report outcome status is) h.0 (λ zero none. cc)

carried_out : (files : FileUse) (output : Option (List ℕ)) (detail : Detail) (request : Request) (old new : Streams) (status : ℕ)
    → IsCarriedOut files output detail request old new status → Says old.out new.out output status
carried_out files output detail request old new status h =
    performed (used files.before h.then) output request old.out new.out h.outcome detail.report status h.performed (carried_status files output detail request old new status h)

pub says : (files : FileUse) (given : List (List ℕ)) (old new : Streams) (status : ℕ) → RunsOn files given old new status → Says old.out new.out (output_of given) status
says files given old new status (inl (order, asks, details, h)) =
    let file : output_of given ≡ asked_output order = ap (λ (o : Option Ordered). option_and_then (λ (x : Ordered). x.1) o) asks in
    subst (λ (f : Option (List ℕ)). Says old.out new.out f status) (sym file) (carried_out files (asked_output order) (detail order) order.request old new status h)
says files given old new status (inr (fault, why, ends, unopened)) =
    let file : (fault ≡ words.Memory) ⊎ (output_of given ≡ None) = elim why.0 [
      | inl m ↦ inl m
      | inr none ↦ inr (ap (λ (o : Option Ordered). option_and_then (λ (x : Ordered). x.1) o) none)
    ] in
    at_words fault old new (output_of given) status file ends
