-- Requests only read files, but for their output.
use Rattle.std.proofs.Common.{◌≡◌, ◌∙◌, inl, inr, ℕ, zero, suc, Option, Some, None, ap, length, refl}
use Rattle.byte_ends.specs.Ends.{Drained, Fed}
use Rattle.command_words.specs.declared.request.Request.{Request}
use Rattle.command_words.specs.declared.request.Request.TheVariants.{Build, Simplify, Geo, Stat}
use Rattle.inputs.specs.declared.fault.BuildFault.{BuildFault}
use Rattle.inputs.specs.declared.file_fault.FileFault.{FileFault}
use Rattle.inputs.specs.Sources.{Sources}
use Rattle.reports.specs.declared.report.Report.{Report}
use Rattle.mapchain_engine.specs.declared.options.Options.{Options}
use Rattle.mapchain_cli.specs.Asking.{IsAnswered, IsRefused, RefusesBuild, RefusesTopology, texts_of}
use Rattle.mapchain_cli.specs.Endings.{RefusesFile, RefusesLayers}
use Rattle.mapchain_cli.specs.Files.{FileState, FileUse, Layers, Opened, ReadsAll, ReadsOne, RefusedAfter, opened_times}
use Rattle.mapchain_cli.specs.declared.ending.Ending.{Ending}
use Rattle.mapchain_cli.specs.declared.ending.Ending.TheVariants.{Refused, FileRefused, Memory}
use Rattle.mapchain_cli.proofs.Opened.{times_contents}

-- what the files hold, what became of outputs, and the path of the one that was begun last: all but what is counted and noted of sources
pub record Stays (files : FileUse) : Type 0 where
  pub contents : files.after.contents ≡ files.before.contents
  pub outputs : files.after.counts.outputs ≡ files.before.counts.outputs
  pub pending : files.after.pending ≡ files.before.pending

times_outputs : (n : ℕ) (s : FileState) → (opened_times n s).counts.outputs ≡ s.counts.outputs
times_outputs zero s = refl
times_outputs (suc n) s = times_outputs n s

times_pending : (n : ℕ) (s : FileState) → (opened_times n s).pending ≡ s.pending
times_pending zero s = refl
times_pending (suc n) s = times_pending n s

pub opened : (files : FileUse) (n : ℕ) → Opened n files → Stays files
opened files n e = record {
  contents = ap (λ (s : FileState). s.contents) e ∙ times_contents n files.before;
  outputs = ap (λ (s : FileState). s.counts.outputs) e ∙ times_outputs n files.before;
  pending = ap (λ (s : FileState). s.pending) e ∙ times_pending n files.before;
}

-- the sources were read
read_all : (files : FileUse) (n : ℕ) (sources : Sources) → ReadsAll n sources files → Stays files
read_all files n sources e = record {
  contents = ap (λ (s : FileState). s.contents) e ∙ times_contents n files.before;
  outputs = ap (λ (s : FileState). s.counts.outputs) e ∙ times_outputs n files.before;
  pending = ap (λ (s : FileState). s.pending) e ∙ times_pending n files.before;
}

read_one : (files : FileUse) (source : Fed) → ReadsOne source files → Stays files
read_one files source e = record {
  contents = ap (λ (s : FileState). s.contents) e;
  outputs = ap (λ (s : FileState). s.counts.outputs) e;
  pending = ap (λ (s : FileState). s.pending) e;
}

following : (files : FileUse) (n : ℕ) → RefusedAfter n files → Stays files
following files n e = record {
  contents = ap (λ (s : FileState). s.contents) e ∙ times_contents n files.before;
  outputs = ap (λ (s : FileState). s.counts.outputs) e ∙ times_outputs n files.before;
  pending = ap (λ (s : FileState). s.pending) e ∙ times_pending n files.before;
}

-- ---- requests that are done

pub answered : (files : FileUse) (request : Request) (old new : Drained) (report : Option Report) → IsAnswered files request old new report → Stays files
answered files (Build layers exact grid area keep ring_area no_crossings keep_shapes) old new (Some report) h = read_all files (length (texts_of layers.items)) h.2.sources_new h.2.each_once
answered files (Build layers exact grid area keep ring_area no_crossings keep_shapes) old new None h = absurd h
answered files (Simplify area keep ring_area no_crossings keep_shapes path) old new (Some report) h = read_one files h.4.source_new h.4.once
answered files (Simplify area keep ring_area no_crossings keep_shapes path) old new None h = absurd h
answered files (Geo name most path) old new (Some report) h = absurd h
answered files (Geo name most path) old new None h = read_one files h.source_new h.once
answered files (Stat crossings path) old new (Some report) h = absurd h
answered files (Stat crossings path) old new None h = read_one files h.source_new h.once

-- ---- requests that aren't

layers_refused : (files : FileUse) (o : Options) (layers : Layers) (old new : Drained) (e : BuildFault) → RefusesLayers files o layers old new e → Stays files
layers_refused files o layers old new e (inl h) = following files h.1.0 h.1.4
layers_refused files o layers old new e (inr (inl h)) = read_all files (length layers) h.1.sources h.1.each_once
layers_refused files o layers old new e (inr (inr h)) = read_all files (length layers) h.sources_new h.each_once

build_refused : (files : FileUse) (request : Request) (old new : Drained) (e : BuildFault) → RefusesBuild files request old new e → Stays files
build_refused files (Build layers exact grid area keep ring_area no_crossings keep_shapes) old new e h = layers_refused files h.0 _ old new e h.2
build_refused files request old new e h = absurd h

file_refused : (files : FileUse) (path : _) (old new : Drained) (Fails : Fed → Fed → FileFault → Type 0) (e : FileFault) → RefusesFile files path old new Fails e
    → Stays files
file_refused files path old new Fails e (inl h) = following files 0 h.2
file_refused files path old new Fails e (inr h) = read_one files h.source_new h.once

topology_refused : (files : FileUse) (request : Request) (old new : Drained) (e : FileFault) → RefusesTopology files request old new e → Stays files
topology_refused files (Build layers exact grid area keep ring_area no_crossings keep_shapes) old new e h = absurd h
topology_refused files (Simplify area keep ring_area no_crossings keep_shapes path) old new e h = file_refused files path.now old new _ e h.4
topology_refused files (Geo name most path) old new e h = file_refused files path.now old new _ e h
topology_refused files (Stat crossings path) old new e h = file_refused files path.now old new _ e h

memory_refused : (files : FileUse) (request : Request) (old new : Drained) → IsRefused files request old new Memory → Stays files
memory_refused files (Build layers exact grid area keep ring_area no_crossings keep_shapes) old new h = opened files h.1.0 h.1.2
memory_refused files request old new h = opened files 0 h.1

pub refused : (files : FileUse) (request : Request) (old new : Drained) (ending : Ending) → IsRefused files request old new ending → Stays files
refused files request old new (Refused e) h = build_refused files request old new e h
refused files request old new (FileRefused e) h = topology_refused files request old new e h
refused files request old new Memory h = memory_refused files request old new h
refused files request old new ending h = opened files 0 h.1
