-- What is written where a request is done, and why one isn't: of which files, in the words of the crates that read them.
use Rattle.std.specs.Prelude.{◌≡◌, ◌⊎◌, ℕ, Bool, true, List, length, map, Option, None, Some, slice_get}
use Rattle.byte_ends.specs.Ends.{Fed, Drained, Takes}
use Rattle.byte_ends.specs.Writes.{WritesPrefix}
use Rattle.byte_ends.specs.declared.source.ReadFault.TheVariants as read
use Rattle.inputs.specs.declared.fault.BuildFault.{BuildFault}
use Rattle.inputs.specs.declared.fault.BuildFault.TheVariants.{Read}
use Rattle.inputs.specs.declared.file_fault.FileFault.{FileFault}
use Rattle.inputs.specs.declared.file_fault.FileFault.TheVariants as file
use Rattle.inputs.specs.Names.{name_fault}
use Rattle.inputs.specs.Sources.{Sources}
use Rattle.build_meaning.specs.declared.guards.Guards.{Guards}
use Rattle.layer_topology.specs.declared.level.Level.{Level}
use Rattle.reports.specs.declared.report.Report.{Report}
use Rattle.reports.specs.declared.summary.Summary.{Summary}
use Rattle.reports.specs.Summaries.{summary_text}
use Rattle.mapchain_engine.specs.Building.{IsBuilt, IsLateFault}
use Rattle.mapchain_engine.specs.declared.options.Options.{Options}
use Rattle.mapchain_engine.specs.Files.{FailsToGive, IsReported}
use Rattle.mapchain_engine.specs.Geo.{IsDecodedWithin}
use Rattle.mapchain_engine.specs.Simplified.{IsSimplified}
use Rattle.mapchain_cli.specs.Files.{AreOpened, FileUse, IsOpened, Layers, ReadsAll, ReadsOne, RefusedAfter}

-- ---- what is written

-- the topology of these layers was written, each read from the file of its path, as it was asked for
pub record BuildsOf (files : FileUse) (options : Options) (layers : Layers) (old new : Drained) (report : Report) : Type 0 where
  pub sources_old : Sources
  pub sources_new : Sources
  pub opened : AreOpened files.before.contents layers sources_old
  pub each_once : ReadsAll (length layers) sources_new files
  pub built : IsBuilt options sources_old sources_new old new report

-- what is left of the topology of the file of this path was written, where it is reduced at this level under these guards, without
-- rings under this limit
pub record SimplifiesOf (files : FileUse) (guards : Guards) (level : Level) (ring_limit : ℕ) (path : List ℕ) (old new : Drained) (report : Report) : Type 0 where
  pub source_old : Fed
  pub source_new : Fed
  pub opened : IsOpened files.before.contents path source_old
  pub once : ReadsOne source_new files
  pub simplified : IsSimplified guards level ring_limit source_old source_new old new report

-- the text of the features of an object of this name was written, which have no more positions than this, of the topology of the file of this path
pub record DecodesOf (files : FileUse) (name : List ℕ) (most : Option ℕ) (path : List ℕ) (old new : Drained) : Type 0 where
  pub source_old : Fed
  pub source_new : Fed
  pub opened : IsOpened files.before.contents path source_old
  pub once : ReadsOne source_new files
  pub sent : ℕ
  pub decoded : IsDecodedWithin most name source_old source_new old new sent

-- all of the text of this summary was taken and flushed
abbrev pub SendsSummary : Drained → Drained → Summary → Type 0
SendsSummary old new summary = Takes old new (summary_text summary) (length (summary_text summary)) × (new.failures ≡ 0) × (new.flushed ≡ true)

-- the summary was written of the topology of the file of this path, with its crossings (true) or without
pub record Summarises (files : FileUse) (crossings : Bool) (path : List ℕ) (old new : Drained) : Type 0 where
  pub source_old : Fed
  pub source_new : Fed
  pub opened : IsOpened files.before.contents path source_old
  pub once : ReadsOne source_new files
  pub summary : Summary
  pub reported : IsReported crossings source_old source_new summary
  pub sent : SendsSummary old new summary

-- ---- why nothing is written whole: nothing is written unless the device failed

-- the file of a layer can't be opened, or isn't known, those before it were opened, and none after it was tried; the fault names that
-- layer
abbrev pub IsUnopened : FileUse → Layers → BuildFault → Type 0
IsUnopened files layers e =
    (i : ℕ) × (layer : List ℕ × List ℕ) × (slice_get layers i ≡ Some layer) × (files.before.contents layer.1 ≡ None) × RefusedAfter i files × (e ≡ Read i read.Read)

-- a name is refused: each layer's source was opened as the file of its path, and none was read
pub record IsMisnamed (files : FileUse) (layers : Layers) (e : BuildFault) : Type 0 where
  pub sources : Sources
  pub opened : AreOpened files.before.contents layers sources
  pub each_once : ReadsAll (length layers) sources files
  pub fault : name_fault (map (λ l. l.0) layers) ≡ Some e

-- a layer's source is refused, each opened as the file of its path, or the device failed
pub record IsRefusedLate (files : FileUse) (options : Options) (layers : Layers) (old new : Drained) (e : BuildFault) : Type 0 where
  pub sources_old : Sources
  pub sources_new : Sources
  pub opened : AreOpened files.before.contents layers sources_old
  pub each_once : ReadsAll (length layers) sources_new files
  pub fault : IsLateFault options sources_old sources_new old new e

-- why the topology of these layers isn't built: a file can't be opened, or all were and a name is refused, or what was read is
abbrev pub RefusesLayers : FileUse → Options → Layers → Drained → Drained → BuildFault → Type 0
RefusesLayers files options layers old new e =
    ((new ≡ old) × IsUnopened files layers e)
    ⊎ (((new ≡ old) × IsMisnamed files layers e) ⊎ IsRefusedLate files options layers old new e)

-- the source that is opened as the file of this path has this fault
pub record IsRefusedFile (files : FileUse) (path : List ℕ) (Fails : Fed → Fed → FileFault → Type 0) (e : FileFault) : Type 0 where
  pub source_old : Fed
  pub source_new : Fed
  pub opened : IsOpened files.before.contents path source_old
  pub once : ReadsOne source_new files
  pub fault : Fails source_old source_new e

-- why the file of a topology of this path isn't used: it can't be opened, or isn't known, or what was read has this fault
abbrev pub RefusesFile : FileUse → List ℕ → Drained → Drained → (Fed → Fed → FileFault → Type 0) → FileFault → Type 0
RefusesFile files path old new Fails e =
    ((new ≡ old) × (files.before.contents path ≡ None) × RefusedAfter 0 files × (e ≡ file.Read read.Read)) ⊎ IsRefusedFile files path Fails e

-- why no summary is written whole: the device failed when it had taken a prefix of its text, or there is none
abbrev pub IsSummaryFault : Bool → Drained → Drained → Fed → Fed → FileFault → Type 0
IsSummaryFault crossings sink_old sink_new old new (file.Write sent) =
    (summary : Summary) × IsReported crossings old new summary × WritesPrefix sink_old sink_new 0 (summary_text summary) sent
IsSummaryFault crossings sink_old sink_new old new e = (sink_new ≡ sink_old) × FailsToGive old new e
