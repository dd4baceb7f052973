-- Why a request isn't done, from what its parts answer.
use Rattle.std.proofs.Common.{◌≡◌, ◌⊎◌, inl, inr, length, map, Some, refl, sym, ap, subst, ◌∙◌}
use Rattle.byte_ends.specs.Ends.{Drained}
use Rattle.command_words.specs.declared.request.Request.{Request}
use Rattle.inputs.specs.declared.fault.BuildFault.{BuildFault}
use Rattle.inputs.specs.declared.file_fault.FileFault.{FileFault}
use Rattle.inputs.specs.Names.{name_fault}
use Rattle.inputs.specs.Sources.{Sources}
use Rattle.mapchain_engine.specs.Building.{IsLateFault}
use Rattle.mapchain_engine.specs.declared.options.Options.{Options}
use Rattle.mapchain_cli.specs.Asking.{HasBadArea, IsRefused, OpensSome, RefusesBuild}
use Rattle.mapchain_cli.specs.Endings.{IsUnopened, RefusesLayers}
use Rattle.mapchain_cli.specs.Files.{AreOpened, FileState, FileUse, Layers, OpensPrefix, ReadsAll, used}
use Rattle.mapchain_cli.specs.declared.ending.Ending.{Ending}
use Rattle.mapchain_cli.specs.declared.ending.Ending.TheVariants.{FileRefused, Refused, Memory}
use Rattle.mapchain_cli.proofs.Opened.{names_of_opened}

-- the engine refuses to build
pub engine_refuses : (files : FileUse) (options : Options) (layers : Layers) (olds news : Sources) (old new : Drained) (e : BuildFault)
    → AreOpened files.before.contents layers olds → ReadsAll (length layers) news files → (name_fault (map (λ s. s.0) olds) ≡ Some e → (news ≡ olds) × (new ≡ old))
    → (name_fault (map (λ s. s.0) olds) ≡ Some e) ⊎ IsLateFault options olds news old new e → RefusesLayers files options layers old new e
engine_refuses files options layers olds news old new e opened once keeps (inl named) =
    inr (inl (
      (keeps named).1,
      record {
        sources = news;
        opened = subst (AreOpened files.before.contents layers) (sym (keeps named).0) opened;
        each_once = once;
        fault = ap name_fault (sym (names_of_opened files.before.contents layers olds opened)) ∙ named;
      },
    ))
engine_refuses files options layers olds news old new e opened once keeps (inr late) =
    inr (inr (record { sources_old = olds; sources_new = news; opened = opened; each_once = once; fault = late }))

-- what ends the run of a build
abbrev pub EndsBuild : FileUse → Options → Layers → Drained → Drained → Ending → Type 0
EndsBuild files options layers old new e =
    ((e ≡ Memory) × (new ≡ old) × OpensPrefix (length layers) files) ⊎ ((fault : BuildFault) × (e ≡ Refused fault) × RefusesLayers files options layers old new fault)

-- a file can't be opened, or memory is wanting
pub opening_refuses : (files : FileUse) (options : Options) (layers : Layers) (out : Drained) (e : Ending)
    → ((e ≡ Memory) × OpensPrefix (length layers) files) ⊎ ((fault : BuildFault) × (e ≡ Refused fault) × IsUnopened files layers fault) → EndsBuild files options layers out out e
opening_refuses files options layers out e (inl m) = inl (m.0, refl, m.1)
opening_refuses files options layers out e (inr h) = inr (h.0, h.1, inl (refl, h.2))

-- the layers that a request to build names are refused, or memory is wanting
pub layers_refuse : (files : FileUse) (request : Request) (options : Options) (layers : Layers) (old new : Drained) (e : Ending)
    → ((fault : BuildFault) → RefusesLayers files options layers old new fault → RefusesBuild files request old new fault)
    → (OpensPrefix (length layers) files → OpensSome files request) → EndsBuild files options layers old new e → IsRefused files request old new e
layers_refuse files request options layers old new e asked prefix (inl h) = subst (IsRefused files request old new) (sym h.0) (h.1, prefix h.2)
layers_refuse files request options layers old new e asked prefix (inr h) = subst (IsRefused files request old new) (sym h.1) (asked h.0 h.2)

-- what is asked for is refused by its words, before a file is opened, or memory is wanting
pub words_refuse : (s : FileState) (request : Request) (out : Drained) (e : Ending) → ((f : BuildFault) → HasBadArea request (Refused f) → ⊥) → ((f : FileFault) → HasBadArea request (FileRefused f) → ⊥)
    → OpensSome (used s s) request → HasBadArea request e → IsRefused (used s s) request out out e
words_refuse s request out (Refused f) build file opens h = absurd (build f h)
words_refuse s request out (FileRefused f) build file opens h = absurd (file f h)
words_refuse s request out Memory build file opens h = (refl, opens)
words_refuse s request out e build file opens h = (refl, refl, h)
