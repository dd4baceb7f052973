-- The bytes of the files of a page.
use Rattle.std.specs.Prelude.{List, [], ◌∷◌, ℕ, take, Option, None, Some, if◌then◌else◌}
use Rattle.std.specs.Option.{option_map}
use Rattle.std.specs.Str.{bytes_eq}
use Rattle.std.specs.String.{string_bytes}
use Rattle.worked_examples.specs.declared.devices.Damage.{Damage}
use Rattle.worked_examples.specs.declared.devices.Damage.TheVariants as damage
use Rattle.worked_examples.specs.declared.lent_files.Kept.{Kept}
use Rattle.worked_examples.specs.declared.lent_files.LentFiles.{LentFiles}
use Rattle.worked_examples.specs.declared.memory_files.Entry.{Entry}

-- the bytes of this file, if it has this name
abbrev pub entry_held : Entry → List ℕ → Option (List ℕ)
entry_held e path = if bytes_eq (string_bytes e.name) path then Some e.bytes.items else None

abbrev pub or_else : {A : Type 0} → Option A → Option A → Option A
or_else (Some a) o = Some a
or_else None o = o

-- the bytes of the file of this name: of the last one
abbrev pub held : List Entry → List ℕ → Option (List ℕ)
held [] path = None
held (e ∷ es) path = or_else (held es path) (entry_held e path)

-- what is left of them where a file is damaged. A file whose reads fail has them all left
abbrev pub left_of : Damage → List ℕ → List ℕ → List ℕ
left_of damage.None path whole = whole
left_of (damage.Cut name end) path whole = if bytes_eq name.now path then take end whole else whole
left_of (damage.Broken name end) path whole = whole
left_of (damage.Folder name) path whole = whole

-- the bytes of the file that a run has written, if it has this name
abbrev pub written : Option Kept → List ℕ → Option (List ℕ)
written None path = None
written (Some kept) path = if bytes_eq (string_bytes kept.name) path then Some kept.bytes.now else None

-- the bytes that a file of this name has when it is opened: as the run has written it, or else as the page has it
abbrev pub lent : LentFiles → List ℕ → Option (List ℕ)
lent files path = or_else (written files.kept path) (option_map (left_of files.damage path) (held files.files.now.entries.items path))
