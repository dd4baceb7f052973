-- What is said of words that ask for nothing that can be done.
use Rattle.std.specs.Prelude.{◌≡◌, ◌⊎◌, ℕ, Bool, true, false, not, List, [], ◌++◌, codes, decimal, if◌then◌else◌, is_some, Option, Some, None}
use Rattle.std.specs.List.{list_all, position}
use Rattle.std.specs.Str.{bytes_eq}
use Rattle.std.specs.String.{string_bytes}
use Rattle.clap.specs.Kinds.{IsAmong, Kinds}
use Rattle.clap.specs.Lexer.{has_byte}
use Rattle.clap.specs.Simple.{subcommand_of}
use Rattle.clap.specs.Values.{kind_of}
use Rattle.clap.specs.Walk.{Row, Text}
use Rattle.clap.specs.declared.error.kind.ErrorKind.{ErrorKind}
use Rattle.clap.specs.declared.error.kind.ErrorKind.TheVariants as kind
use Rattle.command_words.specs.Asked.{grid_in, has_both, is_set, kinds_of, layer_words, most_in}
use Rattle.command_words.specs.CommandLine.{program_app}
use Rattle.command_words.specs.LayerWords.{equals_sign}
use Rattle.command_words.specs.declared.words_fault.WordsFault.{WordsFault}
use Rattle.command_words.specs.declared.words_fault.WordsFault.TheVariants.{Help, Refused, NoEquals, GridRange, Memory}

-- the line that reports it, which is `clap`'s where `clap` has a text
abbrev pub words_fault_text : WordsFault → Option (List ℕ)
words_fault_text (Help error) = None
words_fault_text (Refused error) = None
words_fault_text (NoEquals layer advice) = Some (((codes "error: layer " ++ decimal layer) ++ codes " has no =\n") ++ string_bytes advice)
words_fault_text GridRange = Some (codes "error: a grid has from 2 to 1000000000 cells\n")
words_fault_text Memory = Some []

-- an error of this kind prints help
abbrev pub is_help : ErrorKind → Bool
is_help kind.DisplayHelp = true
is_help kind.DisplayVersion = true
is_help _ = false

-- memory ran out
abbrev pub is_memory : ErrorKind → Bool
is_memory kind.OutOfMemory = true
is_memory _ = false

-- ---- words that `clap` takes

-- this is the number of the first word that has no `=`
abbrev pub IsFirstWithout : List Text → ℕ → Type 0
IsFirstWithout words layer = position (λ word. not (has_byte equals_sign word)) words ≡ Some layer

-- where nothing is to be explained there is no advice
abbrev pub IsAdvice : Bool → List ℕ → Type 0
IsAdvice explains advice = explains ≡ false → advice ≡ []

-- what is said of words for layers, but for want of memory
abbrev pub IsLayersFault : Bool → List Text → WordsFault → Type 0
IsLayersFault explains words Memory = Unit {0}
IsLayersFault explains words (NoEquals layer advice) = IsFirstWithout words layer × IsAdvice explains (string_bytes advice)
IsLayersFault explains words fault = ⊥

-- What is said of the arguments of `build`, but for want of memory, where no share stands beside an area: that its grid is out of range, or
-- else which is the first word for a layer that has no `=`, with advice only where the run is to be explained.
abbrev pub IsBuildFault : List Row → WordsFault → Type 0
IsBuildFault rows Memory = Unit {0}
IsBuildFault rows GridRange = (has_both rows ≡ false) × (grid_in rows ≡ None)
IsBuildFault rows (NoEquals layer advice) = (has_both rows ≡ false) × (is_some (grid_in rows) ≡ true)
    × IsLayersFault (is_set (codes "explain") rows) (layer_words rows) (NoEquals layer advice)
IsBuildFault rows fault = ⊥

-- of the command that is found and its arguments: only `build` has faults of its own
abbrev pub IsCommandFault : Option (Text × List Row) → WordsFault → Type 0
IsCommandFault found Memory = Unit {0}
IsCommandFault None fault = ⊥
IsCommandFault (Some found) fault = (bytes_eq found.0 (codes "build") ≡ true) × IsBuildFault found.1 fault

-- no command is found, or `build` or `simplify` with a share beside an area, or `geo` with a number of positions that is none
abbrev pub is_refused : Option (Text × List Row) → Bool
is_refused None = true
is_refused (Some found) = if bytes_eq found.0 (codes "build") then has_both found.1
    else (if bytes_eq found.0 (codes "simplify") then has_both found.1
    else (if bytes_eq found.0 (codes "geo") then not (is_some (most_in found.1))
    else not (bytes_eq found.0 (codes "stat"))))

-- ---- all words

-- The fault is one of words that `clap` refuses by one of these kinds, or takes if there are none, and in which it finds this command. Where
-- they ask for help, and for nothing else, that is what is reported, and where they don't it isn't.
abbrev pub IsFaultBy : Kinds → Option (Text × List Row) → WordsFault → Type 0
IsFaultBy kinds found (Help error) = IsAmong (kind_of error) kinds × (is_help (kind_of error) ≡ true)
IsFaultBy kinds found (Refused error) = ((kinds ≡ []) × (is_refused found ≡ true)) ⊎ (list_all is_help kinds ≡ false)
IsFaultBy kinds found Memory = Unit {0}
IsFaultBy kinds found fault = (kinds ≡ []) × IsCommandFault found fault

abbrev pub IsFaultOf : List Text → WordsFault → Type 0
IsFaultOf words fault = IsFaultBy (kinds_of words) (subcommand_of program_app words) fault
