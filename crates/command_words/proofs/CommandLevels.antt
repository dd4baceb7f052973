-- What the command line asks for where it comes to one of its commands, and what getters read there.
use Rattle.std.proofs.Common.{◌≡◌, ◌∙◌, ◌++◌, List, [], ◌∷◌, Bool, true, false, Option, Some, None, codes, refl, sym, ap, ap₂, append-nil, append_assoc}
use Rattle.std.specs.Prelude.{is_some, option_and_then, option_map, slice_get, unwrap_or, find, fold}
use Rattle.std.specs.Option.{option_or}
use Rattle.std.specs.Str.{bytes_eq}
use Rattle.clap.specs.Walk.{Row, Text, Walk, answers_to, finished, idle, nothing_held, settled, walk_from, walked}
use Rattle.clap.specs.Simple.{App, Shape, built, entered, help_shape, label_of, names_of}
use Rattle.clap.specs.Kinds.{Kinds, or_else}
use Rattle.clap.specs.Faults.{check_fault, defaults_fault, entered_fault, level_fault, settle_fault, walk_fault}
use Rattle.clap.specs.declared.builder.value_parser.Reading.TheVariants.{AsWritten}
use Rattle.clap.specs.declared.parser.matches.ValueSource.TheVariants.{DefaultValue}
use Rattle.command_words.specs.Asked.{Ordered, ordered_in, where_none}
use Rattle.command_words.specs.CommandLine.{program_app}
use Rattle.command_words.proofs.RowLemmas.{defaults_pass, new_row, no_default_fault}
use Rattle.command_words.proofs.Settings.{row_if, value_row}

pub or_else_nil : (k : Kinds) → or_else k [] ≡ k
or_else_nil [] = refl
or_else_nil (k ∷ ks) = refl

-- ---- the program's own level

abbrev pub top : App
top = built program_app

-- the walk has met the command of this name, and these words after it
abbrev pub at_command : Text → List Text → Walk
at_command name words = record { held = nothing_held; waiting = idle; position = 1; is_trailing = false; stopped = Some (name, words) }

pub more_words : (name : Text) (before words : List Text) → fold (walked top.top.rules (names_of top)) (at_command name before) words ≡ at_command name (before ++ words)
unfolding walked
more_words name before [] = ap (at_command name) (sym (append-nil before))
more_words name before (word ∷ words) = more_words name (before ++ word ∷ []) words ∙ ap (at_command name) (append_assoc before (word ∷ []) words)

pub no_fault : (name : Text) (before words : List Text) → walk_fault top.top (names_of top) (at_command name before) words ≡ []
unfolding walked walk_fault
no_fault name before [] = refl
no_fault name before (word ∷ words) = no_fault name (before ++ word ∷ []) words

-- what is asked for, of the walk over the words and its faults
abbrev pub asked_at : Walk → Kinds → Option Ordered
asked_at w k = where_none (or_else k (or_else (entered_fault top w.stopped) (or_else (settle_fault top.top.rules top.top.args_override_self w.held)
    (or_else (defaults_fault (settled top.top.rules w.held).rows top.top.rules) (check_fault top.top (finished top.top.rules w.held) (is_some (entered top w.stopped)))))))
    (option_and_then ordered_in (entered top w.stopped))

-- the command of this name, built
abbrev pub shape_of : Text → Shape
shape_of name = unwrap_or (find (λ s. answers_to name (label_of s)) top.subs) help_shape

-- ---- the level of a command

module _ (s : Shape) where
  -- the checks after the walk
  abbrev pub checks : Walk → Kinds
  checks w = or_else (defaults_fault (settled s.rules w.held).rows s.rules) (check_fault s (finished s.rules w.held) false)

  abbrev pub level_at : Walk → Kinds → Kinds
  level_at w k = or_else k (or_else [] (or_else (settle_fault s.rules s.args_override_self w.held) (checks w)))

  pub no_level_fault : (given : List Text) (end : Walk) → fold (walked s.rules []) (walk_from nothing_held) given ≡ end → walk_fault s [] (walk_from nothing_held) given ≡ []
      → settle_fault s.rules s.args_override_self end.held ≡ [] → defaults_pass s.rules ≡ true → check_fault s (finished s.rules end.held) false ≡ []
      → level_fault s [] nothing_held given false [] ≡ []
  no_level_fault given end ends faultless settles defaults checked =
      ap₂ level_at ends faultless ∙ ap₂ or_else settles (ap₂ or_else (no_default_fault (settled s.rules end.held).rows s.rules defaults) checked)

-- ---- what getters read

abbrev pub first_text : Option Row → Option Text
first_text = option_and_then (λ (r : Row). slice_get r.values 0)

pub text_read : (id : Text) (o : Option Text) → first_text (option_or (option_or (option_map (value_row id AsWritten) o) None) None) ≡ o
text_read id None = refl
text_read id (Some text) = refl

-- a flag that isn't given has a default
pub flag_read : (id : Text) (b : Bool)
    → bytes_eq (unwrap_or (first_text (option_or (option_or (row_if id b) None) (Some (new_row id AsWritten DefaultValue (codes "false" ∷ []))))) []) (codes "true") ≡ b
flag_read id true = refl
flag_read id false = refl
