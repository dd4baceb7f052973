-- Words of which an option that takes a text and the word after it are made one, as `--min-area=..`, and `--explain` stands after the command.
use Rattle.std.specs.Prelude.{Bool, false, not, List, [], ◌∷◌, ◌++◌, ◌&&◌, ◌||◌, codes, if◌then◌else◌}
use Rattle.std.specs.List.{list_any}
use Rattle.std.specs.Str.{bytes_eq}
use Rattle.clap.specs.Walk.{Text}
use Rattle.command_words.specs.declared.joining.Next.{Next}
use Rattle.command_words.specs.declared.joining.Next.TheVariants.{Command, Explained, Alone, ValueOf, Following}

-- what a word is by those before it
pub data Place : Type 0 where
  -- the first word, which names a command
  first : Place
  -- the word after `--explain`, which names a command
  explained : Place
  -- a word of its own
  alone : Place
  -- the value of this option
  value_of : Text → Place
  -- a word that stays as it is, and so do those after it
  following : Place

-- the commands that have an option whose value may be any text
abbrev pub has_text_option : Text → Bool
has_text_option word = bytes_eq word (codes "build") || bytes_eq word (codes "simplify")

-- these options
abbrev pub takes_text : Text → Bool
takes_text word = bytes_eq word (codes "--min-area") || (bytes_eq word (codes "--keep") || bytes_eq word (codes "--min-ring-area"))

-- the word is a command that does something
abbrev pub is_command : Text → Bool
is_command word = has_text_option word || (bytes_eq word (codes "geo") || bytes_eq word (codes "stat"))

-- the option that asks for an explanation
abbrev pub is_explain : Text → Bool
is_explain word = bytes_eq word (codes "--explain")

-- what the word after this command is
abbrev pub after_command : Text → Place
after_command word = if has_text_option word then alone else following

-- what a word becomes, and what the next one is
abbrev pub word_joined : Place → Text → List Text × Place
word_joined first word = if is_explain word then ([], explained) else (word ∷ [], after_command word)
word_joined explained word = (if is_command word then word ∷ codes "--explain" ∷ [] else word ∷ [], after_command word)
word_joined alone word = if takes_text word then ([], value_of word)
    else (word ∷ [], if bytes_eq word (codes "--") then following else alone)
word_joined (value_of option) word = ((option ++ (codes "=" ++ word)) ∷ [], alone)
word_joined following word = (word ∷ [], following)

-- what is left where there is no word more
abbrev pub ending : Place → List Text
ending (value_of option) = option ∷ []
ending explained = codes "--explain" ∷ []
ending place = []

abbrev pub joined_from : Place → List Text → List Text
joined_from place [] = ending place
joined_from place (word ∷ words) = (word_joined place word).0 ++ joined_from (word_joined place word).1 words

abbrev pub joined : List Text → List Text
joined words = joined_from first words

abbrev pub place_of : Next → Place
place_of Command = first
place_of Explained = explained
place_of Alone = alone
place_of (ValueOf option) = value_of option.now
place_of Following = following

-- ---- where each run is to be explained

-- a command stands first, and `--explain` isn't among the words after it
abbrev pub lacks_explain : List Text → Bool
lacks_explain [] = false
lacks_explain (word ∷ words) = is_command word && not (list_any is_explain words)

-- the words with `--explain` before them, where they lack it
abbrev pub with_explain : List Text → List Text
with_explain words = if lacks_explain words then codes "--explain" ∷ words else words
