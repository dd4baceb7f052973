-- The lines of an explanation, as JSON texts.
use Rattle.std.specs.Prelude.{ℕ, ◌==◌, if◌then◌else◌, List, [], ◌∷◌, map}
use Rattle.json_value.specs.declared.json.Json.{Json}
use Rattle.json_value.specs.declared.json.Json.TheVariants as j
use Rattle.json_value.specs.Text.{json_text}

-- a line feed
abbrev pub line_feed : ℕ
line_feed = 10

abbrev pub blank : ℕ
blank = 32

-- the line that all of a text is, unless it is empty
abbrev pub one_line : List ℕ → List (List ℕ)
one_line [] = []
one_line (b ∷ text) = (b ∷ text) ∷ []

-- these lines with a byte in front of the first, which is a line of its own where there are none
abbrev pub begin_line : ℕ → List (List ℕ) → List (List ℕ)
begin_line b [] = (b ∷ []) ∷ []
begin_line b (line ∷ lines) = (b ∷ line) ∷ lines

-- the lines of a text: a line feed ends each, but for the last where the text ends without one
abbrev pub lines_of : List ℕ → List (List ℕ)
lines_of [] = []
lines_of (b ∷ text) = if b == line_feed then [] ∷ lines_of text else begin_line b (lines_of text)

-- a text without the blank that it begins with, if it does
abbrev pub without_blank : List ℕ → List ℕ
without_blank [] = []
without_blank (b ∷ text) = if b == blank then text else b ∷ text

-- a line without its indent, which is up to two blanks
abbrev pub line_value : List ℕ → Json
line_value line = j.Text (without_blank (without_blank line))

abbrev pub line_text : List ℕ → List ℕ
line_text line = json_text (line_value line)

abbrev pub lines_value : List ℕ → Json
lines_value text = j.Array (map line_value (lines_of text))
