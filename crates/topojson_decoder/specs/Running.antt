-- What is read of values one after another, each by what was read of the one before.
use Rattle.std.specs.Prelude.{List, [], ◌∷◌, ◌++◌}
use Rattle.json_value.specs.declared.json.Json.{Json}
use Rattle.topojson_meaning.specs.Reader.{Reader, ◌>>=◌, give}

-- one more value: what it is read as goes after the others, and what the next one is read by comes of it
abbrev pub running : {S B : Type 0} → (S → Json → Reader B) → (S → B → S) → S × List B → Json → Reader (S × List B)
running read next s v = do
  x ← read s.0 v
  give (next s.0 x, s.1 ++ x ∷ [])
