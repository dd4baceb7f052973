-- Which values are read as themselves, once they are written.
use Rattle.std.specs.Prelude.{ℕ, ◌≤◌, List, IsUtf8}
use Rattle.json_value.specs.declared.json.Json.{Json}
use Rattle.json_value.specs.Depth.{depth}
use Rattle.json_value.specs.WellFormed.{IsWellFormed}

-- it is well formed, and arrays and objects nest no deeper than this in it
pub record IsReadable (deepest : ℕ) (v : Json) : Type 0 where
  pub formed : IsWellFormed v
  pub nests : depth v ≤ deepest

-- the value of a member is well formed, with nesting no deeper than this, and its name is UTF-8
abbrev pub IsReadableMember : ℕ → List ℕ × Json → Type 0
IsReadableMember deepest m = IsUtf8 m.0 × IsReadable deepest m.1
