-- Arcs of which only the ends are kept, and how many positions they have.
use Rattle.std.specs.Prelude.{ℕ, ◌+◌, ◌==◌, List, [], ◌∷◌, ◌++◌, Option, Some, length, map, sum, if◌then◌else◌}
use Rattle.byte_ends.specs.Ends.{saturated}
use Rattle.json_value.specs.declared.json.Json.{Json}
use Rattle.geometry.specs.Points.{Point}
use Rattle.topojson_types.specs.declared.transform.Transform.{Transform}
use Rattle.topojson_meaning.specs.Arcs.{arc, arc_list}
use Rattle.topojson_meaning.specs.Reader.{Reader, ◌>>=◌, give}
use Rattle.topojson_decoder.specs.declared.arc_ends.KeptArcs.{KeptArcs}
use Rattle.topojson_decoder.specs.Cells.{Before, next_cell, after_cell}

-- ---- one arc

abbrev pub last_from : Point → List Point → Point
last_from c [] = c
last_from c (d ∷ ds) = last_from d ds

-- its first cell and its last one
abbrev pub ends : List Point → List Point
ends [] = []
ends (c ∷ cs) = c ∷ last_from c cs ∷ []

-- the same with one more cell
abbrev pub more_ends : List Point → Point → List Point
more_ends [] cell = cell ∷ cell ∷ []
more_ends (first ∷ rest) cell = first ∷ cell ∷ []

-- the ends of so many cells
abbrev pub ends_from : ℕ → Point → Point → List Point
ends_from count first last = if count == 0 then [] else first ∷ last ∷ []

-- the ends, and the number of cells
abbrev pub ends_of : List Point → List Point × ℕ
ends_of cells = (ends cells, saturated (length cells))

abbrev pub with_more : List Point × ℕ → Point → List Point × ℕ
with_more s cell = (more_ends s.0 cell, saturated (s.1 + 1))

-- what is kept of the cells so far, and by what the next one is read
abbrev pub EndsSoFar : Type 0
EndsSoFar = Before × (List Point × ℕ)

abbrev pub with_end : EndsSoFar → Json → Reader EndsSoFar
with_end s v = do
  cell ← next_cell s.0 v
  give (after_cell s.0 cell, with_more s.1 cell)

-- what is kept of the arc that a value is
abbrev pub arc_ends : Option Transform → Json → Reader (List Point × ℕ)
arc_ends transform v = do
  cells ← arc transform v
  give (ends_of cells)

-- ---- all arcs

abbrev pub all_positions : List (List Point) → ℕ
all_positions arcs = saturated (sum (map length arcs))

-- the ends of each, and the number of the positions of all
abbrev pub ends_of_all : List (List Point) → List (List Point) × ℕ
ends_of_all arcs = (map ends arcs, all_positions arcs)

abbrev pub with_more_arcs : List (List Point) × ℕ → List Point × ℕ → List (List Point) × ℕ
with_more_arcs s one = (s.0 ++ one.0 ∷ [], saturated (s.1 + one.1))

-- what is kept of the arcs so far, and the transform by which the next one is read
abbrev pub EndsOfArcsSoFar : Type 0
EndsOfArcsSoFar = Option Transform × (List (List Point) × ℕ)

abbrev pub with_arc_ends : EndsOfArcsSoFar → Json → Reader EndsOfArcsSoFar
with_arc_ends s v = do
  one ← arc_ends s.0 v
  give (s.0, with_more_arcs s.1 one)

-- what is kept of the arcs that a value is
abbrev pub ends_kept : List (List Point) → KeptArcs
ends_kept arcs = record { list = map ends arcs; positions = Some (all_positions arcs) }

abbrev pub arc_ends_list : Option Transform → Json → Reader KeptArcs
arc_ends_list transform v = do
  arcs ← arc_list transform v
  give (ends_kept arcs)
