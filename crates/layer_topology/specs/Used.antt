-- What stays of arcs of which only those that are used are reduced.
use Rattle.std.specs.Prelude.{ℕ, Bool, List, if◌then◌else◌}
use Rattle.build_meaning.specs.Simplified.{retained}
use Rattle.geometry.specs.Joins.{first_of, or_empty}
use Rattle.geometry.specs.Lists.{tail}
use Rattle.geometry.specs.Points.{Point}

-- what stays of an arc: where it is used the cells with the first of these numbers, and else all
abbrev pub cells_left : Bool → List (List ℕ) → List Point → List Point
cells_left used numbers arc = if used then retained (or_empty (first_of numbers)) arc else arc

-- the numbers for the arcs after it
abbrev pub numbers_left : Bool → List (List ℕ) → List (List ℕ)
numbers_left used numbers = if used then tail numbers else numbers
