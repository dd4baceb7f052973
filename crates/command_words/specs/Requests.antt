-- Grids that a request may ask for.
use Rattle.std.specs.Prelude.{◌≤◌, ◌^◌, ℕ, IfSome}
use Rattle.command_words.specs.declared.request.Request.{Request}
use Rattle.command_words.specs.declared.request.Request.TheVariants.{Build, Simplify, Geo, Stat}

-- a grid may have so many cells along each axis
abbrev pub IsCells : ℕ → Type 0
IsCells n = (2 ≤ n) × (n ≤ 10 ^ 9)

-- a grid that is asked for may have its number of cells
abbrev pub IsInRange : Request → Type 0
IsInRange (Build layers exact grid area keep ring_area no_crossings keep_shapes) = IfSome grid IsCells
IsInRange (Simplify area keep ring_area no_crossings keep_shapes path) = Unit {0}
IsInRange (Geo name most path) = Unit {0}
IsInRange (Stat crossings path) = Unit {0}
