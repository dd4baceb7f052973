-- The positions that fill up a ring.
use Rattle.std.specs.Prelude.{ℕ, List, [], Option, None, Some}
use Rattle.geometry.specs.Points.{Point}
use Rattle.topojson_types.specs.Decoding.{repeated}

-- the position so many times, if there is one
abbrev pub filling : Option Point → ℕ → List Point
filling None n = []
filling (Some p) n = repeated n p
