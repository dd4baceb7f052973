-- The arcs of topologies by the positions that their cells stand for.
use Rattle.std.specs.Prelude.{ℕ, List}
use Rattle.geometry.specs.Points.{Point}
use Rattle.guarded_meaning.specs.Arcs.{crossings}
use Rattle.topojson_types.specs.Decoding.{placed_arcs}
use Rattle.topojson_types.specs.Topologies.{Contents}

-- the positions of its arcs
abbrev pub arc_positions : Contents → List (List Point)
arc_positions y = placed_arcs y.transform y.arcs

-- how many pairs of segments of its arcs meet badly
abbrev pub crossings_of : Contents → ℕ
crossings_of y = crossings (arc_positions y)
