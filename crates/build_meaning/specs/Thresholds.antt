-- The arcs of topologies, each reduced by itself, by the positions that its cells stand for (Visvalingam and Whyatt 1993).
use Rattle.std.specs.Prelude.{ℕ, List, Option, None, Some, map}
use Rattle.elimination_meaning.specs.Elimination.{reduce}
use Rattle.geometry.specs.Points.{Point}
use Rattle.topojson_types.specs.declared.transform.Transform.{Transform}
use Rattle.topojson_types.specs.Topologies.{Contents}
use Rattle.topojson_types.specs.Transforms.{place_on}

-- the positions that cells stand for; without a transform these are the cells
abbrev pub placed_cells : Option Transform → List Point → List Point
placed_cells None cells = cells
placed_cells (Some t) cells = map (place_on t) cells

-- of each arc the numbers of the cells that stay where the positions that they stand for are reduced
abbrev pub reduced_indexes : ℕ → Contents → List (List ℕ)
reduced_indexes t y = map (λ cells. reduce t (placed_cells y.transform cells)) y.arcs
