-- Arcs that stand as they are written where there is no transform.
use Rattle.std.specs.Prelude.{◌≡◌, List, ◌++◌, ℕ, None, map}
use Rattle.std.specs.List.{AllByRecursion}
use Rattle.geometry.specs.Points.{Point, IsInput}
use Rattle.topojson_types.specs.Values.{cell_value}
use Rattle.json_cursor.specs.Copying.{elements_text}

-- these positions stand so after the bracket of an arc, and then the rest
pub record AreSpelled (cells : List Point) (inside rest : List ℕ) : Type 0 where
  pub text : inside ≡ elements_text (map (cell_value None) cells) ++ rest
  pub within : AllByRecursion IsInput cells
