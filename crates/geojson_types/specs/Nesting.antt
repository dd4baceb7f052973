-- How deep shapes and features nest as JSON (RFC 7946, sections 3.1 and 3.2).
use Rattle.std.specs.Prelude.{ℕ, ◌+◌, max, List, Option, None, Some}
use Rattle.json_value.specs.declared.json.Json.{Json}
use Rattle.json_value.specs.declared.json.Json.TheVariants as j
use Rattle.json_value.specs.Depth.{depth, greatest}
use Rattle.geometry.specs.declared.shape.Geometry.{Geometry, fold-Geometry}
use Rattle.geometry.specs.declared.shape.Geometry.TheOpen.{Geometry-F}
use Rattle.geojson_types.specs.Features.{Featured}

-- one level, with the depths of the shapes of a group in their place
abbrev pub nesting_step : {P L : Type 0} → Geometry-F P L L ℕ → ℕ
nesting_step (Geometry-F.Point p) = 2
nesting_step (Geometry-F.MultiPoint ps) = 3
nesting_step (Geometry-F.Line l) = 3
nesting_step (Geometry-F.Lines ls) = 4
nesting_step (Geometry-F.Area rs) = 4
nesting_step (Geometry-F.Areas areas) = 5
nesting_step (Geometry-F.Group ns) = 2 + greatest ns

-- the depth of a geometry object: an object around nested arrays of numbers, or around an array of geometry objects
unfoldable pub nesting : {P L : Type 0} → Geometry P L L → ℕ
nesting {P} {L} = fold-Geometry P L L ℕ nesting_step

-- of a geometry that may be null
abbrev pub option_nesting : {P L : Type 0} → Option (Geometry P L L) → ℕ
option_nesting None = 0
option_nesting (Some s) = nesting s

-- of properties that may be null
abbrev pub properties_nesting : Option (List (List ℕ × Json)) → ℕ
properties_nesting None = 0
properties_nesting (Some ms) = depth (j.Object ms)

-- the deeper of the geometry and of an object around the properties
abbrev pub feature_nesting : Featured → ℕ
feature_nesting f = max (option_nesting f.shape) (1 + properties_nesting f.properties)
