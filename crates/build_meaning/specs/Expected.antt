-- The features that are expected of a topology of layers, and the lines and rings that are dropped. No arcs are known here: each line
-- is cut into its own pieces, and each of these is reduced in the line's own direction.
use Rattle.std.specs.Prelude.{ℕ, Bool, ◌&&◌, ◌||◌, nat_lt, List, [], Option, None, Some, map, if◌then◌else◌}
use Rattle.cutter.specs.Pieces.{pieces_of, stitched}
use Rattle.elimination_meaning.specs.Elimination.{reduced}
use Rattle.geometry.specs.Areas.{twice_ring_area}
use Rattle.geometry.specs.declared.address.Cause.{Cause}
use Rattle.geometry.specs.declared.address.Cause.TheVariants.{Collapsed, Small}
use Rattle.geometry.specs.declared.address.Dropped.{Dropped}
use Rattle.geojson_types.specs.Features.{Shape, Featured}
use Rattle.geometry.specs.Lists.{then_some}
use Rattle.geometry.specs.DropCauses.{drop_causes, dropped_of_layers}
use Rattle.geometry.specs.Paths.{Placed}
use Rattle.geometry.specs.Points.{Point}
use Rattle.geometry.specs.Pruning.{prune}
use Rattle.junctions.specs.Cleaning.{clean, is_short}
use Rattle.linework.specs.Linework.{linework}
pub use Rattle.linework.specs.Outlines.{cleaned}
use Rattle.junctions.specs.declared.stroke.Stroke.{Stroke}
use Rattle.build_meaning.specs.Layers.{Named, layers_of}

-- ---- lines

-- the pieces of a line or ring, cut at the cut positions of all lines
abbrev pub own_pieces : List Stroke → Bool → List Point → List (List Point)
own_pieces lines closed ps = pieces_of lines (cleaned closed ps)

-- the pieces of a line or ring, each reduced, joined again; a ring begins at its start
abbrev pub rebuilt : List Stroke → ℕ → Bool → List Point → List Point
rebuilt lines t closed ps = stitched (map (reduced t) (own_pieces lines closed ps))

-- a rebuilt line is left with too few positions, with equal neighbours as one, or twice the area of a rebuilt ring is under the limit
abbrev pub is_small : ℕ → Bool → List Point → Bool
is_small limit closed ps = is_short closed (clean ps) || (closed && nat_lt (twice_ring_area ps) limit)

-- why it is dropped for its own sake: it has too few positions from the first, or else it is small when it is rebuilt
abbrev pub own_cause : List Stroke → ℕ → ℕ → Bool → List Point → Option Cause
own_cause lines t limit closed ps =
    if is_short closed (clean ps) then Some Collapsed else (if is_small limit closed (rebuilt lines t closed ps) then Some Small else None)

-- what stands for a line, unless there is a cause to drop it
abbrev pub unless : {A : Type 0} → Option Cause → A → Option A
unless None a = Some a
unless (Some c) a = None

-- the line as it is rebuilt, unless it is dropped
abbrev pub kept_line : List Stroke → ℕ → ℕ → Bool → List Point → Option (List Point)
kept_line lines t limit closed ps = unless (own_cause lines t limit closed ps) (rebuilt lines t closed ps)

-- ---- features and layers

-- the feature with its identifier and its properties, and its lines rebuilt
abbrev pub expected_feature : List Stroke → ℕ → ℕ → Featured → Featured
expected_feature lines t limit f = record { id = f.id; properties = f.properties; shape = then_some (prune (λ p. p) (kept_line lines t limit)) f.shape }

-- the layers with the features that are expected of them at a threshold and a least ring area, of which twice is the limit
unfoldable pub expected : ℕ → ℕ → Named → Named
expected t limit ls = map (λ l. (l.0, record { features = map (expected_feature (linework (layers_of ls)) t limit) l.1.features })) ls

-- the lines and rings of a shape that may be null that are dropped, and the ways to them
abbrev pub option_drop_causes : List Stroke → ℕ → ℕ → Option Shape → List (Placed Cause)
option_drop_causes lines t limit None = []
option_drop_causes lines t limit (Some s) = drop_causes (own_cause lines t limit) s

-- the lines and rings that are dropped, in reading order
unfoldable pub expected_dropped : ℕ → ℕ → Named → List Dropped
expected_dropped t limit ls = dropped_of_layers 0 (map (λ l. map (λ f. option_drop_causes (linework (layers_of ls)) t limit f.shape) l.1.features) ls)
