-- What is counted in a topology, what is said of one that is made, and the text of a summary: a line each, ended by a line feed.
use Rattle.std.specs.Prelude.{ℕ, Bool, true, false, List, [], ◌∷◌, ◌++◌, Option, None, Some, is_some, length, map, min, sum, codes}
use Rattle.byte_ends.specs.Ends.{saturated}
use Rattle.geojson_types.specs.declared.counts.Counts.{Counts}
use Rattle.geometry.specs.declared.address.Dropped.{Dropped}
use Rattle.json_value.specs.Text.{quoted}
use Rattle.geometry.specs.Points.{Point}
use Rattle.topojson_types.specs.Topologies.{Contents, object_features}
use Rattle.topojson_types.specs.declared.object.TopoObject.{TopoObject}
use Rattle.reports.specs.declared.report.Report.{Report}
use Rattle.reports.specs.declared.summary.Summary.{Summary}
use Rattle.reports.specs.Losses.{lost}
use Rattle.reports.specs.Reports.{line_text}

-- ---- what is counted

-- the positions of all arcs
abbrev pub positions_in : List (List Point) → ℕ
positions_in arcs = saturated (sum (map length arcs))

-- these counts, what is dropped, how many of the features of these objects are lost, the arcs with their positions, how many were removed from
-- them, and the threshold that was chosen, if one was
abbrev pub report_with : Counts → List Dropped → List (List ℕ × TopoObject) → List (List Point) → ℕ → Option ℕ → Report
report_with counts dropped objects arcs removed chosen = record {
  counts = counts;
  dropped = dropped;
  lost = lost objects dropped;
  arcs = length arcs;
  kept = positions_in arcs;
  removed = removed;
  chosen = chosen;
}

-- the topology has a transform (TopoJSON 1.0, section 2.1.2)
abbrev pub has_grid : Contents → Bool
has_grid t = is_some t.transform

-- an object's name and the number of its features
abbrev pub counted : List ℕ × TopoObject → List ℕ × ℕ
counted o = (o.0, length (object_features o.1))

-- the objects in order with their features, the arcs, the positions in them, and whether there is a grid; crossings aren't counted
abbrev pub summary_with : List (List ℕ × TopoObject) → List (List Point) → Bool → Summary
summary_with objects arcs grid = record { objects = map counted objects; arcs = length arcs; positions = positions_in arcs; grid = grid; crossings = None }

-- those of a topology
abbrev pub summary_of : Contents → Summary
summary_of t = summary_with t.objects t.arcs (has_grid t)

-- as many crossings are counted at most
abbrev pub most_crossings : ℕ
most_crossings = 1000000

-- with so many crossings, or as many as are counted at most
abbrev pub with_crossings : ℕ → Summary → Summary
with_crossings n s = record { objects = s.objects; arcs = s.arcs; positions = s.positions; grid = s.grid; crossings = Some (min most_crossings n) }

-- ---- its text

-- an object's name as a JSON text, and the number of its features
abbrev pub object_text : List ℕ × ℕ → List ℕ
object_text o = line_text (quoted o.0) o.1

abbrev pub objects_text : List (List ℕ × ℕ) → List ℕ
objects_text [] = []
objects_text (o ∷ os) = object_text o ++ objects_text os

abbrev pub grid_text : Bool → List ℕ
grid_text true = codes "grid yes\n"
grid_text false = codes "grid no\n"

abbrev pub crossings_text : Option ℕ → List ℕ
crossings_text None = []
crossings_text (Some n) = line_text (codes "crossings") n

-- the arcs, the positions in them, whether there is a grid, and the crossings, where they are counted
abbrev pub totals_text : Summary → List ℕ
totals_text s = ((line_text (codes "arcs") s.arcs ++ line_text (codes "positions") s.positions) ++ grid_text s.grid) ++ crossings_text s.crossings

abbrev pub summary_text : Summary → List ℕ
summary_text s = (line_text (codes "objects") (length s.objects) ++ objects_text s.objects) ++ totals_text s
