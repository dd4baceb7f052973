-- What is true of reducing a topology again.
use Rattle.std.specs.Prelude.{◌≡◌, ℕ, List, Option, None, Some, map}
use Rattle.std.specs.List.{AllByRecursion}
use Rattle.build_meaning.specs.Built.{built, removed_count}
use Rattle.build_meaning.specs.Expected.{expected, expected_dropped}
use Rattle.build_meaning.specs.BuiltLaws.{AreSound}
use Rattle.build_meaning.specs.Layers.{Named, names_of, layers_of}
use Rattle.elimination_meaning.specs.Elimination.{reduce, reduced}
use Rattle.geojson_types.specs.declared.id.Id.{Id}
use Rattle.geojson_types.specs.declared.layer.FeatureSet.TheVariants as set
use Rattle.geometry.specs.Points.{Point}
use Rattle.json_value.specs.declared.json.Json.{Json}
use Rattle.linework.specs.Laws.{layers_points}
use Rattle.topojson_types.specs.declared.transform.Transform.{Transform}
use Rattle.topojson_types.specs.Decoding.{decoded}
use Rattle.topojson_types.specs.Topologies.{Contents, object_features}
use Rattle.topojson_types.specs.Transforms.{IsTransform}
use Rattle.topojson_types.specs.Validity.{AreDistinct, IsTopology}
use Rattle.build_meaning.specs.Assembled.{arcs_of_layers, arc_indexes, assembled, assembled_dropped, assembled_removed_count}
use Rattle.build_meaning.specs.Celled.{celled, LiesBack, IsOnGrid, EachCell}
use Rattle.build_meaning.specs.Simplified.{retained, EachFromFirstToLast, simplified_by}
use Rattle.build_meaning.specs.Thresholds.{reduced_indexes}

-- ---- reduction

-- the positions of the indexes that stay are those of the reduced line
abbrev pub RetainedIsReduced : Type 0
RetainedIsReduced = (t : ℕ) (ps : List Point) → retained (reduce t ps) ps ≡ reduced t ps

-- the name of each object, with the identifier and the properties of each of its features, in order
abbrev pub labels : Contents → List (List ℕ × List (Option Id × Option (List (List ℕ × Json))))
labels y = map (λ o. (o.0, map (λ f. (f.id, f.properties)) (object_features o.1))) y.objects

-- reducing a topology leaves all of them, and its transform
abbrev pub SimplifiedKeeps : Type 0
SimplifiedKeeps = (kept : List (List ℕ)) (limit : ℕ) (y : Contents) → (labels (simplified_by kept limit y) ≡ labels y) × ((simplified_by kept limit y).transform ≡ y.transform)

-- ---- on a grid

-- where the cell of each position lies at it, the same is decoded of the cells
abbrev pub CelledDecodes : Type 0
CelledDecodes = (transform : Transform) (cell : Point → Point) (y : Contents) (name : List ℕ) → y.transform ≡ None → EachCell (LiesBack transform cell) y
    → decoded (celled transform cell y) name ≡ decoded y name

-- what is built of layers whose positions lie on the grid decodes to the same features by its cells
abbrev pub BuiltDecodesOnGrid : Type 0
BuiltDecodesOnGrid = (transform : Transform) (cell : Point → Point) (t limit : ℕ) (ls : Named) (name : List ℕ) → AllByRecursion (LiesBack transform cell) (layers_points (layers_of ls))
    → decoded (celled transform cell (built t limit ls)) name ≡ decoded (built t limit ls) name

-- decoding what is built on the grid gives each layer the features that are expected of it
abbrev pub DecodesBackOnGrid : Type 0
DecodesBackOnGrid = (transform : Transform) (cell : Point → Point) (t limit : ℕ) (ls : Named) → AreSound ls → AreDistinct (names_of ls)
    → AllByRecursion (LiesBack transform cell) (layers_points (layers_of ls))
    → AllByRecursion (λ l. decoded (celled transform cell (built t limit ls)) l.0 ≡ Some (set.Many l.1.features)) (expected t limit ls)

-- a valid topology whose positions lie on a grid is valid on it
abbrev pub CelledIsValid : Type 0
CelledIsValid = (transform : Transform) (cell : Point → Point) (y : Contents) → IsTransform transform → y.transform ≡ None → EachCell (IsOnGrid transform cell) y
    → IsTopology y → IsTopology (celled transform cell y)

-- what is built of layers whose positions lie on a grid is valid on it
abbrev pub BuiltIsValidOnGrid : Type 0
BuiltIsValidOnGrid = (transform : Transform) (cell : Point → Point) (t limit : ℕ) (ls : Named) → IsTransform transform → AreSound ls → AreDistinct (names_of ls)
    → AllByRecursion (IsOnGrid transform cell) (layers_points (layers_of ls)) → IsTopology (celled transform cell (built t limit ls))

-- ---- validity

-- the numbers of the cells that stay begin with the first and end with the last
abbrev pub IndexesReach : Type 0
IndexesReach = (t : ℕ) (y : Contents) → IsTopology y → EachFromFirstToLast (reduced_indexes t y) y.arcs

-- ---- assembling

-- what is assembled of layers with each arc reduced at a threshold is what is built of them
abbrev pub AssemblesToBuilt : Type 0
AssemblesToBuilt = (t limit : ℕ) (ls : Named) → AreSound ls → assembled (arc_indexes t ls) limit ls ≡ built t limit ls

-- the lines and rings that are dropped are those that are expected to be
abbrev pub AssemblingDropsExpected : Type 0
AssemblingDropsExpected = (t limit : ℕ) (ls : Named) → AreSound ls → assembled_dropped (arc_indexes t ls) limit ls ≡ expected_dropped t limit ls

-- as many positions are removed as reduction removes
abbrev pub AssemblingRemoves : Type 0
AssemblingRemoves = (t limit : ℕ) (ls : Named) → AreSound ls → assembled_removed_count (arc_indexes t ls) limit ls ≡ removed_count t limit ls

-- the numbers of the positions that stay of the layers' arcs begin with the first and end with the last
abbrev pub ArcIndexesReach : Type 0
ArcIndexesReach = (t : ℕ) (ls : Named) → AreSound ls → EachFromFirstToLast (arc_indexes t ls) (arcs_of_layers ls)
