-- What is left of a topology where small rings go first: where guards are asked for and rings may enclose too little, what is small as it stands is
-- left out before arcs are reduced, with the arcs that no other line uses, so that it holds nothing and is no part of a share. What is small then,
-- of the rest, is left out as ever.
use Rattle.std.specs.Prelude.{ℕ, suc, ◌&&◌, nat_lt, Bool, true, List, [], ◌∷◌, Option, None, Some, map, if◌then◌else◌}
use Rattle.elimination_meaning.specs.Elimination.{numbered}
use Rattle.geojson_types.specs.Features.{Shape}
use Rattle.geometry.specs.declared.address.Cause.{Cause}
use Rattle.geometry.specs.declared.address.Cause.TheVariants.{Collapsed, Small, Outer}
use Rattle.geometry.specs.declared.address.Dropped.{Dropped}
use Rattle.geometry.specs.declared.shape.Geometry.{Geometry, fold-Geometry}
use Rattle.geometry.specs.declared.shape.Geometry.TheOpen.{Geometry-F}
use Rattle.geometry.specs.declared.shape.Geometry.TheVariants as g
use Rattle.geometry.specs.DropCauses.{drop_causes, dropped_of_layers}
use Rattle.geometry.specs.Joins.{or_empty, first_of}
use Rattle.geometry.specs.Lists.{tail}
use Rattle.geometry.specs.Paths.{Placed}
use Rattle.geometry.specs.Points.{Point}
use Rattle.linework.specs.Linework.{linework}
use Rattle.topojson_types.specs.Decoding.{placed_arcs}
use Rattle.topojson_types.specs.Topologies.{TopoShape, Contents, object_features}
use Rattle.build_meaning.specs.ArcPositions.{arc_positions}
use Rattle.build_meaning.specs.Assembled.{arcs_of_layers}
use Rattle.build_meaning.specs.Built.{untrimmed, built, removed_count}
use Rattle.build_meaning.specs.Expected.{expected_dropped}
use Rattle.build_meaning.specs.Layers.{Named, layers_of}
use Rattle.build_meaning.specs.Left.{Left, is_at_once, protection_of, left_indexes, left_of}
use Rattle.build_meaning.specs.LayersMarked.{layer_shape_marked, unprotected_cause}
use Rattle.build_meaning.specs.Protected.{Protection, cause_sparing, shape_marked, spared_whole}
use Rattle.build_meaning.specs.Simplified.{retained_arcs, small_cause}
use Rattle.build_meaning.specs.Trimming.{is_used, trimmed}
use Rattle.build_meaning.specs.declared.guards.Guards.{Guards}

-- ---- arcs that go first and stay whole

-- the numbers of all positions
abbrev pub all_indexes : List Point → List ℕ
all_indexes ps = map (λ v. v.index) (numbered 0 ps)

-- for the arcs whose numbers pass these lists, one after another, and for the others all numbers, where the first arc has this number
abbrev pub spread : (ℕ → Bool) → ℕ → List (List ℕ) → List (List Point) → List (List ℕ)
spread passes i kept [] = []
spread passes i kept (ps ∷ arcs) =
    if passes i then or_empty (first_of kept) ∷ spread passes (suc i) (tail kept) arcs else all_indexes ps ∷ spread passes (suc i) kept arcs

-- ---- what goes first

abbrev pub goes_first : Guards → ℕ → Bool
goes_first guards limit = is_at_once guards && nat_lt 0 limit

-- the topology with all its arcs as they are, without the lines and rings that are small as they stand, protected rings aside
abbrev pub first_whole : Guards → ℕ → Contents → Contents
first_whole guards limit y = spared_whole (protection_of guards y) (map all_indexes y.arcs) limit y

-- and without the arcs that no line uses then
abbrev pub left_at_first : Guards → ℕ → Contents → Contents
left_at_first guards limit y = trimmed (first_whole guards limit y)

-- the topology whose arcs are reduced: where small rings go first what is left then, and else it as it is
abbrev pub without_small : Guards → ℕ → Contents → Contents
without_small guards limit y = if goes_first guards limit then left_at_first guards limit y else y

-- of each of its arcs the numbers of the cells that stay at a threshold where what is left at first is reduced; of the arcs that go then all do
abbrev pub indexes_from_first : Guards → ℕ → ℕ → Contents → List (List ℕ)
indexes_from_first guards t limit y = spread (is_used (first_whole guards limit y).objects) 0 (left_indexes guards t (left_at_first guards limit y)) y.arcs

-- and of the arcs of either
abbrev pub indexes_in_turn : Guards → ℕ → ℕ → Contents → List (List ℕ)
indexes_in_turn guards t limit y = if goes_first guards limit then indexes_from_first guards t limit y else left_indexes guards t y

-- of each arc the positions that stay
abbrev pub arcs_in_turn : Guards → ℕ → ℕ → Contents → List (List Point)
arcs_in_turn guards t limit y = placed_arcs y.transform (retained_arcs (indexes_in_turn guards t limit y) y.arcs)

-- ---- why a line or ring is dropped

-- Why it is dropped for its own sake, as it stood or else as it is left, where this is why the ring around it goes at first, if there is one that
-- does. With that ring a hole goes at first, too; but one that had too few positions from the first is in no topology, nor are its holes.
abbrev pub cause_in_turn : Option Cause → Option Cause → Option Cause → Option Cause
cause_in_turn None None later = later
cause_in_turn None (Some c) later = Some c
cause_in_turn (Some Collapsed) first later = later
cause_in_turn (Some Small) first later = first
cause_in_turn (Some Outer) first later = first

-- a line or ring, and the outer ring of its polygon where it is a hole
abbrev pub Paired : Type 0 → Type 0
Paired L = Option L × L

-- why it is dropped for its own sake, where it is known of each line (false) and ring (true) why it is at first, and why it is then
abbrev pub judged : {L : Type 0} → (Bool → L → Option Cause) → (Bool → L → Option Cause) → Bool → Paired L → Option Cause
judged first later closed (None, l) = cause_in_turn None (first closed l) (later closed l)
judged first later closed (Some outer, l) = cause_in_turn (first true outer) (first closed l) (later closed l)

-- a line or ring that is no hole
abbrev pub unpaired : {L : Type 0} → L → Paired L
unpaired l = (None, l)

abbrev pub rings_paired : {L : Type 0} → List L → List (Paired L)
rings_paired [] = []
rings_paired (outer ∷ holes) = unpaired outer ∷ map (λ hole. (Some outer, hole)) holes

-- one level, with the paired shapes of a group in their place
abbrev pub paired_step : {P L : Type 0} → Geometry-F P L L (Geometry P (Paired L) (Paired L)) → Geometry P (Paired L) (Paired L)
paired_step (Geometry-F.Point p) = g.Point p
paired_step (Geometry-F.MultiPoint ps) = g.MultiPoint ps
paired_step (Geometry-F.Line l) = g.Line (unpaired l)
paired_step (Geometry-F.Lines ls) = g.Lines (map unpaired ls)
paired_step (Geometry-F.Area rs) = g.Area (rings_paired rs)
paired_step (Geometry-F.Areas areas) = g.Areas (map rings_paired areas)
paired_step (Geometry-F.Group ss) = g.Group ss

-- the shape with each hole beside the outer ring of its polygon
unfoldable pub paired : {P L : Type 0} → Geometry P L L → Geometry P (Paired L) (Paired L)
paired {P} {L} = fold-Geometry P L L (Geometry P (Paired L) (Paired L)) paired_step

-- the lines and rings of a shape that are dropped, and the ways to them
abbrev pub drops_in_turn : {P L : Type 0} → (Bool → L → Option Cause) → (Bool → L → Option Cause) → Geometry P L L → List (Placed Cause)
drops_in_turn first later s = drop_causes (judged first later) (paired s)

-- ---- topologies

-- the lines and rings that are dropped of a shape that may be null, where a ring is protected, at first as they are rebuilt of these arcs, and then of
-- those
abbrev pub option_dropped_in_turn : Protection → ℕ → List (List Point) → List (List Point) → Option TopoShape → List (Placed Cause)
option_dropped_in_turn protects limit first later None = []
option_dropped_in_turn protects limit first later (Some s) =
    drops_in_turn (cause_sparing (small_cause limit first)) (cause_sparing (small_cause limit later)) (shape_marked protects s)

-- those of all features, in reading order; an object stands in the place of a layer
unfoldable pub dropped_in_turn : Guards → ℕ → ℕ → Contents → List Dropped
dropped_in_turn guards t limit y =
    dropped_of_layers 0 (map (λ o. map (λ f.
    option_dropped_in_turn (protection_of guards y) limit (arc_positions y) (arcs_in_turn guards t limit y) f.shape)
    (object_features o.1)) y.objects)

-- what is left of a topology at a threshold, and by a limit of twice the area that a ring may enclose
abbrev pub left_in_turn : Guards → ℕ → ℕ → Contents → Left
left_in_turn guards t limit y = if goes_first guards limit then record {
  contents = (left_of guards t limit (without_small guards limit y)).contents;
  dropped = dropped_in_turn guards t limit y;
  removed_count = (left_of guards t limit (without_small guards limit y)).removed_count;
} else left_of guards t limit y

-- ---- layers

-- Of each arc of all lines of layers the positions that stay. What is reduced is built of the layers at zero, without what goes first. The arcs that
-- aren't in it, since they go first or only holes of dropped rings have them, stay whole.
abbrev pub layers_arcs_left : Guards → ℕ → ℕ → Named → List (List Point)
layers_arcs_left guards t limit ls = retained_arcs (indexes_from_first guards t limit (untrimmed 0 0 ls)) (untrimmed 0 0 ls).arcs

-- why a line or ring is dropped, where it is rebuilt of the arcs as they are and then as they are left
abbrev pub option_caused_in_turn : Guards → ℕ → ℕ → Named → Option Shape → List (Placed Cause)
option_caused_in_turn guards t limit ls None = []
option_caused_in_turn guards t limit ls (Some s) =
    drops_in_turn (unprotected_cause (linework (layers_of ls)) (arcs_of_layers ls) limit) (unprotected_cause (linework (layers_of ls)) (layers_arcs_left guards t limit ls) limit)
    (layer_shape_marked guards.keep_shapes ls s)

-- the lines and rings of layers that are dropped, in reading order
unfoldable pub layers_dropped_in_turn : Guards → ℕ → ℕ → Named → List Dropped
layers_dropped_in_turn guards t limit ls = dropped_of_layers 0 (map (λ l. map (λ f. option_caused_in_turn guards t limit ls f.shape) l.1.features) ls)

-- where each arc is reduced by itself it is what is built of the layers at the threshold
abbrev pub built_left : ℕ → ℕ → Named → Left
built_left t limit ls = record { contents = built t limit ls; dropped = expected_dropped t limit ls; removed_count = removed_count t limit ls }

-- What is left of layers: where guards are asked for, of what is built of them at zero, with the lines and rings of the layers that are dropped.
abbrev pub layers_left_in_turn : Guards → ℕ → ℕ → Named → Left
layers_left_in_turn guards t limit ls = if is_at_once guards then record {
  contents = (left_in_turn guards t limit (built 0 0 ls)).contents;
  dropped = layers_dropped_in_turn guards t limit ls;
  removed_count = (left_in_turn guards t limit (built 0 0 ls)).removed_count;
} else built_left t limit ls
