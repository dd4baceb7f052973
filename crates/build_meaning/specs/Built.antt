-- The topology that is built of layers.
use Rattle.std.specs.Prelude.{ℕ, ◌-◌, ℤ, Bool, List, Option, None, length, map, sum}
use Rattle.arc_table.specs.Arcs.{arcs_of, index_in}
use Rattle.cutter.specs.Pieces.{pieces}
use Rattle.elimination_meaning.specs.Elimination.{reduced}
use Rattle.geometry.specs.Points.{Point}
use Rattle.linework.specs.Linework.{linework}
use Rattle.junctions.specs.declared.stroke.Stroke.{Stroke}
use Rattle.topojson_types.specs.Topologies.{Contents}
use Rattle.build_meaning.specs.Expected.{own_pieces, own_cause, unless}
use Rattle.build_meaning.specs.Layers.{Named, layers_of}
use Rattle.build_meaning.specs.Objects.{objects_by}
use Rattle.build_meaning.specs.Trimming.{is_used, keep_from, trimmed}

-- the arcs of all lines: their distinct pieces up to reversal
abbrev pub all_arcs : List Stroke → List (List Point)
all_arcs lines = arcs_of (pieces lines)

-- the indexes of a line's pieces among the arcs, unless it is dropped
abbrev pub kept_refs : List Stroke → ℕ → ℕ → Bool → List Point → Option (List ℤ)
kept_refs lines t limit closed ps = unless (own_cause lines t limit closed ps) (map (index_in (all_arcs lines)) (own_pieces lines closed ps))

-- the layers over all arcs, each arc reduced once as it stands; there is no transform
abbrev pub untrimmed : ℕ → ℕ → Named → Contents
untrimmed t limit ls =
    record { objects = objects_by (kept_refs (linework (layers_of ls)) t limit) ls; arcs = map (reduced t) (all_arcs (linework (layers_of ls))); transform = None }

-- the layers over the arcs that a kept line uses, each arc reduced once as it stands; there is no transform
unfoldable pub built : ℕ → ℕ → Named → Contents
built t limit ls = trimmed (untrimmed t limit ls)

-- the arcs of lines that are kept, as they are before they are reduced
abbrev pub used_arcs : ℕ → ℕ → Named → List (List Point)
used_arcs t limit ls = keep_from (is_used (untrimmed t limit ls).objects) 0 (all_arcs (linework (layers_of ls)))

abbrev pub positions_of : List (List Point) → ℕ
positions_of arcs = sum (map length arcs)

-- how many positions reduction removes from the arcs that stay
unfoldable pub removed_count : ℕ → ℕ → Named → ℕ
removed_count t limit ls = positions_of (used_arcs t limit ls) - positions_of (map (reduced t) (used_arcs t limit ls))
