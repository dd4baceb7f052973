-- The vertices of some indexes of a line, and candidates as corners.
use Rattle.std.specs.Prelude.{ℕ, pos, List, map, slice_index_or}
use Rattle.elimination_meaning.specs.Elimination.{Vertex, Corner}
use Rattle.effective_area.specs.declared.candidate.Candidate.{Candidate}
use Rattle.geometry.specs.Points.{Point}

abbrev pub origin : Point
origin = record { x = pos 0; y = pos 0 }

abbrev pub vertex_at : List Point → ℕ → Vertex
vertex_at ps i = record { index = i; point = slice_index_or ps i origin }

abbrev pub vertices : List Point → List ℕ → List Vertex
vertices ps is = map (vertex_at ps) is

-- the corner that a candidate stands for
abbrev pub candidate_corner : Candidate → Corner
candidate_corner c = record { area = c.area; point = c.point; index = c.index }
