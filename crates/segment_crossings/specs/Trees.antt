-- Segments in a tree of runs.
use Rattle.std.specs.Prelude.{◌≡◌, ℕ, ◌-◌, ◌<◌, ◌≤◌, List, length}
use Rattle.std.specs.List.{All}
use Rattle.segment_crossings.specs.declared.line.Line.{Line}
use Rattle.segment_crossings.specs.declared.run.Run.{Run}
use Rattle.segment_crossings.specs.declared.tree.Node.{Node}
use Rattle.segment_crossings.specs.declared.tree.Tree.{Tree}
use Rattle.segment_crossings.specs.Lines.{Each, bad_across, bad_from, bad_inside}
use Rattle.segment_crossings.specs.Marks.{IsIn, IsMark}

-- how many of a run meet it badly
abbrev pub bad_in : List Line → Line → Run → ℕ
bad_in ls l x = bad_from ls l x.first - bad_from ls l x.end

-- how many pairs of one of a run and one of another meet badly
abbrev pub bad_between : List Line → Run → Run → ℕ
bad_between ls x y = bad_across ls x.first (x.end - x.first) y.first - bad_across ls x.first (x.end - x.first) y.end

-- how many pairs of two of a run meet badly
abbrev pub bad_within : List Line → Run → ℕ
bad_within ls x = bad_inside ls x.first (x.end - x.first) x.end

-- its box holds the segments of its run
pub record IsNode (ls : List Line) (n : Node) : Type 0 where
  pub order : n.run.first ≤ n.run.end
  pub within : n.run.end ≤ length ls
  pub holds : Each (IsIn n.extent) ls n.run.first n.run.end

-- the root is the node of all segments
pub record IsTree (t : Tree) : Type 0 where
  pub nodes : All (IsNode t.lines.items) t.nodes.items
  pub marks : All (IsMark t.lines.items) t.marks.items
  pub root : IsNode t.lines.items t.root
  pub first : t.root.run.first ≡ 0
  pub end : t.root.run.end ≡ length t.lines.items

-- the first run ends where the second begins, both are a third one, and neither is empty
pub record AreParts (x a b : Run) : Type 0 where
  pub first : a.first ≡ x.first
  pub middle : a.end ≡ b.first
  pub end : b.end ≡ x.end
  pub some : a.first < a.end
  pub more : b.first < b.end
