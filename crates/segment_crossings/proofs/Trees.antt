-- Runs, and the two parts of one.
use Rattle.std.proofs.Common.{◌≡◌, ℕ, ◌+◌, ◌-◌, ◌≤◌, false, List, length, map, ap, arith}
use Rattle.guarded_meaning.specs.Segments.{Segment, meets_badly, bad_pairs}
use Rattle.segment_crossings.specs.declared.line.Line.{Line}
use Rattle.segment_crossings.specs.declared.run.Run.{Run}
use Rattle.segment_crossings.specs.declared.tree.Node.{Node}
use Rattle.segment_crossings.specs.declared.tree.Tree.{Tree}
use Rattle.segment_crossings.specs.Lines.{Each, as_segment, bad_across, bad_from, bad_inside}
use Rattle.segment_crossings.specs.Marks.{IsIn}
use Rattle.segment_crossings.specs.Trees.{AreParts, IsNode, IsTree, bad_between, bad_in, bad_within}
use Rattle.segment_crossings.proofs.Across.{across_cut, across_fewer, across_past, across_skipped, inside_cut, pairs_split}
use Rattle.segment_crossings.proofs.Lines.{IsClear, later_fewer, no_pairs_ahead, none_ahead, skipped}

-- ---- none of a node

pub none_in : (ls : List Line) (l : Line) (x : Node) → IsNode ls x → Each (IsClear l) ls x.run.first x.run.end → bad_in ls l x.run ≡ 0
none_in ls l x h none =
    let e = skipped ls l x.run.first x.run.end h.order none in
    omega (arith, e)

pub none_between : (ls : List Line) (x y : Node) → IsNode ls x → IsNode ls y → ((s t : Segment) → IsIn x.extent s → IsIn y.extent t → meets_badly s t ≡ false) → bad_between ls x.run y.run ≡ 0
none_between ls x y h k none =
    let e = across_skipped ls (x.run.end - x.run.first) x.run.first y.run.first y.run.end k.order (λ i a b r c d. none _ _ (h.holds i a (omega (arith, b, h.order))) (k.holds r c d)) in
    omega (arith, e)

-- ---- two parts

module _ (ls : List Line) (x a b : Run) (parts : AreParts x a b) where
  pub in_parts : (l : Line) → bad_in ls l x ≡ bad_in ls l a + bad_in ls l b
  in_parts l =
      let first = ap (bad_from ls l) parts.first in
      let middle = ap (bad_from ls l) parts.middle in
      let end = ap (bad_from ls l) parts.end in
      let f = later_fewer ls l a.first a.end (omega (arith, parts.some)) in
      let g = later_fewer ls l b.first b.end (omega (arith, parts.more)) in
      omega (arith, first, middle, end, f, g)

  pub second_parts : (y : Run) → bad_between ls y x ≡ bad_between ls y a + bad_between ls y b
  second_parts y =
      let n = y.end - y.first in
      let first = ap (bad_across ls y.first n) parts.first in
      let middle = ap (bad_across ls y.first n) parts.middle in
      let end = ap (bad_across ls y.first n) parts.end in
      let f = across_fewer ls n y.first a.first a.end (omega (arith, parts.some)) in
      let g = across_fewer ls n y.first b.first b.end (omega (arith, parts.more)) in
      omega (arith, first, middle, end, f, g)

  cut : (o : ℕ) → bad_across ls x.first (x.end - x.first) o ≡ bad_across ls a.first (a.end - a.first) o + bad_across ls b.first (b.end - b.first) o
  cut o =
      let first = ap (λ k. bad_across ls k (x.end - k) o) parts.first in
      let end = ap (λ k. bad_across ls a.first (k - a.first) o) parts.end in
      let middle = ap (λ k. bad_across ls k (b.end - k) o) parts.middle in
      let e = across_cut ls a.first a.end b.end o (omega (arith, parts.some)) (omega (arith, parts.middle, parts.more)) in
      omega (arith, first, end, middle, e)

  pub first_parts : (y : Run) → y.first ≤ y.end → bad_between ls x y ≡ bad_between ls a y + bad_between ls b y
  first_parts y h =
      let f = across_fewer ls (a.end - a.first) a.first y.first y.end h in
      let g = across_fewer ls (b.end - b.first) b.first y.first y.end h in
      omega (arith, cut y.first, cut y.end, f, g)

  pub within_parts : bad_within ls x ≡ bad_within ls a + (bad_within ls b + bad_between ls a b)
  within_parts =
      let first = ap (λ k. bad_inside ls k (x.end - k) x.end) parts.first in
      let end = ap (λ k. bad_inside ls a.first (k - a.first) k) parts.end in
      let middle = ap (λ k. bad_inside ls k (b.end - k) b.end) parts.middle in
      let between = ap (bad_across ls a.first (a.end - a.first)) parts.middle in
      let e = inside_cut ls a.first a.end b.end (omega (arith, parts.some)) (omega (arith, parts.middle, parts.more)) in
      omega (arith, first, end, middle, between, e)

-- ---- all of them

pub all_in : (t : Tree) (l : Line) → IsTree t → bad_from t.lines.items l 0 ≡ bad_in t.lines.items l t.root.run
all_in t l h =
    let first = ap (bad_from t.lines.items l) h.first in
    let none = none_ahead t.lines.items l t.root.run.end (omega (arith, h.end)) in
    omega (arith, first, none)

pub all_within : (t : Tree) → IsTree t → bad_pairs (map as_segment t.lines.items) ≡ bad_within t.lines.items t.root.run
all_within t h =
    let ls = t.lines.items in
    let n = length ls in
    let first = ap (λ k. bad_inside ls k (t.root.run.end - k) t.root.run.end) h.first in
    let end = ap (λ k. bad_inside ls 0 (k - 0) k) h.end in
    let split = pairs_split ls n 0 n (omega arith) (omega arith) in
    let size : bad_inside ls 0 (n - 0) n ≡ bad_inside ls 0 n n = ap (λ k. bad_inside ls 0 k n) (omega arith) in
    omega (arith, first, end, size, split, across_past ls n 0 n (omega arith), no_pairs_ahead ls n (omega arith))
