-- Objects in which rings are protected: what is made of them where none is, and their lines and rings.
use Rattle.std.proofs.Common.{◌≡◌, ℕ, ℤ, Bool, false, List, Option, None, Some, refl, sym, ap, subst}
use Rattle.build_meaning.proofs.Names.{AllByRecursion, all_of_map, all_weaker, then_some, map_some, Point, prune, lines_and_rings, option_lines_and_rings, placed_arcs, TopoShape, Contents, objects_lines_and_rings, marked, Protection, no_protection, MarkedRefs, shape_marked, objects_spared, sparing, spared_whole, Refs, objects_pruned, large_refs, retained_arcs, retained_whole}
use Rattle.build_meaning.proofs.LinesAndRings.{lines_and_rings_left}
use Rattle.build_meaning.proofs.Marks.{without_mark, left_plain, lines_and_rings_back}
use Rattle.build_meaning.proofs.Reshaped.{Objects, pruned_shape, objects_over, objects_same}

-- the shape with its protected ring marked, and pruned
abbrev pub spared_shape : Protection → MarkedRefs → Option TopoShape → Option TopoShape
spared_shape protects kept s = then_some (λ s. prune (λ p. p) kept (shape_marked protects s)) s

-- ---- where no ring is protected

-- whatever the mark
abbrev pub by_refs : Refs → MarkedRefs
by_refs kept closed l = kept closed l.1

module _ (kept : MarkedRefs) where
  shape_plain : (s : Option TopoShape) → spared_shape no_protection kept s ≡ pruned_shape (λ p. p) (λ closed refs. kept closed (false, refs)) s
  shape_plain None = refl
  shape_plain (Some s) = left_plain (λ (p : Point). p) kept s

  pub objects_plain : (os : Objects) → objects_spared no_protection kept os ≡ objects_pruned (λ closed refs. kept closed (false, refs)) os
  objects_plain os = objects_same (spared_shape no_protection kept) (pruned_shape (λ p. p) (λ closed refs. kept closed (false, refs))) shape_plain os

pub whole_plain : (kept : List (List ℕ)) (limit : ℕ) (y : Contents) → spared_whole no_protection kept limit y ≡ retained_whole kept limit y
whole_plain kept limit y =
    ap (λ os. record { objects = os; arcs = retained_arcs kept y.arcs; transform = y.transform }) (objects_plain (sparing (large_refs limit (placed_arcs y.transform (retained_arcs kept y.arcs)))) y.objects)

-- ---- what holds of the lines and rings that are left

module _ (protects : Protection) (kept : MarkedRefs) (X : Bool × List ℤ → Type 0) where
  -- what is given for it, marked or not, has the property
  abbrev pub Leaves : Bool × List ℤ → Type 0
  Leaves b = (mark : Bool) (m : List ℤ) → kept b.0 (mark, b.1) ≡ Some m → X (b.0, m)

  shape_left : (s : TopoShape) → AllByRecursion Leaves (lines_and_rings s) → AllByRecursion X (option_lines_and_rings (prune (λ (p : Point). p) kept (shape_marked protects s)))
  shape_left s h =
      let way : Option (List ℕ) = map_some (λ x. x.path) (protects s) in
      lines_and_rings_left (λ (p : Point). p) kept X (marked s way)
      (all_weaker (λ b. Leaves (without_mark b)) (λ b. (m : List ℤ) → kept b.0 b.1 ≡ Some m → X (b.0, m)) (λ b k. k b.1.0) (lines_and_rings (marked s way))
      (all_of_map Leaves without_mark (lines_and_rings (marked s way)) (subst (AllByRecursion Leaves) (sym (lines_and_rings_back s way)) h)))

  option_left : (s : Option TopoShape) → AllByRecursion Leaves (option_lines_and_rings s) → AllByRecursion X (option_lines_and_rings (spared_shape protects kept s))
  option_left None h = h
  option_left (Some s) h = shape_left s h

  pub objects_left : (os : Objects) → AllByRecursion Leaves (objects_lines_and_rings os) → AllByRecursion X (objects_lines_and_rings (objects_spared protects kept os))
  objects_left os h = objects_over Leaves X option_lines_and_rings option_lines_and_rings (spared_shape protects kept) option_left os h
