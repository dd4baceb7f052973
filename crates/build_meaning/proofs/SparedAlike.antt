-- What is left of a topology where rings are protected, before the arcs that no line uses are left out and after, and on a grid.
use Rattle.std.proofs.Common.{◌≡◌, ◌==◌, ℕ, ◌-◌, ℤ, Bool, true, false, cond, List, map, Option, None, Some, refl, sym, ap, ◌∙◌, subst}
use Rattle.build_meaning.proofs.Names.{AllByRecursion, list_any, all_weaker, number_of, Point, Cause, Axes, cell, placed_arcs, Contents, objects_lines_and_rings, place_on, TopoObject, Transform, reduce_arcs, guarded_by, positions_of, unless, is_used, keep_from, line_renumbered, renumbered, trimmed, objects_celled, celled, LiesBack, transform_of, arc_positions, Protection, protected_rings, sparing, objects_spared, spared_whole, spared_by, spared_removed_count, IsAlikeOnGrid, IsOn, small_cause, large_refs, retained_arcs, objects_pruned, sum, then_some, Guards, LeftOnGrid, guard_of, left_indexes, left_of, protection, protection_of, rings_to_stay}
use Rattle.build_meaning.proofs.Again.{trimmed_again}
use Rattle.build_meaning.proofs.Celled.{arcs_map, all_lie_back, retained_lie, objects_lines, trimmed_celled}
use Rattle.build_meaning.proofs.Greatest.{same_some}
use Rattle.build_meaning.proofs.OnGrid.{lengths_stay, all_lie}
use Rattle.build_meaning.proofs.RingsAlike.{objects_turned, rings_celled, objects_celled_alike}
use Rattle.build_meaning.proofs.Simplified.{refs_same}
use Rattle.build_meaning.proofs.Spared.{objects_left, Leaves}
use Rattle.build_meaning.proofs.Trimmed.{AllUsed, all_renumbered, all_used, kept_of_map, kept_placed}

-- ---- arcs that no line uses, left out first

-- the same arcs are placed
pub positions_alike : (y : Contents) → arc_positions (trimmed y) ≡ keep_from (is_used y.objects) 0 (arc_positions y)
unfolding trimmed
positions_alike y = kept_placed y.transform (is_used y.objects) y.arcs

module _ (keep_shapes : Bool) (limit : ℕ) (y : Contents) where
  abbrev passes : ℕ → Bool
  passes = is_used y.objects

  abbrev before : Protection
  before = protection keep_shapes (arc_positions y)

  abbrev after : Protection
  after = protection keep_shapes (arc_positions (trimmed y))

  line_turns : (positions : List (List Point)) (b : Bool × List ℤ) → AllUsed passes b → (mark : Bool)
      → sparing (large_refs limit (keep_from passes 0 positions)) b.0 (mark, map (renumbered passes) b.1) ≡ then_some (line_renumbered passes b.0) (sparing (large_refs limit positions) b.0 (mark, b.1))
  line_turns positions b h true = refl
  line_turns positions b h false = refs_same limit passes positions b h

  objects_turn : (positions : List (List Point)) → objects_spared after (sparing (large_refs limit (keep_from passes 0 positions))) (objects_pruned (line_renumbered passes) y.objects)
      ≡ objects_pruned (line_renumbered passes) (objects_spared before (sparing (large_refs limit positions)) y.objects)
  objects_turn positions =
      ap (λ arcs. objects_spared (protection keep_shapes arcs) (sparing (large_refs limit (keep_from passes 0 positions))) (objects_pruned (line_renumbered passes) y.objects)) (positions_alike y)
      ∙ objects_turned keep_shapes (λ p. p) (map (renumbered passes)) (arc_positions y) (keep_from passes 0 (arc_positions y)) (AllUsed passes) (λ b h. all_renumbered passes (arc_positions y) b.1 h)
      (sparing (large_refs limit positions)) (sparing (large_refs limit (keep_from passes 0 positions))) (line_turns positions) y.objects (all_used y.objects)

  -- where the same of the arcs stays, the same is left
  module _ (kept more : List (List ℕ)) (same : keep_from (is_used y.objects) 0 (retained_arcs more y.arcs) ≡ retained_arcs kept (keep_from (is_used y.objects) 0 y.arcs)) where
    abbrev places : List (List Point)
    places = placed_arcs y.transform (retained_arcs more y.arcs)

    abbrev left : List (List ℕ × TopoObject)
    left = objects_spared before (sparing (large_refs limit places)) y.objects

    abbrev with_arcs : List (List ℕ × TopoObject) → List (List Point) → Contents
    with_arcs os arcs = record { objects = os; arcs = arcs; transform = y.transform }

    -- the lines that are left of the used arcs
    objects_same : (spared_whole after kept limit (trimmed y)).objects ≡ objects_pruned (line_renumbered passes) left
    unfolding trimmed
    objects_same =
        ap (λ arcs. objects_spared after (sparing (large_refs limit (placed_arcs y.transform arcs))) (objects_pruned (line_renumbered passes) y.objects)) (sym same)
        ∙ ap (λ arcs. objects_spared after (sparing (large_refs limit arcs)) (objects_pruned (line_renumbered passes) y.objects)) (kept_placed y.transform passes (retained_arcs more y.arcs))
        ∙ objects_turn places

    -- no index is new
    line_used : (b : Bool × List ℤ) → AllUsed passes b → Leaves before (sparing (large_refs limit places)) (AllUsed passes) b
    line_used b h mark m e = by (small_cause limit places b.0 b.1) mark e
      where
        by : (w : Option Cause) (mark : Bool) → cond mark (Some b.1) (unless w b.1) ≡ Some m → AllUsed passes (b.0, m)
        by w true k = subst (λ refs. AllUsed passes (b.0, refs)) (same_some b.1 m k) h
        by None false k = subst (λ refs. AllUsed passes (b.0, refs)) (same_some b.1 m k) h
        by (Some c) false k = cc

    used_alike : AllByRecursion (AllUsed passes) (objects_lines_and_rings left)
    used_alike =
        objects_left before (sparing (large_refs limit places)) (AllUsed passes) y.objects
        (all_weaker (AllUsed passes) (Leaves before (sparing (large_refs limit places)) (AllUsed passes)) line_used (objects_lines_and_rings y.objects) (all_used y.objects))

    pub contents_same : spared_by after kept limit (trimmed y) ≡ spared_by before more limit y
    unfolding spared_by trimmed
    contents_same =
        ap (λ os. trimmed (with_arcs os (retained_arcs kept (keep_from passes 0 y.arcs)))) objects_same
        ∙ ap (λ arcs. trimmed (with_arcs (objects_pruned (line_renumbered passes) left) arcs)) (sym same)
        ∙ trimmed_again passes (spared_whole before more limit y) used_alike

    -- of the arcs as they were the same are left
    arcs_same : keep_from (is_used (spared_whole after kept limit (trimmed y)).objects) 0 (trimmed y).arcs ≡ keep_from (is_used left) 0 y.arcs
    unfolding trimmed
    arcs_same = ap (λ os. keep_from (is_used os) 0 (keep_from passes 0 y.arcs)) objects_same ∙ ap (λ z. z.arcs) (trimmed_again passes (with_arcs left y.arcs) used_alike)

    pub removed_same : spared_removed_count after kept limit (trimmed y) ≡ spared_removed_count before more limit y
    unfolding spared_removed_count
    removed_same =
        ap (λ arcs. positions_of arcs - positions_of (spared_by after kept limit (trimmed y)).arcs) arcs_same
        ∙ ap (λ z. positions_of (keep_from (is_used left) 0 y.arcs) - positions_of z.arcs) contents_same

-- ---- on a grid

module _ (keep_shapes : Bool) (transform : Transform) (cell : Point → Point) (limit : ℕ) (os : List (List ℕ × TopoObject)) (arcs : List (List Point))
    (lie : AllByRecursion (λ a. AllByRecursion (LiesBack transform cell) a) arcs) where
  abbrev plain : Contents
  plain = record { objects = os; arcs = arcs; transform = None }

  abbrev on_grid : Contents
  on_grid = celled transform cell plain

  -- the cells lie where the positions do
  pub placed_same : arc_positions on_grid ≡ arcs
  unfolding celled
  placed_same = all_lie_back transform cell arcs lie

  pub grid_rings : protected_rings (protection keep_shapes (arc_positions on_grid)) on_grid.objects ≡ protected_rings (protection keep_shapes arcs) os
  unfolding celled
  grid_rings = ap (λ ps. protected_rings (protection keep_shapes ps) (objects_celled cell os)) placed_same ∙ rings_celled keep_shapes cell arcs os

  abbrev cells_left : List (List Point) → List (List Point) → List (List Point) → Contents
  cells_left positions places cells = record { objects = objects_spared (protection keep_shapes positions) (sparing (large_refs limit places)) (objects_celled cell os); arcs = cells; transform = Some transform }

  -- by the same numbers
  whole_celled : (kept : List (List ℕ)) → spared_whole (protection keep_shapes (arc_positions on_grid)) kept limit on_grid ≡ celled transform cell (spared_whole (protection keep_shapes arcs) kept limit plain)
  unfolding celled
  whole_celled kept =
      let fewer : List (List Point) = retained_arcs kept arcs in
      ap (λ ps. cells_left ps (map (map (place_on transform)) (retained_arcs kept (map (map cell) arcs))) (retained_arcs kept (map (map cell) arcs))) placed_same
      ∙ ap (λ x. cells_left arcs (map (map (place_on transform)) x) x) (arcs_map cell kept arcs)
      ∙ ap (λ x. cells_left arcs x (map (map cell) fewer)) (all_lie_back transform cell fewer (retained_lie transform cell kept arcs lie))
      ∙ ap (λ x. record { objects = x; arcs = map (map cell) fewer; transform = Some transform }) (objects_celled_alike keep_shapes cell arcs (sparing (large_refs limit fewer)) os)

  spared_celled : (kept : List (List ℕ)) → spared_by (protection keep_shapes (arc_positions on_grid)) kept limit on_grid ≡ celled transform cell (spared_by (protection keep_shapes arcs) kept limit plain)
  unfolding spared_by
  spared_celled kept = ap trimmed (whole_celled kept) ∙ trimmed_celled transform cell (spared_whole (protection keep_shapes arcs) kept limit plain)

  -- which arcs lines use
  abbrev used_by : List (Bool × List ℤ) → ℕ → Bool
  used_by bs i = list_any (λ b. list_any (λ r. number_of r == i) b.1) bs

  removed_celled : (kept : List (List ℕ)) → spared_removed_count (protection keep_shapes (arc_positions on_grid)) kept limit on_grid ≡ spared_removed_count (protection keep_shapes arcs) kept limit plain
  unfolding spared_removed_count celled
  removed_celled kept =
      let used : ℕ → Bool = is_used (spared_whole (protection keep_shapes arcs) kept limit plain).objects in
      let after : ℕ = positions_of (spared_by (protection keep_shapes (arc_positions on_grid)) kept limit on_grid).arcs in
      ap (λ z. positions_of (keep_from (is_used z.objects) 0 (map (map cell) arcs)) - after) (whole_celled kept)
      ∙ ap (λ bs. positions_of (keep_from (used_by bs) 0 (map (map cell) arcs)) - after) (objects_lines transform cell (spared_whole (protection keep_shapes arcs) kept limit plain).objects)
      ∙ ap (λ xs. positions_of xs - after) (sym (kept_of_map (map cell) used 0 arcs))
      ∙ ap (λ ns. sum ns - after) (lengths_stay cell (keep_from used 0 arcs))
      ∙ ap (λ z. positions_of (keep_from used 0 arcs) - positions_of z.arcs) (spared_celled kept)
      ∙ ap (λ ns. positions_of (keep_from used 0 arcs) - sum ns) (lengths_stay cell (spared_by (protection keep_shapes arcs) kept limit plain).arcs)

-- what is left at a threshold
module _ (guards : Guards) (g : Axes) (t limit : ℕ) (os : List (List ℕ × TopoObject)) (arcs : List (List Point)) where
  abbrev topology : Option Transform → Contents
  topology transform = record { objects = os; arcs = arcs; transform = transform }

  abbrev on_axes : Contents
  on_axes = celled (transform_of g) (cell g) (topology None)

  module _ (lie : AllByRecursion (λ a. AllByRecursion (LiesBack (transform_of g) (cell g)) a) arcs) where
    rings_on : rings_to_stay guards on_axes ≡ rings_to_stay guards (topology None)
    rings_on = grid_rings guards.keep_shapes (transform_of g) (cell g) limit os arcs lie

    indexes_on : left_indexes guards t on_axes ≡ left_indexes guards t (topology None)
    indexes_on =
        ap (λ rings. reduce_arcs (guarded_by guards.no_crossings rings) t (arc_positions on_axes)) rings_on
        ∙ ap (reduce_arcs (guard_of guards (topology None)) t) (placed_same guards.keep_shapes (transform_of g) (cell g) limit os arcs lie)

    alike_on : IsAlikeOnGrid guards (Some g) t limit (topology None)
    unfolding left_of
    alike_on = record {
      rings = rings_on;
      contents = ap (λ k. spared_by (protection_of guards on_axes) k limit on_axes) indexes_on
          ∙ spared_celled guards.keep_shapes (transform_of g) (cell g) limit os arcs lie (left_indexes guards t (topology None));
      removed_count = ap (λ k. spared_removed_count (protection_of guards on_axes) k limit on_axes) indexes_on
          ∙ removed_celled guards.keep_shapes (transform_of g) (cell g) limit os arcs lie (left_indexes guards t (topology None));
    }

pub left_on_grid : LeftOnGrid
left_on_grid guards None t limit y grid bare on = record { rings = refl; contents = refl; removed_count = refl }
left_on_grid guards (Some g) t limit y grid bare on =
    subst (λ transform. IsAlikeOnGrid guards (Some g) t limit (topology guards g t limit y.objects y.arcs transform)) (sym bare)
    (alike_on guards g t limit y.objects y.arcs (all_weaker (λ a. AllByRecursion (IsOn (Some g)) a) (λ a. AllByRecursion (LiesBack (transform_of g) (cell g)) a) (all_lie g grid) y.arcs on.0))
