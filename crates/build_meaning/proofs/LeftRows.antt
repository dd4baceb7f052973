-- Worked rows of what is left of topologies, in whole units, computed from the definitions. The fold of a shape is opened by its kind.
use Rattle.std.proofs.Common.{◌≡◌, ◌==◌, ℕ, ◌-◌, ℤ, pos, negsuc, true, false, List, [], ◌∷◌, ◌++◌, None, Some, refl, ap, ◌∙◌}
use Rattle.build_meaning.proofs.Names.{prune-line, lines_and_rings-line, cross, twice_area, shoelace, number_of, Point, same, Contents, objects_lines_and_rings, TopoFeature, TopoObject, Many, reduce_arcs, goes_before, is_free, keeps_rings, trimmed, spread, large_refs, objects_pruned, simplified_by, Guards, left_indexes, left_of, no_guards, no_protection, spared_by}
use Rattle.guarded_meaning.specs.Segments.{is_on, same_ends}
use Rattle.guarded_meaning.specs.Triangles.{in_triangle}
use Rattle.build_meaning.proofs.Assembled.{contents}
use Rattle.build_meaning.proofs.LeftOf.{unprotected_is_simplified}
use Rattle.build_meaning.proofs.SimplifiedRows.{at}
use Rattle.geometry.specs.declared.shape.Geometry.TheVariants as g

-- as far under zero as the second number says, which is over zero
abbrev below : ℕ → ℕ → Point
below x y = record { x = pos x; y = negsuc (y - 1) }

abbrev line : List ℤ → TopoFeature
line refs = record { id = None; properties = None; shape = Some (g.Line refs) }

abbrev pub layer : List TopoFeature → List (List ℕ × TopoObject)
layer fs = ((97 ∷ []), Many fs) ∷ []

abbrev two_lines : List Point → List Point → Contents
two_lines one other = contents (layer (line (pos 0 ∷ []) ∷ (line (pos 1 ∷ []) ∷ []))) (one ∷ (other ∷ []))

-- where crossings may not be made
abbrev no_crossings : Guards
no_crossings = record { no_crossings = true; keep_shapes = false }

abbrev roof : List Point
roof = at 0 0 ∷ (at 2 2 ∷ (at 4 0 ∷ []))

-- ---- a line that begins under another one's corner holds it, at any threshold

abbrev under_roof : Contents
under_roof = two_lines roof (at 2 1 ∷ (below 2 5 ∷ []))

roof_held : left_indexes no_crossings 10 under_roof ≡ (0 ∷ (1 ∷ (2 ∷ []))) ∷ ((0 ∷ (1 ∷ [])) ∷ [])
roof_held = unfold reduce_arcs keeps_rings goes_before twice_area is_free in_triangle same_ends is_on same cross in refl

roof_gone : left_indexes no_guards 10 under_roof ≡ (0 ∷ (2 ∷ [])) ∷ ((0 ∷ (1 ∷ [])) ∷ [])
roof_gone = unfold reduce_arcs keeps_rings goes_before twice_area cross in refl

-- ---- a corner is held until the one in its triangle goes

abbrev over_tower : Contents
over_tower = two_lines roof (below 0 4 ∷ (at 2 1 ∷ (below 4 4 ∷ [])))

both_held : left_indexes no_crossings 20 over_tower ≡ (0 ∷ (1 ∷ (2 ∷ []))) ∷ ((0 ∷ (1 ∷ (2 ∷ []))) ∷ [])
both_held = unfold reduce_arcs keeps_rings goes_before twice_area is_free in_triangle same_ends is_on same cross in refl

both_gone : left_indexes no_crossings 30 over_tower ≡ (0 ∷ (2 ∷ [])) ∷ ((0 ∷ (2 ∷ [])) ∷ [])
both_gone = unfold reduce_arcs keeps_rings goes_before twice_area is_free in_triangle same_ends is_on same cross in refl

-- ---- of a line that comes back to where it began the middle goes, unless another line begins on its way

abbrev there_and_back : Contents
there_and_back = contents (layer (line (pos 0 ∷ (pos 1 ∷ [])) ∷ (line (pos 2 ∷ (pos 3 ∷ [])) ∷ (line (pos 4 ∷ []) ∷ []))))
    ((at 0 0 ∷ (at 4 2 ∷ (at 0 0 ∷ []))) ∷ ((at 0 0 ∷ (at 5 5 ∷ [])) ∷ ((at 20 0 ∷ (at 24 2 ∷ (at 20 0 ∷ []))) ∷ ((at 20 0 ∷ (at 25 5 ∷ [])) ∷ ((at 22 1 ∷ (below 22 3 ∷ [])) ∷ [])))))

one_comes_back : left_indexes no_crossings 2 there_and_back ≡ (0 ∷ (2 ∷ [])) ∷ ((0 ∷ (1 ∷ [])) ∷ ((0 ∷ (1 ∷ (2 ∷ []))) ∷ ((0 ∷ (1 ∷ [])) ∷ ((0 ∷ (1 ∷ [])) ∷ []))))
one_comes_back = unfold reduce_arcs keeps_rings goes_before twice_area is_free in_triangle same_ends is_on same cross in refl

-- ---- at a high threshold a line that comes back to where it began is small, and its arc is left out

abbrev with_loop : Contents
with_loop = two_lines (at 0 0 ∷ (at 9 9 ∷ (at 0 0 ∷ []))) (at 20 0 ∷ (at 25 5 ∷ []))

loop_indexes : left_indexes no_crossings 10 with_loop ≡ (0 ∷ (2 ∷ [])) ∷ ((0 ∷ (1 ∷ [])) ∷ [])
loop_indexes = unfold reduce_arcs keeps_rings goes_before twice_area is_free in_triangle same_ends is_on same cross in refl

abbrev loop_arcs : List (List Point)
loop_arcs = (at 0 0 ∷ (at 0 0 ∷ [])) ∷ ((at 20 0 ∷ (at 25 5 ∷ [])) ∷ [])

abbrev without_shape : TopoFeature
without_shape = record { id = None; properties = None; shape = None }

objects_left : objects_pruned (large_refs 0 loop_arcs) with_loop.objects ≡ layer (without_shape ∷ (line (pos 1 ∷ []) ∷ []))
unfolding same shoelace
objects_left = simp (prune-line)

used_left : objects_lines_and_rings (layer (without_shape ∷ (line (pos 1 ∷ []) ∷ []))) ≡ (false, pos 1 ∷ []) ∷ []
used_left = ap (λ l. (l ++ []) ++ []) (lines_and_rings-line Point (List ℤ) (pos 1 ∷ []))

trimmed_left : trimmed (contents (layer (without_shape ∷ (line (pos 1 ∷ []) ∷ []))) loop_arcs) ≡ contents (layer (without_shape ∷ (line (pos 0 ∷ []) ∷ []))) ((at 20 0 ∷ (at 25 5 ∷ [])) ∷ [])
unfolding trimmed number_of
trimmed_left = simp (contents, used_left, prune-line)

loop_left_out : (left_of no_crossings 10 0 with_loop).contents ≡ contents (layer (without_shape ∷ (line (pos 0 ∷ []) ∷ []))) ((at 20 0 ∷ (at 25 5 ∷ [])) ∷ [])
unfolding left_of simplified_by
loop_left_out =
    ap (λ kept. spared_by no_protection kept 0 with_loop) loop_indexes ∙ (unprotected_is_simplified ((0 ∷ (2 ∷ [])) ∷ ((0 ∷ (1 ∷ [])) ∷ [])) 0 with_loop).contents
    ∙ ap (λ os. trimmed (contents os loop_arcs)) objects_left ∙ trimmed_left

-- ---- lists for the second arc of three, and all numbers for the others

spread_over : spread (λ i. i == 1) 0 ((0 ∷ (2 ∷ [])) ∷ []) ((at 0 0 ∷ (at 1 0 ∷ [])) ∷ (roof ∷ (roof ∷ []))) ≡ (0 ∷ (1 ∷ [])) ∷ ((0 ∷ (2 ∷ [])) ∷ ((0 ∷ (1 ∷ (2 ∷ []))) ∷ []))
spread_over = refl
