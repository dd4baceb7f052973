-- Worked rows of what is assembled of layers over reduced arcs, computed from the definitions. The fold of a shape is opened by its
-- kind.
use Rattle.std.proofs.Common.{◌≡◌, ℕ, ℤ, pos, true, false, List, [], ◌∷◌, ◌++◌, map, Option, None, Some, refl, ap, ◌∙◌}
use Rattle.build_meaning.proofs.Names.{prune-line, prune-area, lines_and_rings-area, lines_and_rings-line, drop_causes-area, drop_causes-line, cross, twice_area, shoelace, number_of, Point, prune, same, Small, Outer, Featured, Shape, Stroke, linework, objects_lines_and_rings, is_before, reduced, cleaned, all_arcs, kept_refs, objects_by, trimmed, assembled, assembled_dropped, retained_arcs, large_refs, objects_pruned, simplified_by, Named, layers_of}
use Rattle.build_meaning.proofs.Assembled.{contents}
use Rattle.build_meaning.proofs.SimplifiedRows.{at, square, triangle, bent, two}
use Rattle.geometry.specs.declared.shape.Geometry.TheVariants as g

-- ---- a polygon whose outer ring is a triangle, with a square as its hole, and a bent line

abbrev rings : List (List Point)
rings = triangle ∷ (square ∷ [])

abbrev feature : Option Shape → Featured
feature s = record { id = None; properties = None; shape = s }

abbrev layers : Named
layers = ((97 ∷ []), record { features = feature (Some (g.Area rings)) ∷ (feature (Some (g.Line bent)) ∷ []) }) ∷ []

-- of the triangle's arc the ends are kept, of the others all
abbrev kept : List (List ℕ)
kept = (0 ∷ (3 ∷ [])) ∷ ((0 ∷ (1 ∷ (2 ∷ (3 ∷ (4 ∷ []))))) ∷ ((0 ∷ (1 ∷ (2 ∷ []))) ∷ []))

abbrev fewer : List (List Point)
fewer = (at 2 2 ∷ (at 2 2 ∷ [])) ∷ (square ∷ (bent ∷ []))

-- ---- the lines and their arcs

abbrev lines : List Stroke
lines = cleaned true triangle ∷ (cleaned true square ∷ (cleaned false bent ∷ []))

lines_are : linework (layers_of layers) ≡ lines
unfolding linework same
lines_are = simp (lines_and_rings-area, lines_and_rings-line)

arcs_are : all_arcs lines ≡ triangle ∷ (square ∷ (bent ∷ []))
unfolding same
arcs_are = refl

-- ---- the outer ring is small, and the hole goes with it

row_dropped : assembled_dropped kept 0 layers
    ≡ record { address = record { layer = 0; feature = 0; path = 0 ∷ [] }; cause = Small } ∷ (record { address = record { layer = 0; feature = 0; path = 1 ∷ [] }; cause = Outer } ∷ [])
unfolding assembled_dropped same shoelace
row_dropped = simp (lines_are, drop_causes-area, drop_causes-line)

-- ---- so two arcs are left out, and the third one is the first

abbrev ring_refs : List (List ℤ)
ring_refs = (pos 0 ∷ []) ∷ ((pos 1 ∷ []) ∷ [])

objects_at_zero : objects_by (kept_refs lines 0 0) layers ≡ two (Some (g.Area ring_refs)) (Some (g.Line (pos 2 ∷ [])))
unfolding same reduced is_before twice_area cross shoelace
objects_at_zero =
    ap (λ s. two s (prune (λ p. p) (kept_refs lines 0 0) (g.Line bent))) (prune-area (λ (p : Point). p) (kept_refs lines 0 0) rings)
    ∙ ap (λ s. two (Some (g.Area ring_refs)) s) (prune-line (λ (p : Point). p) (kept_refs lines 0 0) bent)

arcs_retained : retained_arcs kept (map (reduced 0) (all_arcs lines)) ≡ fewer
unfolding same reduced is_before twice_area cross
arcs_retained = refl

objects_left : objects_pruned (large_refs 0 fewer) (two (Some (g.Area ring_refs)) (Some (g.Line (pos 2 ∷ [])))) ≡ two None (Some (g.Line (pos 2 ∷ [])))
unfolding same shoelace
objects_left = simp (prune-area, prune-line)

lines_and_rings_left : objects_lines_and_rings (two None (Some (g.Line (pos 2 ∷ [])))) ≡ (false, pos 2 ∷ []) ∷ []
lines_and_rings_left = ap (λ l. (l ++ []) ++ []) (lines_and_rings-line Point (List ℤ) (pos 2 ∷ []))

trimmed_left : trimmed (contents (two None (Some (g.Line (pos 2 ∷ [])))) fewer) ≡ contents (two None (Some (g.Line (pos 0 ∷ [])))) (bent ∷ [])
unfolding trimmed number_of
trimmed_left = simp (contents, lines_and_rings_left, prune-line)

row_assembled : assembled kept 0 layers ≡ contents (two None (Some (g.Line (pos 0 ∷ [])))) (bent ∷ [])
unfolding assembled simplified_by
row_assembled =
    ap (λ ls. trimmed (contents (objects_pruned (large_refs 0 (retained_arcs kept (map (reduced 0) (all_arcs ls)))) (objects_by (kept_refs ls 0 0) layers)) (retained_arcs kept (map (reduced 0) (all_arcs ls))))) lines_are
    ∙ ap (λ arcs. trimmed (contents (objects_pruned (large_refs 0 arcs) (objects_by (kept_refs lines 0 0) layers)) arcs)) arcs_retained
    ∙ ap (λ os. trimmed (contents (objects_pruned (large_refs 0 fewer) os) fewer)) objects_at_zero
    ∙ ap (λ os. trimmed (contents os fewer)) objects_left ∙ trimmed_left
