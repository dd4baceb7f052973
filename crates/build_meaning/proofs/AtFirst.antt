-- What goes first is what goes at a threshold of zero, of a topology and of what is built of layers; and what stays without it.
use Rattle.std.proofs.Common.{arith, ◌≡◌, ℕ, suc, ◌+◌, ◌≤◌, Bool, true, false, cond, List, [], ◌∷◌, length, map, Option, None, Some, refl, sym, ap, ◌∙◌, subst}
use Rattle.elimination_meaning.specs.Elimination.{Vertex}
use Rattle.guarded_meaning.proofs.Weights.{kept_at_zero}
use Rattle.guarded_meaning.specs.Elimination.{Guard}
use Rattle.guarded_meaning.specs.Laws.{KeptByWeight}
use Rattle.guarded_meaning.specs.Weights.{passing, weight}
use Rattle.build_meaning.proofs.Names.{fun_ext, map-map, AllByRecursion, all_weaker, filter, Point, numbered, Transform, placed_arcs, place_on, Contents, IsTopology, IsArc, reduce_arcs, LeftCrossingsNeverRise, LeftIsValid, LeftKeeps, LeftOnGrid, untrimmed, built, is_used, keep_from, trimmed, EachCell, Guards, left_indexes, left_of, guard_of, protection_of, all_indexes, quantized, spared_by, IsOn, retained_arcs, EachFromFirstToLast, arc_positions, crossings_of, labels, goes_first, left_at_first, without_small, FirstIsLeftAtZero, FirstOfBuilt, WithoutSmallCrossesNoMore, WithoutSmallIsValid, WithoutSmallKeeps, WithoutSmallOnGrid}
use Rattle.build_meaning.proofs.Left.{spared_cells}
use Rattle.build_meaning.proofs.ValidSimplified.{valid_whole}
use Rattle.build_meaning.proofs.Spread.{all_retained, all_through}
use Rattle.build_meaning.proofs.SparedAlike.{contents_same}

-- ---- all positions of each arc

placed_indexes : (f : Point → Point) (i : ℕ) (ps : List Point) → map (λ v. v.index) (numbered i (map f ps)) ≡ map (λ v. v.index) (numbered i ps)
placed_indexes f i [] = refl
placed_indexes f i (p ∷ ps) = ap (λ is. i ∷ is) (placed_indexes f (i + 1) ps)

each_placed : (transform : Option Transform) (arcs : List (List Point)) → map all_indexes (placed_arcs transform arcs) ≡ map all_indexes arcs
each_placed None arcs = refl
each_placed (Some t) arcs = map-map all_indexes (map (place_on t)) arcs ∙ ap (λ f. map f arcs) (fun_ext (placed_indexes (place_on t) 0))

-- they are the arcs
pub each_retained : (arcs : List (List Point)) → retained_arcs (map all_indexes arcs) arcs ≡ arcs
each_retained [] = refl
each_retained (a ∷ arcs) = ap (λ b. b ∷ retained_arcs (map all_indexes arcs) arcs) (all_retained a) ∙ ap (λ bs. a ∷ bs) (each_retained arcs)

each_reaches : (arcs : List (List Point)) → AllByRecursion (λ a. 2 ≤ length a) arcs → EachFromFirstToLast (map all_indexes arcs) arcs
each_reaches [] h = tt
each_reaches (a ∷ arcs) h = (all_through a h.0, each_reaches arcs h.1)

pub all_reach : (y : Contents) → IsTopology y → EachFromFirstToLast (map all_indexes y.arcs) y.arcs
all_reach y h = each_reaches y.arcs (all_weaker (IsArc y.transform) (λ a. 2 ≤ length a) (λ a k. k.0) y.arcs h.arcs)

-- ---- at a threshold of zero

all_kept : (vs : List Vertex) → filter (λ v. true) vs ≡ vs
all_kept [] = refl
all_kept (v ∷ vs) = ap (λ ws. v ∷ ws) (all_kept vs)

all_pass : (k : ℕ) (arcs : List (List Vertex)) → passing (λ x. true) k arcs ≡ arcs
all_pass k [] = refl
all_pass k (vs ∷ arcs) = ap (λ ws. ws ∷ passing (λ x. true) (suc k) arcs) (all_kept vs) ∙ ap (λ more. vs ∷ more) (all_pass (suc k) arcs)

-- no position goes, whatever holds corners
pub all_at_zero : KeptByWeight → (guard : Guard) (y : Contents) → reduce_arcs guard 0 (arc_positions y) ≡ map all_indexes y.arcs
unfolding reduce_arcs
all_at_zero by_weight guard y =
    ap (map (map (λ (v : Vertex). v.index)))
    (by_weight guard 0 (arc_positions y) ∙ (λ i. passing (λ x. kept_at_zero (weight guard (arc_positions y) x) i) 0 (map (numbered 0) (arc_positions y))) ∙ all_pass 0 (map (numbered 0) (arc_positions y)))
    ∙ map-map (map (λ (v : Vertex). v.index)) (numbered 0) (arc_positions y) ∙ each_placed y.transform y.arcs

pub first_at_zero : KeptByWeight → FirstIsLeftAtZero
unfolding left_of spared_by
first_at_zero by_weight guards limit y = ap (λ kept. spared_by (protection_of guards y) kept limit y) (sym (all_at_zero by_weight (guard_of guards y) y))

pub first_of_built : FirstOfBuilt
unfolding spared_by built trimmed
first_of_built guards limit ls sound =
    let whole : Contents = untrimmed 0 0 ls in
    let used : ℕ → Bool = is_used whole.objects in
    contents_same guards.keep_shapes limit whole (map all_indexes (keep_from used 0 whole.arcs)) (map all_indexes whole.arcs)
    (ap (keep_from used 0) (each_retained whole.arcs) ∙ sym (each_retained (keep_from used 0 whole.arcs)))

-- ---- what stays

-- what holds of the topology and of what is left of it at zero holds of it without what goes first
first_or : FirstIsLeftAtZero → (X : Contents → Type 0) (guards : Guards) (limit : ℕ) (y : Contents) → X (left_of guards 0 limit y).contents → X y → X (without_small guards limit y)
first_or law X guards limit y h k = on (goes_first guards limit)
  where
    on : (b : Bool) → X (cond b (left_at_first guards limit y) y)
    on true = subst X (sym (law guards limit y)) h
    on false = k

pub first_is_valid : FirstIsLeftAtZero → LeftIsValid → WithoutSmallIsValid
first_is_valid law valid guards limit y h = record {
  whole = valid_whole (protection_of guards y) (map all_indexes y.arcs) limit y h (all_reach y h);
  at_first = subst IsTopology (sym (law guards limit y)) (valid guards 0 limit y h);
  without_small = first_or law IsTopology guards limit y (valid guards 0 limit y h) h;
}

pub first_keeps : FirstIsLeftAtZero → LeftKeeps → WithoutSmallKeeps
first_keeps law keeps guards limit y = first_or law (λ z. (labels z ≡ labels y) × (z.transform ≡ y.transform)) guards limit y (keeps guards 0 limit y) (refl, refl)

pub first_on_grid : FirstIsLeftAtZero → LeftOnGrid → WithoutSmallOnGrid
unfolding left_of
first_on_grid law on_grid guards g limit y grid bare on = (
  alike (goes_first guards limit),
  first_or law (EachCell (IsOn g)) guards limit y (spared_cells (IsOn g) (protection_of guards y) (left_indexes guards 0 y) limit y on) on,
)
  where
    alike : (b : Bool) → cond b (left_at_first guards limit (quantized g y)) (quantized g y) ≡ quantized g (cond b (left_at_first guards limit y) y)
    alike true = law guards limit (quantized g y) ∙ (on_grid guards g 0 limit y grid bare on).contents ∙ ap (quantized g) (sym (law guards limit y))
    alike false = refl

pub first_crosses_no_more : FirstIsLeftAtZero → LeftCrossingsNeverRise → WithoutSmallCrossesNoMore
first_crosses_no_more law never guards limit y e = first_or law (λ z. crossings_of z ≤ crossings_of y) guards limit y (never guards 0 limit y e) (omega arith)
