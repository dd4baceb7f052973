-- What is assembled of layers, in the words of their lines; and with each arc reduced at a threshold it is what is built of them.
use Rattle.std.proofs.Common.{arith, ◌≡◌, ℕ, Bool, List, [], map, Option, None, ap, ◌∙◌, false, subst}
use Rattle.build_meaning.proofs.Names.{AllByRecursion, all_weaker, dropped_of_layers, Point, option_lines_and_rings, Cause, Shape, Featured, Stroke, linework, Contents, TopoObject, reduce, reduced, DirectionLaw, ZeroLaw, untrimmed, built, removed_count, own_cause, expected_dropped, AreSound, trimmed, arcs_of_layers, arc_indexes, assembled_cause, option_caused, layers_caused, assembled, assembled_dropped, assembled_removed_count, AssemblesToBuilt, AssemblingDropsExpected, AssemblingRemoves, ArcIndexesReach, retained_arcs, retained_whole, simplified_by, removed_count_by, Named, layers_of, named_lines_and_rings, ArcsRise, EachFromFirstToLast, UnguardedIndexLaw, guarded_by, reduce_arcs, Layer, features_lines_and_rings}
use Rattle.geometry.proofs.Omitted.{drop_causes_agree}
use Rattle.build_meaning.proofs.Reduced.{each_through}
use Rattle.build_meaning.proofs.Linework.{StandsIn, all_clean, each_stands, own_apart}
use Rattle.build_meaning.proofs.Reshaped.{alike}
use Rattle.build_meaning.proofs.Simplified.{cause_same, objects_again}
use Rattle.build_meaning.proofs.Trimmed.{kept_of_map}
use Rattle.build_meaning.proofs.ValidIndexes.{arcs_long}
use Rattle.build_meaning.proofs.ValidRetained.{retained_each, each_reduced}
use Rattle.build_meaning.proofs.Whole.{each_stays}

-- objects over arcs, without a transform
abbrev pub contents : List (List ℕ × TopoObject) → List (List Point) → Contents
contents os arcs = record { objects = os; arcs = arcs; transform = None }

-- ---- with each arc reduced

retained_reduced : ZeroLaw → (t : ℕ) (arcs : List (List Point)) → retained_arcs (map (reduce t) arcs) (map (reduced 0) arcs) ≡ map (reduced t) arcs
retained_reduced zero t arcs = ap (retained_arcs (map (reduce t) arcs)) (each_stays zero arcs) ∙ retained_each (reduce t) arcs ∙ each_reduced t arcs

whole_is_untrimmed : DirectionLaw → ZeroLaw → (t limit : ℕ) (ls : Named) → AreSound ls → retained_whole (arc_indexes t ls) limit (untrimmed 0 0 ls) ≡ untrimmed t limit ls
whole_is_untrimmed law zero t limit ls sound = grind (arith, retained_reduced zero t, objects_again law zero t limit ls sound)

pub assembles_to_built : DirectionLaw → ZeroLaw → AssemblesToBuilt
unfolding assembled simplified_by built
assembles_to_built law zero t limit ls sound = ap trimmed (whole_is_untrimmed law zero t limit ls sound)

pub removes : DirectionLaw → ZeroLaw → AssemblingRemoves
unfolding assembled_removed_count removed_count_by removed_count simplified_by trimmed
removes law zero t limit ls sound = grind (arith, whole_is_untrimmed law zero t limit ls sound, each_stays zero, kept_of_map (reduced t))

-- ---- what is dropped

module _ (one two : Bool → List Point → Option Cause) where
  abbrev pub Alike : Bool × List Point → Type 0
  Alike b = one b.0 b.1 ≡ two b.0 b.1

  shape_alike : (s : Option Shape) → AllByRecursion Alike (option_lines_and_rings s) → option_caused one s ≡ option_caused two s
  shape_alike s h = grind (arith, drop_causes_agree)

  pub layers_alike : (ls : Named) → AllByRecursion Alike (named_lines_and_rings ls) → map (λ l. map (λ f. option_caused one f.shape) l.1.features) ls ≡ map (λ l. map (λ f. option_caused two f.shape) l.1.features) ls
  layers_alike ls h =
      alike Alike (λ (l : List ℕ × Layer). features_lines_and_rings l.1.features) (λ l. map (λ f. option_caused one f.shape) l.1.features) (λ l. map (λ f. option_caused two f.shape) l.1.features)
      (λ l k. alike Alike (λ (f : Featured). option_lines_and_rings f.shape) (λ f. option_caused one f.shape) (λ f. option_caused two f.shape) (λ f. shape_alike f.shape) l.1.features k) ls h

pub drops_expected : DirectionLaw → ZeroLaw → AssemblingDropsExpected
unfolding assembled_dropped expected_dropped
drops_expected law zero t limit ls sound =
    let lines : List Stroke = linework (layers_of ls) in
    let all : List (List Point) = arcs_of_layers ls in
    ap (λ arcs. layers_caused (assembled_cause lines arcs limit) ls) (retained_each (reduce t) all ∙ each_reduced t all)
    ∙ ap (dropped_of_layers 0) (layers_alike (assembled_cause lines (map (reduced t) all) limit) (own_cause lines t limit) ls
    (all_weaker (StandsIn lines) (λ b. assembled_cause lines (map (reduced t) all) limit b.0 b.1 ≡ own_cause lines t limit b.0 b.1) (λ b stands. grind
    (arith, cause_same, own_apart)) (named_lines_and_rings ls) (each_stands ls)))

-- ---- validity

pub indexes_reach : UnguardedIndexLaw → ArcsRise → ArcIndexesReach
indexes_reach law rise t ls sound =
    let arcs : List (List Point) = arcs_of_layers ls in
    subst (λ kept. EachFromFirstToLast kept arcs) (law t arcs)
    (each_through (reduce_arcs (guarded_by false []) t arcs) arcs (rise (guarded_by false []) t arcs) (arcs_long (linework (layers_of ls)) (all_clean ls sound)))
