-- Each position of the topology that is built of layers is a position of theirs.
use Rattle.std.proofs.Common.{rules, arith, ℕ, Bool, List, [], ◌∷◌, map, Option, Some, None}
use Rattle.build_meaning.proofs.Names.{AllByRecursion, all_append, all_left, all_right, all_map, all_weaker, then_some, Point, prune, Shape, Featured, option_points, features_points, sub_all, reduced, NoneIsNew, built, Kept, features_by, objects_by, feature_renumbered, object_renumbered, trimmed, EachCell, layers_points, option_places, features_places, objects_places, Named, layers_of}
use Rattle.build_meaning.proofs.ValidPositions.{arcs_have}
use Rattle.build_meaning.proofs.ValidPruned.{option_stay}
use Rattle.build_meaning.proofs.ValidShapes.{places_stay}
use Rattle.build_meaning.proofs.ValidTrimmed.{all_kept}

module _ (X : Point → Type 0) where
  abbrev Have : List Point → Type 0
  Have ps = AllByRecursion X ps

  -- ---- arcs

  each_reduced : NoneIsNew → (t : ℕ) (arcs : List (List Point)) → AllByRecursion Have arcs → AllByRecursion Have (map (reduced t) arcs)
  each_reduced none t arcs h = all_map Have (reduced t) arcs (all_weaker Have (λ a. Have (reduced t a)) (λ a k. sub_all X (none t a) k) arcs h)

  -- ---- Points and MultiPoints

  module _ (kept : Kept) (used : ℕ → Bool) where
    shape_pruned : (s : Option Shape) → Have (option_points s) → Have (option_places (then_some (prune (λ p. p) kept) s))
    shape_pruned None h = tt
    shape_pruned (Some s) h = places_stay kept X s h

    features_among : (fs : List Featured) → Have (features_points fs) → Have (features_places (map (feature_renumbered used) (features_by kept fs)))
    features_among [] h = tt
    features_among (f ∷ fs) h = search (rules, all_append, option_stay, shape_pruned, all_left, all_right, features_among fs (all_right X (option_points f.shape) (features_points fs) h))

    objects_among : (ls : Named) → Have (layers_points (layers_of ls)) → Have (objects_places (map (λ o. (o.0, object_renumbered used o.1)) (objects_by kept ls)))
    objects_among [] h = tt
    objects_among (l ∷ ls) h = grind (arith, all_append, features_among, all_left, all_right, objects_among ls (all_right X (features_points l.1.features) (layers_points (layers_of ls)) h))

pub built_cells : NoneIsNew → (X : Point → Type 0) (t limit : ℕ) (ls : Named) → AllByRecursion X (layers_points (layers_of ls)) → EachCell X (built t limit ls)
unfolding built trimmed
built_cells none X t limit ls h = search (rules, all_kept, each_reduced, arcs_have, objects_among)
