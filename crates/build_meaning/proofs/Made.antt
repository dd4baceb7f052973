-- Objects that are made of layers and then pruned are made of them at once.
use Rattle.std.proofs.Common.{rules, arith, ◌≡◌, Bool, List, [], ◌∷◌, map, Option, None, Some, refl}
use Rattle.build_meaning.proofs.Names.{AllByRecursion, all_left, all_right, agreed, composed, then_some, Point, prune, option_lines_and_rings, Shape, Featured, TopoShape, TopoFeature, Kept, features_by, objects_by, Refs, feature_pruned, objects_pruned, Named, named_lines_and_rings, features_lines_and_rings}

module _ (kept : Kept) (next : Refs) (at_once : Kept) where
  abbrev pub Gets : Bool × List Point → Type 0
  Gets b = then_some (next b.0) (kept b.0 b.1) ≡ at_once b.0 b.1

  shape_by : (s : Option Shape) → AllByRecursion Gets (option_lines_and_rings s) → then_some (prune (λ (p : Point). p) next) (then_some (prune (λ (p : Point). p) kept) s) ≡ then_some (prune (λ p. p) at_once) s
  shape_by None h = refl
  shape_by (Some s) h = search (rules, composed, agreed)

  made : Featured → Option TopoShape → TopoFeature
  made f s = record { id = f.id; properties = f.properties; shape = s }

  features_made : (fs : List Featured) → AllByRecursion Gets (features_lines_and_rings fs) → map (feature_pruned next) (features_by kept fs) ≡ features_by at_once fs
  unfolding made
  features_made [] h = refl
  features_made (f ∷ fs) h = grind (arith, made, shape_by, all_left, all_right, features_made fs (all_right Gets (option_lines_and_rings f.shape) (features_lines_and_rings fs) h))

  pub objects_made : (ls : Named) → AllByRecursion Gets (named_lines_and_rings ls) → objects_pruned next (objects_by kept ls) ≡ objects_by at_once ls
  objects_made [] h = refl
  objects_made (l ∷ ls) h = grind (arith, features_made, all_left, all_right, objects_made ls (all_right Gets (features_lines_and_rings l.1.features) (named_lines_and_rings ls) h))
