-- Objects that are pruned twice, and the lines and rings of pruned objects.
use Rattle.std.proofs.Common.{rules, arith, ◌≡◌, ℕ, ℤ, Bool, List, [], ◌∷◌, map, Option, None, Some, refl, ◌∙◌}
use Rattle.build_meaning.proofs.Names.{AllByRecursion, agreed, composed, then_some, Point, prune, option_lines_and_rings, TopoShape, object_features, objects_lines_and_rings, TopoFeature, TopoObject, One, Many, Refs, objects_pruned}
use Rattle.topojson_types.specs.Topologies.{features_lines_and_rings}
use Rattle.build_meaning.proofs.Replaced.{lines_and_rings_replaced}
use Rattle.build_meaning.proofs.Reshaped.{Objects, pruned_shape, feature_with, object_with, at_name, objects_with, made_parts, objects_alike, objects_twice}

-- ---- objects pruned twice are pruned at once

module _ (one two at_once : Refs) where
  abbrev pub Meets : Bool × List ℤ → Type 0
  Meets b = then_some (two b.0) (one b.0 b.1) ≡ at_once b.0 b.1

  shape_then : (s : Option TopoShape) → AllByRecursion Meets (option_lines_and_rings s) → then_some (prune (λ (p : Point). p) two) (then_some (prune (λ (p : Point). p) one) s) ≡ then_some (prune (λ p. p) at_once) s
  shape_then None h = refl
  shape_then (Some s) h = search (rules, composed, agreed)

  pub objects_then : (os : Objects) → AllByRecursion Meets (objects_lines_and_rings os) → objects_pruned two (objects_pruned one os) ≡ objects_pruned at_once os
  objects_then os h =
      objects_twice (pruned_shape (λ p. p) two) (pruned_shape (λ p. p) one) os
      ∙ objects_alike Meets option_lines_and_rings (λ s. pruned_shape (λ p. p) two (pruned_shape (λ p. p) one s)) (pruned_shape (λ p. p) at_once) shape_then os h

-- ---- the lines and rings where each is replaced

module _ (place : Point → Point) (f : List ℤ → List ℤ) where
  abbrev turned : Option TopoShape → Option TopoShape
  turned = pruned_shape place (λ closed refs. Some (f refs))

  abbrev onto : Bool × List ℤ → Bool × List ℤ
  onto b = (b.0, f b.1)

  abbrev of_feature : TopoFeature → List (Bool × List ℤ)
  of_feature t = option_lines_and_rings t.shape

  shape_replaced : (s : Option TopoShape) → option_lines_and_rings (turned s) ≡ map onto (option_lines_and_rings s)
  shape_replaced s = grind (arith, lines_and_rings_replaced)

  object_replaced : (o : TopoObject) → features_lines_and_rings (object_features (object_with turned o)) ≡ map onto (features_lines_and_rings (object_features o))
  object_replaced (One t) = made_parts of_feature of_feature (feature_with turned) onto (λ t. shape_replaced t.shape) (t ∷ [])
  object_replaced (Many ts) = made_parts of_feature of_feature (feature_with turned) onto (λ t. shape_replaced t.shape) ts

  pub lines_placed : (os : Objects) → objects_lines_and_rings (objects_with (pruned_shape place (λ closed refs. Some (f refs))) os) ≡ map (λ b. (b.0, f b.1)) (objects_lines_and_rings os)
  lines_placed os =
      made_parts (λ (o : List ℕ × TopoObject). features_lines_and_rings (object_features o.1)) (λ (o : List ℕ × TopoObject). features_lines_and_rings (object_features o.1)) (at_name (object_with turned)) onto
      (λ o. object_replaced o.1) os

pub objects_replaced : (f : List ℤ → List ℤ) (os : Objects) → objects_lines_and_rings (objects_pruned (λ closed refs. Some (f refs)) os) ≡ map (λ b. (b.0, f b.1)) (objects_lines_and_rings os)
objects_replaced f os = lines_placed (λ p. p) f os
