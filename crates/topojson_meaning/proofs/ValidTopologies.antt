-- A topology that is read is valid, and what holds of all parts of the value holds of its names, identifiers and properties.
use Rattle.std.proofs.Common.{◌≡◌, ℕ, ℤ, Bool, List, [], Option, Ok, arith}
use Rattle.std.specs.Prelude.{codes}
use Rattle.topojson_meaning.proofs.Names.{AllByRecursion, all_map, all_joined, all_weaker, all_of, Point, option_lines_and_rings, object_of, text_of, Json, Id, no_counts, TopoShape, Contents, object_features, features_lines_and_rings, objects_lines_and_rings, option_places, IsPlace, IsArc, IsTransformed, IsTopology, TopoFeature, TopoObject, Transform, arc_list, ReadsValid, Members, find, need, need_as, objects, or_fail, topology_type, contents, value_contents, topology, transform_if, NotTopology, WrongKind}
use Rattle.topojson_meaning.proofs.ValidArcs.{arc_list_yields}
use Rattle.topojson_meaning.proofs.ValidKept.{IsLineOrRing, IsShape, IsSingle}
use Rattle.topojson_meaning.proofs.ValidMembers.{need_as_yields}
use Rattle.topojson_meaning.proofs.ValidObjects.{Has, HasNamed, AreObjects, objects_have, Passes, Part, values, objects_yield}
use Rattle.topojson_meaning.proofs.ValidTransforms.{transform_if_yields}
use Rattle.topojson_meaning.proofs.ValidYields.{Yields, IfThere, all_trivial, there_weaker, then_yields, give_yields, pure_then, or_fail_is}

-- ---- all that holds of a topology that is read

pub record IsRead (N : List ℕ → Type 0) (I : Option Id → Type 0) (M : Option Members → Type 0) (t : Contents) : Type 0 where
  pub transform : IsTransformed t.transform
  pub arcs : AllByRecursion (IsArc t.transform) t.arcs
  pub objects : AreObjects N I M t.transform t.arcs [] t.objects

module _ (P : Json → Type 0) (N : List ℕ → Type 0) (I : Option Id → Type 0) (M : Option Members → Type 0) (passes : Passes P N I M) where
  contents_yield : (ms : Members) → AllByRecursion (Part P N I M passes) ms → Yields (IsRead N I M) (contents ms)
  unfolding contents
  contents_yield ms h =
      pure_then (IsRead N I M) (need (codes "type") ms) _
      (λ t ht. pure_then (IsRead N I M) (or_fail WrongKind (text_of t)) _
      (λ name hn. then_yields (λ u. Unit {0}) (IsRead N I M) (topology_type name) _ (λ c d u e. tt)
      (λ u hu. pure_then (IsRead N I M) (find (codes "transform") ms) _
      (λ r hr. then_yields IsTransformed (IsRead N I M) (transform_if r) _ (transform_if_yields r)
      (λ transform k. then_yields (AllByRecursion (IsArc transform)) (IsRead N I M) (need_as (codes "arcs") (arc_list transform) ms) _
      (need_as_yields (λ v. Unit {0}) (AllByRecursion (IsArc transform)) (codes "arcs") (arc_list transform) ms (λ v k. arc_list_yields transform v) (all_trivial ms))
      (λ arcs ha. then_yields (AreObjects N I M transform arcs []) (IsRead N I M) (need_as (codes "objects") (objects transform arcs) ms) _
      (need_as_yields P (AreObjects N I M transform arcs []) (codes "objects") (objects transform arcs) ms (objects_yield P N I M passes transform arcs) (values P N I M passes ms h))
      (λ os ho. give_yields (IsRead N I M) (record { objects = os; arcs = arcs; transform = transform }) (record { transform = k; arcs = ha; objects = ho }))))))))

  pub is_read : (v : Json) (t : Contents) → (c : _) → P v → topology v ≡ Ok (t, c) → IsRead N I M t
  unfolding topology value_contents
  is_read v t c h e = (pure_then (IsRead N I M) (or_fail NotTopology (object_of v)) _ (λ ms f. contents_yield ms (passes.object v ms (or_fail_is NotTopology (object_of v) ms f) h))) no_counts c t e

-- ---- that it is valid

nothing_passes : Passes (λ v. Unit {0}) (λ n. Unit {0}) (λ i. Unit {0}) (λ p. Unit {0})
nothing_passes = record { array = λ v vs e h. all_trivial vs; object = λ v ms e h. all_of (λ m. Unit {0} × Unit {0}) ms (λ m k. (tt, tt)); id = λ i o h e. tt; properties = λ p o h e. tt }

module _ (transform : Option Transform) (arcs : List (List Point)) where
  abbrev LinesAndRings : List (Bool × List ℤ) → Type 0
  LinesAndRings = AllByRecursion (IsLineOrRing arcs)

  option_placed : (o : Option TopoShape) → IfThere (IsShape transform arcs) o → AllByRecursion (IsPlace transform) (option_places o)
  option_placed o h = grind arith

  option_is_valid : (o : Option TopoShape) → IfThere (IsShape transform arcs) o → LinesAndRings (option_lines_and_rings o)
  option_is_valid o h = grind arith

  one_shape : (o : Option TopoShape) → IfThere (IsSingle transform arcs) o → IfThere (IsShape transform arcs) o
  one_shape = there_weaker (IsSingle transform arcs) (IsShape transform arcs) (λ s h. h.0)

  abbrev Kept : TopoFeature → Type 0
  Kept = Has (λ n. Unit {0}) (λ i. Unit {0}) (λ p. Unit {0}) transform arcs (IsShape transform arcs)

  abbrev KeptNamed : List ℕ × TopoObject → Type 0
  KeptNamed = HasNamed (λ n. Unit {0}) (λ i. Unit {0}) (λ p. Unit {0}) transform arcs

  features_are_valid : (fs : List TopoFeature) → AllByRecursion Kept fs → LinesAndRings (features_lines_and_rings fs)
  features_are_valid fs h = all_joined (IsLineOrRing arcs) _ (all_map LinesAndRings (λ f. option_lines_and_rings f.shape) fs
      (all_weaker Kept (λ f. LinesAndRings (option_lines_and_rings f.shape)) (λ f k. option_is_valid f.shape k.2) fs h))

  objects_are_valid : (os : List (List ℕ × TopoObject)) → AllByRecursion KeptNamed os → LinesAndRings (objects_lines_and_rings os)
  objects_are_valid os h = all_joined (IsLineOrRing arcs) _ (all_map LinesAndRings (λ o. features_lines_and_rings (object_features o.1)) os
      (all_weaker (λ o. AllByRecursion Kept (object_features o.1)) (λ o. LinesAndRings (features_lines_and_rings (object_features o.1))) (λ o. features_are_valid (object_features o.1)) os
      (objects_have (λ n. Unit {0}) (λ i. Unit {0}) (λ p. Unit {0}) transform arcs os h)))

  topology_valid : (os : List (List ℕ × TopoObject)) → IsTransformed transform → AllByRecursion (IsArc transform) arcs → AreObjects (λ n. Unit {0}) (λ i. Unit {0}) (λ p. Unit {0}) transform arcs [] os
      → IsTopology (record { objects = os; arcs = arcs; transform = transform })
  topology_valid os ht ha h = grind (arith, objects_are_valid, all_weaker, option_placed, one_shape, IsLineOrRing)

pub reads_valid : ReadsValid
reads_valid v t c e = let h = is_read (λ v. Unit {0}) (λ n. Unit {0}) (λ i. Unit {0}) (λ p. Unit {0}) nothing_passes v t c tt e in topology_valid t.transform t.arcs t.objects h.transform h.arcs h.objects
