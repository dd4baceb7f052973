-- The features and objects that are read keep the rules, their names differ, and what holds of all parts of a value holds of them.
use Rattle.std.proofs.Common.{◌≡◌, ◌≢◌, ℕ, false, List, [], ◌∷◌, map, Option, Some, Ok}
use Rattle.std.specs.Prelude.{codes, bytes_eq}
use Rattle.topojson_meaning.proofs.Names.{or_parts, AllByRecursion, all_weaker, Point, find_part, given, each_of_yields, array_of, object_of, Json, Id, TopoShape, AreDistinct, object_features, TopoFeature, TopoObject, One, Many, Transform, identifier, members_if, feature, feature_element, is_collection, object_type, Members, lookup_fault, find, need_as, elements, members, features, collection, single, object, is_met, new_name, objects_after, objects, give, typed_shape, WrongKind, GeometryType}
use Rattle.json_value.specs.Members as members_by
use Rattle.topojson_meaning.proofs.ValidKept.{IsShape, IsSingle}
use Rattle.topojson_meaning.proofs.ValidMembers.{need_as_yields}
use Rattle.topojson_meaning.proofs.ValidReadings.{typed_shape_yields, single_shape_yields}
use Rattle.topojson_meaning.proofs.ValidYields.{Yields, IfThere, then_yields, give_yields, fail_yields, pure_then, if_yields, there_weaker, or_fail_is}
use Rattle.owned_values.proofs.Tests.{bytes_differ}

-- ---- names

-- objects whose names were not met
abbrev AreNew : List (List ℕ) → List (List ℕ × TopoObject) → Type 0
AreNew met = AllByRecursion (λ o. is_met o.0 met ≡ false)

others : (name : List ℕ) (met : List (List ℕ)) (os : List (List ℕ × TopoObject)) → AreNew (name ∷ met) os → AllByRecursion (λ n. name ≢ n) (map (λ o. o.0) os)
others name met [] h = tt
others name met (o ∷ os) h = (bytes_differ name o.0 (or_parts (bytes_eq name o.0) (is_met o.0 met) h.0).0, others name met os h.1)

-- ---- what holds of features and objects

-- Of names (N), identifiers (I) and properties (M), and of the shapes over these arcs.
module _ (N : List ℕ → Type 0) (I : Option Id → Type 0) (M : Option Members → Type 0) (transform : Option Transform) (arcs : List (List Point)) where
  -- its shape, if there is one, is an S
  abbrev pub Has : (TopoShape → Type 0) → TopoFeature → Type 0
  Has S f = I f.id × M f.properties × IfThere S f.shape

  -- all its shapes keep the rules, and one alone is no collection
  abbrev pub HasObject : TopoObject → Type 0
  HasObject (One f) = Has (IsSingle transform arcs) f
  HasObject (Many fs) = AllByRecursion (Has (IsShape transform arcs)) fs

  -- an object by its name
  abbrev pub HasNamed : List ℕ × TopoObject → Type 0
  HasNamed o = N o.0 × HasObject o.1

  -- objects of different names, none of which was met
  pub record AreObjects (met : List (List ℕ)) (os : List (List ℕ × TopoObject)) : Type 0 where
    pub fresh : AllByRecursion (λ o. is_met o.0 met ≡ false) os
    pub distinct : AreDistinct (map (λ o. o.0) os)
    pub kept : AllByRecursion HasNamed os

  one_more : (met : List (List ℕ)) (name : List ℕ) (o : TopoObject) (os : List (List ℕ × TopoObject)) → is_met name met ≡ false → N name → HasObject o → AreObjects (name ∷ met) os → AreObjects met ((name, o) ∷ os)
  one_more met name o os e n h k = record {
    fresh = (e, all_weaker (λ o. is_met o.0 (name ∷ met) ≡ false) (λ o. is_met o.0 met ≡ false) (λ o f. (or_parts (bytes_eq name o.0) (is_met o.0 met) f).1) os k.fresh);
    distinct = (others name met os k.fresh, k.distinct);
    kept = ((n, h), k.kept);
  }

  object_has : (o : TopoObject) → HasObject o → AllByRecursion (Has (IsShape transform arcs)) (object_features o)
  object_has (One f) h = ((h.0, h.1, there_weaker (IsSingle transform arcs) (IsShape transform arcs) (λ s k. k.0) f.shape h.2), tt)
  object_has (Many fs) h = h

  pub objects_have : (os : List (List ℕ × TopoObject)) → AllByRecursion HasNamed os → AllByRecursion (λ o. AllByRecursion (Has (IsShape transform arcs)) (object_features o.1)) os
  objects_have = all_weaker HasNamed (λ o. AllByRecursion (Has (IsShape transform arcs)) (object_features o.1)) (λ o h. object_has o.1 h.1)

-- What is asked of values (P) and of names passes to the elements of arrays, to the members of objects, and from members to identifiers
-- and properties.
pub record Passes (P : Json → Type 0) (N : List ℕ → Type 0) (I : Option Id → Type 0) (M : Option Members → Type 0) : Type 0 where
  pub array : (v : Json) (vs : List Json) → array_of v ≡ Some vs → P v → AllByRecursion P vs
  pub object : (v : Json) (ms : Members) → object_of v ≡ Some ms → P v → AllByRecursion (λ (m : List ℕ × Json). N m.0 × P m.1) ms
  pub id : (i : Option Json) (o : Option Id) → IfThere P i → identifier i ≡ Ok o → I o
  pub properties : (p : Option Json) (o : Option Members) → IfThere P p → members_if p ≡ Ok o → M o

module _ (P : Json → Type 0) (N : List ℕ → Type 0) (I : Option Id → Type 0) (M : Option Members → Type 0) (passes : Passes P N I M) where
  -- ---- members

  -- of a name and a value
  abbrev pub Part : List ℕ × Json → Type 0
  Part m = N m.0 × P m.1

  pub values : (ms : Members) → AllByRecursion Part ms → AllByRecursion (λ m. P m.1) ms
  values = all_weaker Part (λ m. P m.1) (λ m h. h.1)

  found : (name : List ℕ) (ms : Members) (o : Option Json) → find name ms ≡ Ok o → AllByRecursion Part ms → IfThere P o
  found name ms o e h = find_part P name ms o (given lookup_fault (members_by.find name ms) o e) (values ms h)

  members_are : (v : Json) (ms : Members) → P v → members v ≡ Ok ms → AllByRecursion Part ms
  unfolding members
  members_are v ms h e = passes.object v ms (or_fail_is WrongKind (object_of v) ms e) h

  module _ (transform : Option Transform) (arcs : List (List Point)) where
    -- ---- features

    feature_yields : (S : TopoShape → Type 0) (type : Option GeometryType) (ms : Members) → AllByRecursion Part ms → Yields (IfThere S) (typed_shape transform arcs type ms) → Yields (Has N I M transform arcs S) (feature transform arcs type ms)
    unfolding feature
    feature_yields S type ms h k =
        pure_then (Has N I M transform arcs S) (find (codes "id") ms) _
        (λ i hi. pure_then (Has N I M transform arcs S) (identifier i) _
        (λ o ho. pure_then (Has N I M transform arcs S) (find (codes "properties") ms) _
        (λ p hp. pure_then (Has N I M transform arcs S) (members_if p) _
        (λ ps hps. then_yields (IfThere S) (Has N I M transform arcs S) (typed_shape transform arcs type ms) _ k
        (λ s hs. give_yields (Has N I M transform arcs S) (record { id = o; properties = ps; shape = s })
        (passes.id i o (found (codes "id") ms i hi h) ho, passes.properties p ps (found (codes "properties") ms p hp h) hps, hs))))))

    abbrev Kept : TopoFeature → Type 0
    Kept = Has N I M transform arcs (IsShape transform arcs)

    feature_element_yields : (v : Json) → P v → Yields Kept (feature_element transform arcs v)
    unfolding feature_element
    feature_element_yields v h =
        pure_then Kept (members v) _ (λ ms e. pure_then Kept (object_type ms) _ (λ t f. feature_yields (IsShape transform arcs) t ms (members_are v ms h e) (typed_shape_yields transform arcs t ms)))

    features_yield : (v : Json) → P v → Yields (AllByRecursion Kept) (features transform arcs v)
    unfolding features elements
    features_yield v h = pure_then (AllByRecursion Kept) (elements v) _ (λ vs e. each_of_yields P Kept
        (feature_element transform arcs) feature_element_yields vs (passes.array v vs (or_fail_is WrongKind (array_of v) vs e) h))

    -- ---- objects

    abbrev KeptObject : TopoObject → Type 0
    KeptObject = HasObject N I M transform arcs

    collection_yields : (ms : Members) → AllByRecursion Part ms → Yields KeptObject (collection transform arcs ms)
    unfolding collection
    collection_yields ms h =
        then_yields (AllByRecursion Kept) KeptObject (need_as (codes "geometries") (features transform arcs) ms) _
        (need_as_yields P (AllByRecursion Kept) (codes "geometries") (features transform arcs) ms features_yield (values ms h))
        (λ fs k. give_yields KeptObject (Many fs) k)

    single_yields : (type : Option GeometryType) (ms : Members) → AllByRecursion Part ms → is_collection type ≡ false → Yields KeptObject (single transform arcs type ms)
    unfolding single
    single_yields type ms h e =
        then_yields (Has N I M transform arcs (IsSingle transform arcs)) KeptObject (feature transform arcs type ms) _
        (feature_yields (IsSingle transform arcs) type ms h (single_shape_yields transform arcs type ms e))
        (λ f k. give_yields KeptObject (One f) k)

    object_yields : (v : Json) → P v → Yields KeptObject (object transform arcs v)
    unfolding object
    object_yields v h = pure_then KeptObject (members v) _ (λ ms e. pure_then KeptObject (object_type ms) _ (λ t f.
        if_yields KeptObject (is_collection t) (collection transform arcs ms) (single transform arcs t ms)
        (λ is. collection_yields ms (members_are v ms h e)) (λ is. single_yields t ms (members_are v ms h e) is)))

    abbrev IsNewName : List (List ℕ) → List ℕ → Type 0
    IsNewName met name = (is_met name met ≡ false) × N name

    objects_after_yield : (met : List (List ℕ)) (ms : Members) → AllByRecursion Part ms → Yields (AreObjects N I M transform arcs met) (objects_after transform arcs met ms)
    unfolding objects_after
    objects_after_yield met [] h = give_yields (AreObjects N I M transform arcs met) [] (record { fresh = tt; distinct = tt; kept = tt })
    objects_after_yield met (m ∷ ms) h =
        then_yields (IsNewName met) (AreObjects N I M transform arcs met) (new_name met m.0) _
        (if_yields (IsNewName met) (is_met m.0 met) _ (give m.0) (λ is. fail_yields (IsNewName met) _) (λ is. give_yields (IsNewName met) m.0 (is, h.0.0)))
        (λ name e. then_yields KeptObject (AreObjects N I M transform arcs met) (object transform arcs m.1) _ (object_yields m.1 h.0.1)
        (λ o k. then_yields (AreObjects N I M transform arcs (name ∷ met)) (AreObjects N I M transform arcs met) (objects_after transform arcs (name ∷ met) ms) _ (objects_after_yield (name ∷ met) ms h.1)
        (λ os more. give_yields (AreObjects N I M transform arcs met) ((name, o) ∷ os) (one_more N I M transform arcs met name o os e.0 e.1 k more))))

    pub objects_yield : (v : Json) → P v → Yields (AreObjects N I M transform arcs []) (objects transform arcs v)
    unfolding objects
    objects_yield v h = pure_then (AreObjects N I M transform arcs []) (members v) _ (λ ms e. objects_after_yield [] ms (members_are v ms h e))
