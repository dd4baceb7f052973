-- Each shape that is read keeps the rules of its kind, and is no deeper than its value.
use Rattle.std.proofs.Common.{◌≡◌, ℕ, zero, suc, ◌<◌, Bool, List, [], ◌∷◌, map, Option, Some, None, Ok, refl, arith}
use Rattle.std.specs.Prelude.{codes}
use Rattle.geojson_meaning.proofs.Names.{AllByRecursion, all_weaker, Point, Yields, IfThere, there_weaker, weaker_yields, then_yields, give_yields, fail_yields, pure_yields, kept_of_yields, depth, greatest, array_of, object_of, Json, Shape, nesting, Counts, coordinates_shape, shape, shapes, typed_geometry, geometry, need, need_as, Reader, give, pure, kept, GeoFaultKind, WrongKind, GeometryType}
use Rattle.geometry.specs.declared.shape.Geometry.TheVariants as g
use Rattle.geojson_meaning.specs.declared.types.GeometryType.TheVariants as type
use Rattle.geojson_meaning.proofs.Inside.{Shallower, ShallowerMember, array_shallower, array_deep, object_shallower, need_part}
use Rattle.geojson_meaning.proofs.Sound.{IsSound, sound-group}
use Rattle.geojson_meaning.proofs.SoundParts.{SoundIn, coordinates_shape_yields}
use Rattle.geojson_meaning.proofs.Unrolled.{shape_object, shape_other, shapes_array, shapes_other}
use Rattle.geojson_meaning.proofs.ShapeCases.{nest_at}

-- members whose values are less deep than n
abbrev pub ShallowMembers : ℕ → List (List ℕ × Json) → Type 0
ShallowMembers n = AllByRecursion (ShallowerMember n)

-- shapes that keep the rules of their kinds, each less deep than n
abbrev pub SoundInside : ℕ → List Shape → Type 0
SoundInside n ss = AllByRecursion IsSound ss × (greatest (map nesting ss) < n)

abbrev SoundBelow : ℕ → Shape → Type 0
SoundBelow n s = IsSound s × (nesting {P = Point} {L = List Point} s < n)

all_below : (n : ℕ) (ss : List Shape) → 0 < n → AllByRecursion (SoundBelow n) ss → greatest (map nesting ss) < n
all_below n [] pos h = pos
all_below n (s ∷ ss) pos h = omega (arith, h.0.1, all_below n ss pos h.1)

-- the member of this name, and what is read of it
pub need_as_yields : {A : Type 0} (P : A → Type 0) (name : List ℕ) (read : Json → Reader A) (ms : List (List ℕ × Json)) → ((v : Json) → need name ms ≡ Ok v → Yields P (read v)) → Yields P (need_as name read ms)
need_as_yields P name read ms h = then_yields (λ v. need name ms ≡ Ok v) P (pure (need name ms)) read (pure_yields (need name ms)) h

-- ---- one level

group_yields : (n : ℕ) (ss : List Shape) (m : ℕ) → m < n → SoundInside m ss → Yields {C = Counts} {E = GeoFaultKind} (IfThere (SoundIn n)) (give (Some (g.Group ss)))
group_yields n ss m lt h = give_yields (IfThere (SoundIn n)) (Some (g.Group ss)) (sound-group ss h.0, rw (nest_at.group ss) (omega (arith, h.1, lt)))

module _ (exact : Bool) (n : ℕ) (ms : List (List ℕ × Json)) (inside : ShallowMembers n ms) (inner : (v : Json) → depth v < n → Yields (SoundInside (depth v)) (shapes exact v)) where
  typed_yields : (t : GeometryType) → Yields (IfThere (SoundIn n)) (typed_geometry exact t ms)
  unfolding typed_geometry
  typed_yields type.Collection =
      then_yields (λ ss. (m : ℕ) × ((m < n) × SoundInside m ss)) (IfThere (SoundIn n)) (need_as (codes "geometries") (shapes exact) ms) _
      (need_as_yields _ (codes "geometries") (shapes exact) ms (λ v e. let lt = need_part (Shallower n) (codes "geometries") ms v e inside in weaker_yields (SoundInside (depth v)) _ (shapes exact v) (λ ss h. (depth v, (lt, h))) (inner v lt)))
      (λ ss h. group_yields n ss h.0 h.1.0 h.1.1)
  typed_yields (type.Coordinates t) = need_as_yields (IfThere (SoundIn n)) (codes "coordinates") (coordinates_shape exact t) ms
      (λ v e. weaker_yields (IfThere (SoundIn (suc (depth v)))) (IfThere (SoundIn n)) (coordinates_shape exact t v)
      (there_weaker (SoundIn (suc (depth v))) (SoundIn n) (λ s h. (h.0, omega (arith, h.1, need_part (Shallower n) (codes "coordinates") ms v e inside))))
      (coordinates_shape_yields exact t v))

  members_yield : Yields (IfThere (SoundIn n)) (geometry exact ms)
  members_yield = unfold geometry in grind (arith, then_yields, pure_yields, typed_yields)

-- ---- all levels

-- as a geometry, and as the value of `geometries`
pub record IsReadSound (exact : Bool) (v : Json) : Type 0 where
  pub one : Yields (IfThere (SoundIn (depth v))) (shape exact v)
  pub many : Yields (SoundInside (depth v)) (shapes exact v)

module _ (exact : Bool) (v : Json) (inner : (w : Json) → depth w < depth v → IsReadSound exact w) where
  one_yields : (o : Option (List (List ℕ × Json))) → object_of v ≡ o → Yields (IfThere (SoundIn (depth v))) (shape exact v)
  one_yields None e = rw (shape_other exact v e) (fail_yields (IfThere (SoundIn (depth v))) WrongKind)
  one_yields (Some ms) e = rw (shape_object exact v ms e) (members_yield exact (depth v) ms (object_shallower v ms e) (λ w lt. (inner w lt).many))

  many_yield : (o : Option (List Json)) → array_of v ≡ o → Yields (SoundInside (depth v)) (shapes exact v)
  many_yield None e = rw (shapes_other exact v e) (fail_yields (SoundInside (depth v)) WrongKind)
  many_yield (Some vs) e = rw (shapes_array exact v vs e)
      (weaker_yields (AllByRecursion (SoundBelow (depth v))) (SoundInside (depth v)) (kept (shape exact) vs)
      (λ ss h. (all_weaker (SoundBelow (depth v)) IsSound (λ s k. k.0) ss h, all_below (depth v) ss (array_deep v vs e) h))
      (kept_of_yields (Shallower (depth v)) (SoundBelow (depth v)) (shape exact)
      (λ w lt. weaker_yields (IfThere (SoundIn (depth w))) (IfThere (SoundBelow (depth v))) (shape exact w) (there_weaker (SoundIn (depth w)) (SoundBelow (depth v)) (λ s k. (k.0, omega (arith, k.1, lt)))) (inner w lt).one)
      vs (array_shallower v vs e)))

below : (exact : Bool) (n : ℕ) (v : Json) → depth v < n → IsReadSound exact v
below exact zero v lt = absurd (omega arith)
below exact (suc n) v lt =
    let inner : (w : Json) → depth w < depth v → IsReadSound exact w = λ w less. below exact n w (omega arith) in
    record { one = one_yields exact v inner (object_of v) refl; many = many_yield exact v inner (array_of v) refl }

pub read_sound : (exact : Bool) (v : Json) → IsReadSound exact v
read_sound exact v = below exact (suc (depth v)) v (omega arith)

-- of members that are less deep than n
pub geometry_yields : (exact : Bool) (n : ℕ) (ms : List (List ℕ × Json)) → ShallowMembers n ms → Yields (IfThere (SoundIn n)) (geometry exact ms)
geometry_yields exact n ms inside = members_yield exact n ms inside (λ v lt. (read_sound exact v).many)

pub typed_geometry_yields : (exact : Bool) (t : GeometryType) (n : ℕ) (ms : List (List ℕ × Json)) → ShallowMembers n ms → Yields (IfThere (SoundIn n)) (typed_geometry exact t ms)
typed_geometry_yields exact t n ms inside = typed_yields exact n ms inside (λ v lt. (read_sound exact v).many) t
