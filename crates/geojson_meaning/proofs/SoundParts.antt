-- What is read of a value without collections keeps the rules of its kind, and is no deeper than the value.
use Rattle.std.proofs.Common.{◌≡◌, ℕ, suc, ◌<◌, ◌≤◌, Bool, true, cond, List, [], ◌∷◌, Option, Some, None, Ok, refl, arith, unsigned_abs, ℤ}
use Rattle.geojson_meaning.proofs.Names.{AllByRecursion, all_weaker, map_some, unless_empty, Point, IsInput, is_ring, input_limit, Yields, IfThere, weaker_yields, there_weaker, then_yields, give_yields, count_yields, fail_yields, if_yields, if_some_yields, each_of_yields, kept_of_yields, depth, array_of, Json, count_rounded, Shape, is_some_list, nesting, number_in_units, coordinate, elements_position, array_position, position, shape_in, coordinates_shape, elements_in, some_elements, as_line, line_in, line, as_ring, ring_in, ring, with_outer, polygon_in, polygon, Reader, ◌>>=◌, fail, each, kept, if_some, WrongKind, Inexact, CoordinatesType}
use Rattle.decimal_text.proofs.ScaledNumber.{scaled_of-within}
use Rattle.geometry.specs.declared.shape.Geometry.TheVariants as g
use Rattle.geojson_meaning.specs.declared.types.CoordinatesType.TheVariants as type
use Rattle.geojson_meaning.proofs.Inside.{Shallower, array_shallower, array_deep}
use Rattle.geojson_meaning.proofs.Sound.{IsLine, IsRing, IsArea, IsSound, sound-point, sound-points, sound-line, sound-lines, sound-area, sound-areas}
use Rattle.geojson_meaning.proofs.ShapeCases.{nest_at}

-- a P, and at least k levels of n
abbrev pub Takes : {A : Type 0} → (A → Type 0) → ℕ → ℕ → A → Type 0
Takes P k n x = P x × (k ≤ n)

-- values less deep than n
abbrev pub Shallow : ℕ → List Json → Type 0
Shallow n = AllByRecursion (Shallower n)

-- ---- coordinates and positions

abbrev IsUnits : ℤ → Type 0
IsUnits z = unsigned_abs z ≤ input_limit

units_yield_at : (b inexact : Bool) (z : ℤ) → IsUnits z → Yields IsUnits (cond b (fail Inexact) (λ c. Ok (z, count_rounded inexact c)))
units_yield_at b inexact z h = grind (arith, fail_yields, count_yields)

number_yields : (exact : Bool) (o : Option (List ℕ)) → Yields IsUnits (number_in_units exact o)
number_yields exact o = grind (arith, fail_yields, units_yield_at, scaled_of-within)

pub elements_position_yields : (exact : Bool) (vs : List Json) → Yields (λ p. IsInput p × (is_some_list vs ≡ true)) (elements_position exact vs)
unfolding elements_position coordinate
elements_position_yields exact vs = grind (arith, fail_yields, then_yields, number_yields, count_yields)

array_position_yields : (exact : Bool) (v : Json) (o : Option (List Json)) → array_of v ≡ o → Yields (Takes IsInput 1 (depth v)) (array_position exact o)
array_position_yields exact v None e = fail_yields _ WrongKind
array_position_yields exact v (Some vs) e = weaker_yields _ (Takes IsInput 1 (depth v)) (elements_position exact vs) (λ p h. (h.0, omega (arith, array_deep v vs e))) (elements_position_yields exact vs)

pub position_yields : (exact : Bool) (v : Json) → Yields (Takes IsInput 1 (depth v)) (position exact v)
position_yields exact v = unfold position in array_position_yields exact v (array_of v) refl

-- ---- lists of parts

-- each part takes a level more of what is around it
pub each_takes : {A : Type 0} (P : A → Type 0) (k : ℕ) (read : Json → Reader A) → ((v : Json) → Yields (Takes P k (depth v)) (read v)) → (n : ℕ) (vs : List Json) → Shallow n vs → Yields (AllByRecursion (Takes P (suc k) n)) (each read vs)
each_takes P k read h n = each_of_yields (Shallower n) (Takes P (suc k) n) read (λ v lt. weaker_yields (Takes P k (depth v)) (Takes P (suc k) n) (read v) (λ x t. (t.0, omega (arith, t.1, lt))) (h v))

pub there_takes : {A : Type 0} (P : A → Type 0) (k : ℕ) (read : Json → Reader (Option A)) → ((v : Json) → Yields (IfThere (Takes P k (depth v))) (read v)) → (n : ℕ) (v : Json) → depth v < n → Yields (IfThere (Takes P (suc k) n)) (read v)
there_takes P k read h n v lt = weaker_yields (IfThere (Takes P k (depth v))) (IfThere (Takes P (suc k) n)) (read v) (there_weaker (Takes P k (depth v)) (Takes P (suc k) n) (λ x t. (t.0, omega (arith, t.1, lt)))) (h v)

pub kept_takes : {A : Type 0} (P : A → Type 0) (k : ℕ) (read : Json → Reader (Option A)) → ((v : Json) → Yields (IfThere (Takes P k (depth v))) (read v)) → (n : ℕ) (vs : List Json) → Shallow n vs → Yields (AllByRecursion (Takes P (suc k) n)) (kept read vs)
kept_takes P k read h n = kept_of_yields (Shallower n) (Takes P (suc k) n) read (there_takes P k read h n)

parts_are : {A : Type 0} (P : A → Type 0) (k n : ℕ) (xs : List A) → AllByRecursion (Takes P k n) xs → AllByRecursion P xs
parts_are P k n = all_weaker (Takes P k n) P (λ x t. t.0)

-- where there is a part, its levels are
parts_take : {A : Type 0} (P : A → Type 0) (k n : ℕ) (xs : List A) → is_some_list xs ≡ true → AllByRecursion (Takes P k n) xs → k ≤ n
parts_take P k n xs h m = grind arith

-- the elements of an array are less deep
elements_yield : (v : Json) (o : Option (List Json)) → array_of v ≡ o → Yields (IfThere (Shallow (depth v))) (elements_in o)
elements_yield v o h = grind (arith, fail_yields, count_yields, give_yields, array_shallower)

pub some_elements_yield : {A : Type 0} (P : A → Type 0) (read : List Json → Reader (Option A)) (v : Json) → ((vs : List Json) → Shallow (depth v) vs → Yields (IfThere P) (read vs)) → Yields (IfThere P) (some_elements v >>= if_some read)
unfolding some_elements
some_elements_yield P read v h = then_yields (IfThere (Shallow (depth v))) (IfThere P) (elements_in (array_of v)) (if_some read) (elements_yield v (array_of v) refl) (if_some_yields (Shallow (depth v)) P read h)

-- ---- lines and rings

as_line_yields : (n : ℕ) (ps : List Point) → AllByRecursion (Takes IsInput 2 n) ps → Yields (IfThere (Takes IsLine 2 n)) (as_line ps)
as_line_yields n ps h = grind (arith, if_yields, give_yields, parts_are, parts_take, fail_yields)

line_in_yields : (exact : Bool) (n : ℕ) (vs : List Json) → Shallow n vs → Yields (IfThere (Takes IsLine 2 n)) (line_in exact vs)
line_in_yields exact n vs h = unfold line_in in grind (arith, then_yields, each_takes, position_yields, as_line_yields)

line_yields : (exact : Bool) (v : Json) → Yields (IfThere (Takes IsLine 2 (depth v))) (line exact v)
line_yields exact v = unfold line in some_elements_yield (Takes IsLine 2 (depth v)) (line_in exact) v (line_in_yields exact (depth v))

as_ring_yields : (n : ℕ) (ps : List Point) → AllByRecursion (Takes IsInput 2 n) ps → Yields (IfThere (Takes IsRing 2 n)) (as_ring ps)
as_ring_yields n ps h = unfold is_ring in grind (arith, if_yields, give_yields, parts_are, parts_take, fail_yields)

ring_in_yields : (exact : Bool) (n : ℕ) (vs : List Json) → Shallow n vs → Yields (IfThere (Takes IsRing 2 n)) (ring_in exact vs)
ring_in_yields exact n vs h = unfold ring_in in grind (arith, then_yields, each_takes, position_yields, as_ring_yields)

ring_yields : (exact : Bool) (v : Json) → Yields (IfThere (Takes IsRing 2 (depth v))) (ring exact v)
ring_yields exact v = unfold ring in some_elements_yield (Takes IsRing 2 (depth v)) (ring_in exact) v (ring_in_yields exact (depth v))

-- ---- polygons

with_outer_is : (n : ℕ) (o : Option (List Point)) (rs : List (List Point)) → IfThere (Takes IsRing 3 n) o → AllByRecursion (Takes IsRing 3 n) rs → IfThere (Takes IsArea 3 n) (with_outer o rs)
with_outer_is n o rs h k = grind (arith, parts_are)

polygon_in_yields : (exact : Bool) (n : ℕ) (vs : List Json) → Shallow n vs → Yields (IfThere (Takes IsArea 3 n)) (polygon_in exact vs)
unfolding polygon_in
polygon_in_yields exact n [] h = give_yields (IfThere (Takes IsArea 3 n)) None tt
polygon_in_yields exact n (v ∷ vs) h =
    then_yields (IfThere (Takes IsRing 3 n)) (IfThere (Takes IsArea 3 n)) (ring exact v) _ (there_takes IsRing 2 (ring exact) (ring_yields exact) n v h.0)
    (λ o ho. then_yields (AllByRecursion (Takes IsRing 3 n)) (IfThere (Takes IsArea 3 n)) (kept (ring exact) vs) _ (kept_takes IsRing 2 (ring exact) (ring_yields exact) n vs h.1)
    (λ rs hr. give_yields (IfThere (Takes IsArea 3 n)) (with_outer o rs) (with_outer_is n o rs ho hr)))

polygon_yields : (exact : Bool) (v : Json) → Yields (IfThere (Takes IsArea 3 (depth v))) (polygon exact v)
unfolding polygon
polygon_yields exact v = some_elements_yield (Takes IsArea 3 (depth v)) (polygon_in exact) v (polygon_in_yields exact (depth v))

-- ---- shapes

-- it keeps the rules of its kind, and is no deeper than n
abbrev pub SoundIn : ℕ → Shape → Type 0
SoundIn n s = IsSound s × (nesting {P = Point} {L = List Point} s ≤ n)

-- of some parts, and of a part that is there
module _ {A : Type 0} (make : A → Shape) (P : A → Type 0) (n : ℕ) (ok : (x : A) → P x → SoundIn n (make x)) where
  of_option : (o : Option A) → IfThere P o → IfThere (SoundIn n) (map_some make o)
  of_option o h = grind arith

module _ {A : Type 0} (make : List A → Shape) (P : A → Type 0) (k n m : ℕ) (ok : (xs : List A) → is_some_list xs ≡ true → AllByRecursion P xs → k ≤ n → SoundIn m (make xs)) where
  of_list : (xs : List A) → AllByRecursion (Takes P k n) xs → IfThere (SoundIn m) (unless_empty make xs)
  of_list xs h = grind (arith, parts_are, parts_take)

some_shallow : (n : ℕ) (vs : List Json) → Shallow n vs → is_some_list vs ≡ true → 0 < n
some_shallow n vs h k = grind arith

pub shape_in_yields : (exact : Bool) (t : CoordinatesType) (n : ℕ) (vs : List Json) → Shallow n vs → Yields (IfThere (SoundIn (suc n))) (shape_in exact t vs)
unfolding shape_in
shape_in_yields exact type.Point n vs h =
    then_yields _ (IfThere (SoundIn (suc n))) (elements_position exact vs) _ (elements_position_yields exact vs)
    (λ p t. give_yields (IfThere (SoundIn (suc n))) (Some (g.Point p)) (sound-point p t.0, rw (nest_at.point p) (omega (arith, some_shallow n vs h t.1))))
shape_in_yields exact type.MultiPoint n vs h =
    then_yields _ (IfThere (SoundIn (suc n))) (each (position exact) vs) _ (each_takes IsInput 1 (position exact) (position_yields exact) n vs h)
    (λ ps t. give_yields (IfThere (SoundIn (suc n))) (unless_empty g.MultiPoint ps) (of_list g.MultiPoint IsInput 2 n (suc n) (λ qs some all le. (sound-points qs some all, rw (nest_at.points qs) (omega (arith, le)))) ps t))
shape_in_yields exact type.LineString n vs h = then_yields _ (IfThere (SoundIn (suc n))) (line_in exact vs) _ (line_in_yields exact n vs h)
    (λ o t. give_yields (IfThere (SoundIn (suc n))) (map_some g.Line o) (of_option g.Line (Takes IsLine 2 n) (suc n) (λ ps k. (sound-line ps k.0, rw (nest_at.line ps) (omega (arith, k.1)))) o t))
shape_in_yields exact type.MultiLineString n vs h =
    then_yields _ (IfThere (SoundIn (suc n))) (kept (line exact) vs) _ (kept_takes IsLine 2 (line exact) (line_yields exact) n vs h)
    (λ ls t. give_yields (IfThere (SoundIn (suc n))) (unless_empty g.Lines ls) (of_list g.Lines IsLine 3 n (suc n) (λ qs some all le. (sound-lines qs some all, rw (nest_at.lines qs) (omega (arith, le)))) ls t))
shape_in_yields exact type.Polygon n vs h =
    then_yields _ (IfThere (SoundIn (suc n))) (polygon_in exact vs) _ (polygon_in_yields exact n vs h)
    (λ o t. give_yields (IfThere (SoundIn (suc n))) (map_some g.Area o) (of_option g.Area (Takes IsArea 3 n) (suc n) (λ rs k. (sound-area rs k.0, rw (nest_at.area rs) (omega (arith, k.1)))) o t))
shape_in_yields exact type.MultiPolygon n vs h =
    then_yields _ (IfThere (SoundIn (suc n))) (kept (polygon exact) vs) _ (kept_takes IsArea 3 (polygon exact) (polygon_yields exact) n vs h)
    (λ rss t. give_yields (IfThere (SoundIn (suc n))) (unless_empty g.Areas rss) (of_list g.Areas IsArea 4 n (suc n) (λ qs some all le. (sound-areas qs some all, rw (nest_at.areas qs) (omega (arith, le)))) rss t))

-- the value of `coordinates` is one level less deep than the geometry
pub coordinates_shape_yields : (exact : Bool) (t : CoordinatesType) (v : Json) → Yields (IfThere (SoundIn (suc (depth v)))) (coordinates_shape exact t v)
unfolding coordinates_shape
coordinates_shape_yields exact t v = some_elements_yield (SoundIn (suc (depth v))) (shape_in exact t) v (shape_in_yields exact t (depth v))
