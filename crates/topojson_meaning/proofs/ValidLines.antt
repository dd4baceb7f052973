-- The lines, rings and polygons that are read are joined and closed, of indexes that name arcs.
use Rattle.std.proofs.Common.{◌≡◌, ℤ, ◌<◌, true, false, List, [], ◌∷◌, length, map, Option, Some, None, refl, ap, arith}
use Rattle.topojson_meaning.proofs.Names.{ltb-true, AllByRecursion, same_is, map_some, Point, both_same, Json, is_some_list, AreInRange, some_elements, index, joined_to, indexes_after, indexes, line_start, line_end, as_ring, line_in, line, ring_in, ring, with_outer, polygon_in, polygon, Reader, ◌>>=◌, if_some, kept}
use Rattle.geometry.specs.Joins.{number_of, arc_at, first_of, last_of, Meet, Closes}
use Rattle.topojson_meaning.proofs.ValidKept.{IsLine, IsArea}
use Rattle.topojson_meaning.proofs.ValidYields.{Yields, IfThere, then_yields, give_yields, count_yields, fail_yields, pure_then, if_yields, if_some_yields, kept_yields}

-- ---- positions that are the same

both_same_is : (o q : Option Point) → both_same o q ≡ true → o ≡ q
both_same_is None q h = absurd cc
both_same_is (Some p) None h = absurd cc
both_same_is (Some p) (Some r) h = ap (λ z. Some z) (same_is p r h)

-- ---- arrays that are not empty

pub some_elements_yield : {A : Type 0} (P : A → Type 0) (read : List Json → Reader (Option A)) (v : Json) → ((vs : List Json) → is_some_list vs ≡ true → Yields (IfThere P) (read vs)) → Yields (IfThere P) (some_elements v >>= if_some read)
unfolding some_elements
some_elements_yield x0 read v h = grind (arith, then_yields, fail_yields, count_yields, give_yields, if_some_yields)

pub last_map : {A B : Type 0} (f : A → B) (xs : List A) → last_of (map f xs) ≡ map_some f (last_of xs)
last_map f (x ∷ y ∷ xs) = last_map f (y ∷ xs)
last_map f xs = refl

module _ (arcs : List (List Point)) where
  -- ---- indexes

  abbrev IsIndex : ℤ → Type 0
  IsIndex i = number_of i < length arcs

  index_yields : (v : Json) → Yields IsIndex (index (length arcs) v)
  unfolding index
  index_yields v = grind (arith, pure_then, then_yields, if_yields, give_yields, ltb-true, fail_yields)

  -- ---- lines

  -- an index whose arc begins where that of the one before ends
  abbrev IsNext : ℤ → ℤ → Type 0
  IsNext before i = IsIndex i × (last_of (arc_at arcs before) ≡ first_of (arc_at arcs i))

  -- indexes whose arcs meet one another, and that of the index before
  abbrev AreAfter : ℤ → List ℤ → Type 0
  AreAfter before refs = AreInRange (length arcs) refs × Meet (arc_at arcs before ∷ map (arc_at arcs) refs)

  after_yield : (before : ℤ) (vs : List Json) → Yields (AreAfter before) (indexes_after arcs before vs)
  unfolding indexes_after
  after_yield before [] = give_yields (AreAfter before) [] (tt, tt)
  after_yield before (v ∷ vs) =
      then_yields IsIndex (AreAfter before) (index (length arcs) v) _ (index_yields v)
      (λ j hj. then_yields (IsNext before) (AreAfter before) (joined_to arcs before j) _
      (grind (arith, if_yields, give_yields, both_same_is, fail_yields))
      (λ i hi. then_yields (AreAfter i) (AreAfter before) (indexes_after arcs i vs) _ (after_yield i vs)
      (λ refs h. give_yields (AreAfter before) (i ∷ refs) ((hi.0, h.0), (hi.1, h.1)))))

  -- some indexes of a line
  abbrev IsOpen : List ℤ → Type 0
  IsOpen refs = IsLine arcs false refs

  indexes_yield : (vs : List Json) → is_some_list vs ≡ true → Yields IsOpen (indexes arcs vs)
  unfolding indexes
  indexes_yield [] some = absurd cc
  indexes_yield (v ∷ vs) some =
      then_yields IsIndex IsOpen (index (length arcs) v) _ (index_yields v)
      (λ i hi. then_yields (AreAfter i) IsOpen (indexes_after arcs i vs) _ (after_yield i vs)
      (λ refs h. give_yields IsOpen (i ∷ refs) ((refl, ((hi, h.0), h.1, λ e. absurd cc)))))

  pub line_in_yields : (vs : List Json) → is_some_list vs ≡ true → Yields (IfThere IsOpen) (line_in arcs vs)
  unfolding line_in
  line_in_yields vs some = then_yields IsOpen (IfThere IsOpen) (indexes arcs vs) _ (indexes_yield vs some) (λ refs h. give_yields (IfThere IsOpen) (Some refs) h)

  pub lines_yield : (vs : List Json) → Yields (AllByRecursion IsOpen) (kept (line arcs) vs)
  unfolding line
  lines_yield = kept_yields IsOpen (line arcs) (λ v. some_elements_yield IsOpen (line_in arcs) v line_in_yields)

  -- ---- rings

  closes : (refs : List ℤ) → both_same (line_end arcs refs) (line_start arcs refs) ≡ true → Closes (map (arc_at arcs) refs)
  closes refs h = grind (arith, last_map, both_same_is)

  abbrev IsRing : List ℤ → Type 0
  IsRing refs = IsLine arcs true refs

  ring_yields : (v : Json) → Yields (IfThere IsRing) (ring arcs v)
  unfolding ring ring_in
  ring_yields v = some_elements_yield IsRing (ring_in arcs) v (λ vs some. then_yields IsOpen (IfThere IsRing) (indexes arcs vs)
      (as_ring arcs) (indexes_yield vs some) (λ refs h. search (if_yields, give_yields, closes, fail_yields)))

  -- ---- polygons

  pub polygon_in_yields : (vs : List Json) → Yields (IfThere (IsArea arcs)) (polygon_in arcs vs)
  unfolding polygon_in
  polygon_in_yields [] = give_yields (IfThere (IsArea arcs)) None tt
  polygon_in_yields (v ∷ vs) =
      then_yields (IfThere IsRing) (IfThere (IsArea arcs)) (ring arcs v) _ (ring_yields v)
      (λ o ho. then_yields (AllByRecursion IsRing) (IfThere (IsArea arcs)) (kept (ring arcs) vs) _ (kept_yields IsRing
      (ring arcs) ring_yields vs) (λ rs hr. give_yields (IfThere (IsArea arcs)) (with_outer o rs) (grind arith)))

  polygon_yields : (v : Json) → Yields (IfThere (IsArea arcs)) (polygon arcs v)
  unfolding polygon
  polygon_yields v = some_elements_yield (IsArea arcs) (polygon_in arcs) v (λ vs some. polygon_in_yields vs)

  pub polygons_yield : (vs : List Json) → Yields (AllByRecursion (IsArea arcs)) (kept (polygon arcs) vs)
  polygons_yield = kept_yields (IsArea arcs) (polygon arcs) polygon_yields
