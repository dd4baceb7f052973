-- The lines, rings and polygons that are written are read back.
use Rattle.std.proofs.Common.{◌≡◌, ℕ, zero, suc, ℤ, ◌<◌, ◌≤◌, true, false, List, [], ◌∷◌, length, map, Option, Some, None, refl, arith}
use Rattle.std.specs.Prelude.{◌^◌, unsigned_abs}
use Rattle.topojson_meaning.proofs.Names.{lt-ltb, AllByRecursion, same_self, map_some, then_some, Point, both_same, scaled_of-units, array_of-array, Json, is_some_list, IsArc, AreInRange, Transform, some_elements, index_limit, index, joined_to, indexes_after, indexes, as_ring, line_in, line, ring_in, ring, polygon_in, polygon, if_some, kept}
use Rattle.std.proofs.lemmas.List.{length-reverse}
use Rattle.json_value.specs.declared.json.Json.TheVariants as j
use Rattle.geometry.specs.Joins.{number_of, at, or_empty, arc_at, first_of, last_of, Meet}
use Rattle.topojson_types.specs.Values.{whole_value, line_value, lines_value}
use Rattle.topojson_meaning.proofs.ArcsBack.{number_is_text}
use Rattle.topojson_meaning.proofs.Steps.{Gives, then_gives, kept_gives}
use Rattle.topojson_meaning.proofs.ValidLines.{last_map}
use Rattle.topojson_meaning.proofs.ValidKept.{IsLineOrRing, IsLine, IsArea}

-- ---- arrays that are not empty

pub some_elements_back : {A : Type 0} (value : A → Json) (xs : List A) → is_some_list xs ≡ true → Gives (some_elements (j.Array (map value xs))) (Some (map value xs))
unfolding some_elements
some_elements_back value xs h c = grind (arith, array_of-array)

-- ---- positions

some_same : (o q : Option Point) (p : Point) → o ≡ q → q ≡ Some p → both_same o q ≡ true
some_same o q p e f = rw (e, f) (same_self p)

-- ---- arcs and indexes

first_there : {X : Type 0} (xs : List X) → 2 ≤ length xs → (x : X) × (first_of xs ≡ Some x)
first_there [] h = absurd (omega arith)
first_there (x ∷ xs) h = (x, refl)

at_long : (transform : Option Transform) (arcs : List (List Point)) (i : ℕ) → AllByRecursion (IsArc transform) arcs → i < length arcs → 2 ≤ length (or_empty (at arcs i))
at_long transform [] i h lt = absurd (omega arith)
at_long transform (a ∷ arcs) zero h lt = h.0.0
at_long transform (a ∷ arcs) (suc i) h lt = at_long transform arcs i h.1 (omega arith)

pub magnitude : (i : ℤ) (n : ℕ) → number_of i < n → n < 2 ^ 63 → unsigned_abs i ≤ index_limit
unfolding number_of
magnitude i n h k = grind arith

index_back : (n : ℕ) (i : ℤ) → n < 2 ^ 63 → number_of i < n → Gives (index n (whole_value i)) i
unfolding index
index_back n i k h c = grind (arith, magnitude, number_is_text, scaled_of-units, lt-ltb)

-- ---- lines and rings

module _ (transform : Option Transform) (arcs : List (List Point)) (long : AllByRecursion (IsArc transform) arcs) (few : length arcs < 2 ^ 63) where
  starts : (i : ℤ) → number_of i < length arcs → (p : Point) × (first_of (arc_at arcs i) ≡ Some p)
  unfolding number_of
  starts i h = first_there (arc_at arcs i) (grind (arith, at_long transform, length-reverse))

  join_back : (before i : ℤ) → number_of i < length arcs → last_of (arc_at arcs before) ≡ first_of (arc_at arcs i) → Gives (joined_to arcs before i) i
  join_back before i h e c = grind (arith, starts, some_same)

  after_back : (before : ℤ) (refs : List ℤ) → AreInRange (length arcs) refs → Meet (arc_at arcs before ∷ map (arc_at arcs) refs) → Gives (indexes_after arcs before (map whole_value refs)) refs
  unfolding indexes_after
  after_back before [] h m c = refl
  after_back before (i ∷ refs) h m c = rw (index_back (length arcs) i few h.0 c, join_back before i h.0 m.0 c, after_back i refs h.1 m.1 c) refl

  indexes_back : (refs : List ℤ) → AreInRange (length arcs) refs → Meet (map (arc_at arcs) refs) → Gives (indexes arcs (map whole_value refs)) refs
  unfolding indexes
  indexes_back [] h m c = refl
  indexes_back (i ∷ refs) h m c = rw (index_back (length arcs) i few h.0 c, after_back i refs h.1 m c) refl

  -- the last list, if there is one, ends where this one begins
  abbrev Ends : List Point → Option (List Point) → Type 0
  Ends p o = elim o [ None ↦ ⊥ | Some q ↦ last_of q ≡ first_of p ]

  end_of : (i : ℤ) (o : Option ℤ) → Ends (arc_at arcs i) (map_some (arc_at arcs) o) → then_some (λ k. last_of (arc_at arcs k)) o ≡ first_of (arc_at arcs i)
  end_of i o h = grind arith

  pub line_in_back : (refs : List ℤ) → IsLineOrRing arcs (false, refs) → Gives (line_in arcs (map whole_value refs)) (Some refs)
  unfolding line_in
  line_in_back refs h c = rw (indexes_back refs h.0 h.1 c) refl

  line_back : (refs : List ℤ) → IsLine arcs false refs → Gives (line arcs (line_value refs)) (Some refs)
  unfolding line
  line_back refs h = then_gives (some_elements (line_value refs)) (if_some (line_in arcs)) (Some (map whole_value refs)) (Some refs) (some_elements_back whole_value refs h.0) (line_in_back refs h.1)

  pub lines_back : (ls : List (List ℤ)) → AllByRecursion (IsLine arcs false) ls → Gives (kept (line arcs) (map line_value ls)) ls
  lines_back = kept_gives (IsLine arcs false) line_value (line arcs) line_back

  ring_in_back : (refs : List ℤ) → IsLineOrRing arcs (true, refs) → Gives (ring_in arcs (map whole_value refs)) (Some refs)
  unfolding ring_in
  ring_in_back refs h = then_gives (indexes arcs (map whole_value refs)) (as_ring arcs) refs (Some refs) (indexes_back refs h.0 h.1)
      (λ c. grind (arith, starts, end_of, last_map, some_same))

  pub polygon_in_back : (rs : List (List ℤ)) → IsArea arcs rs → Gives (polygon_in arcs (map line_value rs)) (Some rs)
  unfolding polygon_in ring
  polygon_in_back rs h c = grind (arith, then_gives, some_elements_back, ring_in_back, kept_gives)

  polygon_back : (rs : List (List ℤ)) → IsArea arcs rs → Gives (polygon arcs (lines_value rs)) (Some rs)
  unfolding polygon
  polygon_back rs h = then_gives (some_elements (lines_value rs)) (if_some (polygon_in arcs)) (Some (map line_value rs)) (Some rs) (some_elements_back line_value rs h.0) (polygon_in_back rs h)

  pub polygons_back : (areas : List (List (List ℤ))) → AllByRecursion (IsArea arcs) areas → Gives (kept (polygon arcs) (map lines_value areas)) areas
  polygons_back = kept_gives (IsArea arcs) lines_value (polygon arcs) polygon_back
