-- Lines have two positions or more, and rings four, of which the first and the last are equal.
use Rattle.std.proofs.Common.{◌≡◌, ℕ, zero, suc, ◌-◌, ◌≤◌, ℤ, true, false, List, [], ◌∷◌, ◌++◌, map, length, Some, refl, ap, sym, ◌∙◌, arith, append-nil, length-append}
use Rattle.std.proofs.lemmas.Bool.Decides.{nat_tests}
use Rattle.std.proofs.lemmas.List.{length-map}
use Rattle.std.specs.List.{slice_get}
use Rattle.geometry.proofs.Points.{same_self}
use Rattle.owned_values.proofs.Elements.{all_weaker, all_map}
use Rattle.geojson_types.specs.Features.{is_some_list, is_line}
use Rattle.geometry.specs.Lists.{map_some, then_some}
use Rattle.geometry.specs.Points.{Point}
use Rattle.geometry.specs.Rings.{is_closed, is_ring}
use Rattle.topojson_types.specs.Decoding.{repeated, filled, decoded_line, placed_arcs}
use Rattle.geometry.specs.Joins.{arc_at, joined_after_first, stitched, first_of, last_of, Closes}
use Rattle.topojson_types.specs.Topologies.{Contents}
use Rattle.topojson_types.specs.Transforms.{place}
use Rattle.topojson_types.specs.Validity.{AreInRange}
use Rattle.topojson_types.specs.LinesAndRings.{IsLineOrRing}
use Rattle.topojson_types.proofs.Opening.{AreLong, arc_long}
use Rattle.topojson_types.proofs.WalkPlaces.{placed_stitched, long_arcs}

-- ---- ends of lists

last_append : {X : Type 0} (xs : List X) (y : X) (ys : List X) → last_of (xs ++ (y ∷ ys)) ≡ last_of (y ∷ ys)
last_append (x ∷ (z ∷ xs)) y ys = last_append (z ∷ xs) y ys
last_append xs y ys = refl

last_map : {X Y : Type 0} (f : X → Y) (xs : List X) (x : X) → last_of xs ≡ Some x → last_of (map f xs) ≡ Some (f x)
last_map f [] x h = cc
last_map f (y ∷ []) x h = ap (map_some f) h
last_map f (y ∷ (z ∷ xs)) x h = last_map f (z ∷ xs) x h

first_map : {X Y : Type 0} (f : X → Y) (xs : List X) (x : X) → first_of xs ≡ Some x → first_of (map f xs) ≡ Some (f x)
first_map f xs x h = grind arith

first_append : (xs ys : List Point) → 2 ≤ length xs → first_of (xs ++ ys) ≡ first_of xs
first_append xs ys h = grind arith

first_there : (xs : List Point) → 2 ≤ length xs → (x : Point) × (first_of xs ≡ Some x)
first_there [] h = absurd (omega (arith, h))
first_there (x ∷ xs) h = (x, refl)

last_there : {X : Type 0} (x : X) (xs : List X) → (y : X) × (last_of (x ∷ xs) ≡ Some y)
last_there x [] = (x, refl)
last_there x (y ∷ ys) = last_there y ys

-- the last of lists one after another is that of the last, where each has two elements or more
last_joined : (p : List Point) (ps : List (List Point)) (q : List Point) → AreLong ps → last_of (p ∷ ps) ≡ Some q → last_of (p ++ joined_after_first ps) ≡ last_of q
last_joined p [] q long h = ap last_of (append-nil p) ∙ ap (then_some last_of) h
last_joined p ((a ∷ (b ∷ r)) ∷ ps) q long h = last_append p b (r ++ joined_after_first ps) ∙ last_joined (a ∷ (b ∷ r)) ps q long.1 h
last_joined p ps q long h = absurd (omega (arith, long.0))

-- ---- rings

slice_last : (xs : List Point) → slice_get xs (length xs - 1) ≡ last_of xs
slice_last (x ∷ (y ∷ ys)) =
    let e : length (x ∷ (y ∷ ys)) - 1 ≡ suc (length (y ∷ ys) - 1) = omega arith in
    ap (slice_get (x ∷ (y ∷ ys))) e ∙ slice_last (y ∷ ys)
slice_last xs = refl

last_of_same : (n : ℕ) (p : Point) → last_of (p ∷ repeated n p) ≡ Some p
last_of_same zero p = refl
last_of_same (suc n) p = last_of_same n p

last_repeated : (n : ℕ) (xs : List Point) (p : Point) → last_of xs ≡ Some p → last_of (xs ++ repeated n p) ≡ Some p
last_repeated n xs p h = grind (arith, append-nil, last_append, last_of_same)

-- where the last is the first, the list filled up to four is a ring
ring_filled : (p : Point) (ps : List Point) → last_of (p ∷ ps) ≡ Some p → is_ring (filled (p ∷ ps)) ≡ true
unfolding is_ring is_closed
ring_filled p ps h = grind (arith, length-append (p ∷ ps) (repeated (4 - length (p ∷ ps)) p), slice_last ((p ∷ ps) ++ (repeated (4 - length (p ∷ ps)) p)), last_repeated (4 - length (p ∷ ps)) (p ∷ ps) p h, same_self p)

-- ---- lines of a valid topology

long_map : (arcs : List (List Point)) (refs : List ℤ) → AreLong arcs → AreInRange (length arcs) refs → AreLong (map (arc_at arcs) refs)
long_map arcs refs long ranged = grind (arith, all_map, all_weaker, arc_long)

-- the cells of a ring begin and end with one cell
ring_ends : (arcs : List (List Point)) (refs : List ℤ) → AreLong arcs → is_some_list refs ≡ true → AreInRange (length arcs) refs → Closes (map (arc_at arcs) refs)
    → (p : Point) × (first_of (stitched (map (arc_at arcs) refs)) ≡ Some p) × (last_of (stitched (map (arc_at arcs) refs)) ≡ Some p)
ring_ends arcs refs h k m e = grind (arith, long_map, first_there, last_there, first_append, last_joined)

module _ (t : Contents) (refs : List ℤ) where
  -- its positions, before any is added
  abbrev pub drawn : List Point
  drawn = decoded_line (placed_arcs t.transform t.arcs) false refs

  pub ring_is : IsLineOrRing t (true, refs) → (ps : List Point) → ps ≡ filled drawn → is_ring ps ≡ true
  ring_is stroke ps e =
      let cells = stitched (map (arc_at t.arcs) refs) in
      let k = ring_ends t.arcs refs (long_arcs t stroke.topology) stroke.full stroke.ranged (stroke.closed refl) in
      let same : drawn ≡ map (place t.transform) cells = sym (placed_stitched t.transform t.arcs refs) in
      rw (e, same)
      (grind (arith, ring_filled, (first_map (place t.transform) cells k.0 k.1), (last_map (place t.transform) cells k.0 k.2)))

  pub line_is : IsLineOrRing t (false, refs) → is_line drawn ≡ true
  line_is stroke = rw (← placed_stitched t.transform t.arcs refs) (on refs stroke.full stroke.ranged)
    where
      on : (rs : List ℤ) → is_some_list rs ≡ true → AreInRange (length t.arcs) rs → is_line (map (place t.transform) (stitched (map (arc_at t.arcs) rs))) ≡ true
      on [] s h = cc
      on (r ∷ rs) s h =
          let a = arc_at t.arcs r in
          let more = joined_after_first (map (arc_at t.arcs) rs) in
          let long : 2 ≤ length a = arc_long t.arcs r (long_arcs t stroke.topology) h.0 in
          let size : 2 ≤ length (map (place t.transform) (a ++ more)) = omega (arith, length-append a more, length-map (a ++ more) (place t.transform)) in
          grind (arith, nat_tests)
