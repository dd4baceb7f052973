-- Where the cells of a walk lie.
use Rattle.std.proofs.Common.{◌≡◌, ℕ, zero, suc, ◌<◌, ◌≤◌, ℤ, List, [], ◌∷◌, ◌++◌, map, length, reverse, Option, None, Some, refl, ap, sym, ◌∙◌, arith}
use Rattle.std.proofs.lemmas.List.{reverse-append, map-append}
use Rattle.std.specs.List.{AllByRecursion}
use Rattle.geometry.specs.Lists.{tail}
use Rattle.owned_values.proofs.Elements.{all_weaker, all_append, all_reverse}
use Rattle.geometry.specs.Points.{Point}
use Rattle.topojson_types.specs.declared.transform.Transform.{Transform}
use Rattle.topojson_types.specs.Decoding.{placed_arcs}
use Rattle.geometry.specs.Joins.{number_of, at, or_empty, arc_at, joined_after_first, stitched}
use Rattle.topojson_types.specs.Topologies.{Contents}
use Rattle.topojson_types.specs.Transforms.{place, place_on}
use Rattle.topojson_types.specs.Validity.{AreInRange, IsArc, IsPlace, IsTopology}
use Rattle.topojson_types.proofs.Opening.{arc_lasts, AreLong}

-- ---- places, arc by arc

module _ (f : Point → Point) where
  map_reverse : (xs : List Point) → map f (reverse xs) ≡ reverse (map f xs)
  map_reverse [] = refl
  map_reverse (x ∷ xs) =
      ap (map f) (reverse-append (x ∷ []) xs) ∙ map-append f (reverse xs) (x ∷ [])
      ∙ ap (λ zs. zs ++ (f x ∷ [])) (map_reverse xs) ∙ sym (reverse-append (f x ∷ []) (map f xs))

  map_at : (arcs : List (List Point)) (i : ℕ) → map f (or_empty (at arcs i)) ≡ or_empty (at (map (map f) arcs) i)
  map_at [] i = refl
  map_at (a ∷ arcs) zero = refl
  map_at (a ∷ arcs) (suc i) = map_at arcs i

  map_arc : (arcs : List (List Point)) (r : ℤ) → map f (arc_at arcs r) ≡ arc_at (map (map f) arcs) r
  map_arc arcs r = grind (arith, map_at, map_reverse)

  map_after : (xs : List Point) → map f (tail xs) ≡ tail (map f xs)
  map_after xs = grind arith

  map_joined : (arcs : List (List Point)) (refs : List ℤ) → map f (joined_after_first (map (arc_at arcs) refs)) ≡ joined_after_first (map (arc_at (map (map f) arcs)) refs)
  map_joined arcs [] = refl
  map_joined arcs (r ∷ refs) = grind (arith, map-append, map_after, map_arc, map_joined arcs refs)

  map_stitched : (arcs : List (List Point)) (refs : List ℤ) → map f (stitched (map (arc_at arcs) refs)) ≡ stitched (map (arc_at (map (map f) arcs)) refs)
  map_stitched arcs [] = refl
  map_stitched arcs (r ∷ refs) =
      map-append f (arc_at arcs r) (joined_after_first (map (arc_at arcs) refs))
      ∙ ap (λ zs. zs ++ map f (joined_after_first (map (arc_at arcs) refs))) (map_arc arcs r)
      ∙ ap (λ zs. arc_at (map (map f) arcs) r ++ zs) (map_joined arcs refs)

map_same : (xs : List Point) → map (place None) xs ≡ xs
map_same [] = refl
map_same (x ∷ xs) = ap (λ zs. x ∷ zs) (map_same xs)

-- the positions of a line are those of its cells
pub placed_stitched : (transform : Option Transform) (arcs : List (List Point)) (refs : List ℤ)
    → map (place transform) (stitched (map (arc_at arcs) refs)) ≡ stitched (map (arc_at (placed_arcs transform arcs)) refs)
placed_stitched None arcs refs = map_same (stitched (map (arc_at arcs) refs))
placed_stitched (Some t) arcs refs = map_stitched (place_on t) arcs refs

-- ---- in a valid topology

pub long_arcs : (t : Contents) → IsTopology t → AreLong t.arcs
long_arcs t is = all_weaker (IsArc t.transform) (λ cs. 2 ≤ length cs) (λ cs h. h.0) t.arcs is.arcs

abbrev pub ArePlaces : Option Transform → List Point → Type 0
ArePlaces transform cs = AllByRecursion (IsPlace transform) cs

after_places : (transform : Option Transform) (cs : List Point) → ArePlaces transform cs → ArePlaces transform (tail cs)
after_places transform cs h = grind arith

module _ (t : Contents) (is : IsTopology t) where
  arc_places : (r : ℤ) → number_of r < length t.arcs → ArePlaces t.transform (arc_at t.arcs r)
  arc_places r =
      arc_lasts (ArePlaces t.transform) (all_reverse (IsPlace t.transform)) t.arcs r
      (all_weaker (IsArc t.transform) (ArePlaces t.transform) (λ cs h. h.1) t.arcs is.arcs)

  joined_places : (refs : List ℤ) → AreInRange (length t.arcs) refs → ArePlaces t.transform (joined_after_first (map (arc_at t.arcs) refs))
  joined_places [] h = tt
  joined_places (r ∷ refs) h = grind (arith, all_append, after_places, arc_places, joined_places refs h.1)

  pub walk_places : (refs : List ℤ) → AreInRange (length t.arcs) refs → ArePlaces t.transform (stitched (map (arc_at t.arcs) refs))
  walk_places [] h = tt
  walk_places (r ∷ refs) h = all_append (IsPlace t.transform) (arc_at t.arcs r) _ (arc_places r h.0) (joined_places refs h.1)
