-- Outer rings that are met one after the other: the best of all of them is the protected ring.
use Rattle.std.proofs.Common.{arith, ◌≡◌, ℕ, suc, ◌+◌, ◌<◌, ◌≤◌, ℤ, nat_lt, Bool, true, false, cond, ◌&&◌, List, [], ◌∷◌, ◌++◌, map, drop, length, get_or, append_assoc, Option, None, Some, add-one, refl, sym, ap, ◌∙◌}
use Rattle.std.specs.List.{filter}
use Rattle.std.proofs.lemmas.Bool.{ltb-true, ltb-false}
use Rattle.std.proofs.lemmas.List.{drop_all, map-append}
use Rattle.build_meaning.proofs.DroppableLines.{some_append}
use Rattle.geometry.specs.Lists.{joined, map_some, some_of}
use Rattle.geometry.specs.Paths.{Placed, inside_part, of_parts}
use Rattle.geometry.specs.Points.{Point}
use Rattle.guarded_meaning.specs.Guards.{is_long}
use Rattle.owned_values.proofs.Lists.{drop_here}
use Rattle.geometry.proofs.ByKind.{AtKinds}
use Rattle.build_meaning.specs.OuterRings.{outer_rings, outer_rings_step}
use Rattle.build_meaning.specs.Protected.{Protection, greater, greatest, enclosed, greatest_ring, protected_of, protected_rings}
use Rattle.build_meaning.proofs.Marks.{outer_rings_at}
use Rattle.topojson_types.specs.declared.object.TopoObject.{TopoObject}
use Rattle.topojson_types.specs.Topologies.{TopoShape, object_features}
use Rattle.topo_model.specs.Searching.{Found, summed, met, all_met, at_way}
use Rattle.topo_model.specs.Ways.{way_of, ways_of}
use Rattle.topo_model.proofs.Reported.{reported_more}

-- ---- ways

abbrev put : {A : Type 0} → List ℕ → A → Placed A
put way x = record { path = way; part = x }

inside_at : {A : Type 0} (way : List ℕ) (i : ℕ) (xs : List (Placed A)) → at_way way (inside_part i xs) ≡ at_way (way ++ (i ∷ [])) xs
inside_at way i [] = refl
inside_at way i (x ∷ xs) = ap (λ w. put w x.part ∷ at_way way (inside_part i xs)) (sym (append_assoc way (i ∷ []) x.path)) ∙ ap (λ ys. put ((way ++ (i ∷ [])) ++ x.path) x.part ∷ ys) (inside_at way i xs)

first_part : {A : Type 0} (way : List ℕ) (k : ℕ) (xs : List (Placed A)) (more : List (List (Placed A))) → at_way way (of_parts k (xs ∷ more)) ≡ at_way (way ++ (k ∷ [])) xs ++ at_way way (of_parts (suc k) more)
first_part way k xs more = map-append (λ x. put (way ++ x.path) x.part) (inside_part k xs) (of_parts (suc k) more) ∙ ap (λ ys. ys ++ at_way way (of_parts (suc k) more)) (inside_at way k xs)

at_start : {A : Type 0} (xs : List (Placed A)) → at_way [] xs ≡ xs
at_start [] = refl
at_start (x ∷ xs) = ap (λ ys. x ∷ ys) (at_start xs)

-- ---- rings that are met

module _ (arcs : List (List Point)) where
  met_append : (best : Option Found) (xs ys : List (Placed (List ℤ))) → all_met arcs best (xs ++ ys) ≡ all_met arcs (all_met arcs best xs) ys
  met_append best [] ys = refl
  met_append best (x ∷ xs) ys = met_append (met arcs best x) xs ys

  -- those of one part more
  pub part_met : {X : Type 0} (f : X → List (Placed (List ℤ))) (way : List ℕ) (k i : ℕ) (now new whole : Option Found) (xs : List X) (x : X) → i < length xs → x ≡ get_or xs i x →
      all_met arcs now (at_way way (of_parts k (map f (drop i xs)))) ≡ whole → new ≡ all_met arcs now (at_way (way ++ (k ∷ [])) (f x)) → all_met arcs new (at_way way (of_parts (k + 1) (map f (drop (i + 1) xs)))) ≡ whole
  part_met {X} f way k i now new whole xs x lt is so_far e =
      let rest : List X = drop (i + 1) xs in
      let one : Option Found = all_met arcs now (at_way (way ++ (k ∷ [])) (f x)) in
      let step : all_met arcs now (at_way way (of_parts k (map f (drop i xs)))) ≡ all_met arcs one (at_way way (of_parts (suc k) (map f rest))) =
      ap (λ zs. all_met arcs now (at_way way (of_parts k (map f zs)))) (drop_here xs i x lt is) ∙ ap (all_met arcs now) (first_part way k (f x) (map f rest))
      ∙ met_append now (at_way (way ++ (k ∷ [])) (f x)) (at_way way (of_parts (suc k) (map f rest))) in
      ap (λ n. all_met arcs n (at_way way (of_parts (k + 1) (map f rest)))) e ∙ ap (λ j. all_met arcs one (at_way way (of_parts j (map f rest)))) (add-one k) ∙ sym step ∙ so_far

  pub parts_met : {X : Type 0} (f : X → List (Placed (List ℤ))) (way : List ℕ) (k i : ℕ) (now whole : Option Found) (xs : List X) → length xs ≤ i → all_met arcs now (at_way way (of_parts k (map f (drop i xs)))) ≡ whole → now ≡ whole
  parts_met f way k i now whole xs le so_far = ap (λ zs. all_met arcs now (at_way way (of_parts k (map f zs)))) (sym (drop_all i xs le)) ∙ so_far

-- ---- outer rings by kind

pub rings_at : AtKinds (outer_rings {P = Point} {L = List ℤ}) outer_rings_step
rings_at = outer_rings_at Point (List ℤ)

-- ---- the best of all

-- the greater of one and of the greater of two is the greater of the greater of the first two and the last
joins : {X : Type 0} (size : X → ℕ) (x y : X) (o : Option X) → greater size x (Some (greater size y o)) ≡ greater size (greater size x (Some y)) o
joins size x y None = refl
joins {X} size x y (Some w) = on (nat_lt (size x) (size y)) refl (nat_lt (size y) (size w)) refl (nat_lt (size x) (size w)) refl
  where
    on : (b : Bool) → nat_lt (size x) (size y) ≡ b → (c : Bool) → nat_lt (size y) (size w) ≡ c → (d : Bool) → nat_lt (size x) (size w) ≡ d
        → greater size x (Some (greater size y (Some w))) ≡ greater size (greater size x (Some y)) (Some w)
    on true e true f true g = simp (e, f, g)
    on true e true f false g = absurd (omega (arith, ltb-true (size x) (size y) e, ltb-true (size y) (size w) f, ltb-false (size x) (size w) g))
    on true e false f d g = simp (e, f)
    on false e true f d g = simp (e, f, g)
    on false e false f true g = absurd (omega (arith, ltb-false (size x) (size y) e, ltb-false (size y) (size w) f, ltb-true (size x) (size w) g))
    on false e false f false g = simp (e, f, g)

module _ (arcs : List (List Point)) where
  abbrev size : Placed (List ℤ) → ℕ
  size x = enclosed arcs x.part

  abbrev long : Placed (List ℤ) → Bool
  long x = is_long arcs x.part

  abbrev ring : Option Found → Option (Placed (List ℤ))
  ring o = map_some (λ f. f.ring) o

  abbrev after : Placed (List ℤ) → List (Placed (List ℤ)) → Option (Placed (List ℤ))
  after x xs = Some (greater size x (greatest size (filter long xs)))

  some_met : (x : Placed (List ℤ)) (xs : List (Placed (List ℤ))) → ring (all_met arcs (Some (summed arcs x)) xs) ≡ after x xs
  some_met x [] = refl
  some_met x (y ∷ ys) = on (long y) refl (nat_lt (size x) (size y)) refl (some_met x ys) (some_met y ys)
    where
      on : (b : Bool) → long y ≡ b → (d : Bool) → nat_lt (size x) (size y) ≡ d → ring (all_met arcs (Some (summed arcs x)) ys) ≡ after x ys → ring (all_met arcs (Some (summed arcs y)) ys) ≡ after y ys
          → ring (all_met arcs (cond (b && nat_lt (size x) (size y)) (Some (summed arcs y)) (Some (summed arcs x))) ys) ≡ Some (greater size x (greatest size (cond b (y ∷ filter long ys) (filter long ys))))
      on false e d g h k = h
      on true e true g h k =
          ap (λ z. ring (all_met arcs (cond z (Some (summed arcs y)) (Some (summed arcs x))) ys)) g ∙ k
          ∙ ap Some (ap (λ z. greater size (cond z y x) (greatest size (filter long ys))) (sym g) ∙ sym (joins size x y (greatest size (filter long ys))))
      on true e false g h k =
          ap (λ z. ring (all_met arcs (cond z (Some (summed arcs y)) (Some (summed arcs x))) ys)) g ∙ h
          ∙ ap Some (ap (λ z. greater size (cond z y x) (greatest size (filter long ys))) (sym g) ∙ sym (joins size x y (greatest size (filter long ys))))

  none_met : (xs : List (Placed (List ℤ))) → ring (all_met arcs None xs) ≡ greatest size (filter long xs)
  none_met [] = refl
  none_met (y ∷ ys) = on (long y) refl (none_met ys)
    where
      on : (b : Bool) → long y ≡ b → ring (all_met arcs None ys) ≡ greatest size (filter long ys)
          → ring (all_met arcs (cond (b && true) (Some (summed arcs y)) None) ys) ≡ greatest size (cond b (y ∷ filter long ys) (filter long ys))
      on true e h = some_met y ys
      on false e h = h

  pub best_is_greatest : (s : TopoShape) → ring (all_met arcs None (at_way [] (outer_rings s))) ≡ greatest_ring arcs s
  unfolding greatest_ring
  best_is_greatest s = ap (λ xs. ring (all_met arcs None xs)) (at_start (outer_rings s)) ∙ none_met (outer_rings s)

-- ---- features and objects

ways_append : (protects : Protection) (o : List ℕ × TopoObject) (os : List (List ℕ × TopoObject)) → ways_of protects (o ∷ os) ≡ map (way_of protects) (object_features o.1) ++ ways_of protects os
ways_append protects o os = map-append (way_of protects) (object_features o.1) (joined (map (λ o. object_features o.1) os))

rings_append : (protects : Protection) (o : List ℕ × TopoObject) (os : List (List ℕ × TopoObject)) → protected_rings protects (o ∷ os) ≡ some_of (protected_of protects) (object_features o.1) ++ protected_rings protects os
rings_append protects o os = some_append (protected_of protects) (object_features o.1) (joined (map (λ o. object_features o.1) os))

-- one object more
pub object_ways_more : (protects : Protection) (i : ℕ) (now new whole : List (Option (List ℕ))) (os : List (List ℕ × TopoObject)) (o : List ℕ × TopoObject) → i < length os → o ≡ get_or os i o →
    now ++ ways_of protects (drop i os) ≡ whole → new ≡ now ++ map (way_of protects) (object_features o.1) → new ++ ways_of protects (drop (i + 1) os) ≡ whole
object_ways_more protects i = reported_more (λ (k : ℕ) (o : List ℕ × TopoObject). map (way_of protects) (object_features o.1)) (λ (k : ℕ) (os : List (List ℕ × TopoObject)). ways_of protects os) (λ k o os. ways_append protects o os) i i

pub object_rings_more : (protects : Protection) (i : ℕ) (now new whole : List (List ℤ)) (os : List (List ℕ × TopoObject)) (o : List ℕ × TopoObject) → i < length os → o ≡ get_or os i o →
    now ++ protected_rings protects (drop i os) ≡ whole → new ≡ now ++ some_of (protected_of protects) (object_features o.1) → new ++ protected_rings protects (drop (i + 1) os) ≡ whole
object_rings_more protects i = reported_more (λ (k : ℕ) (o : List ℕ × TopoObject). some_of (protected_of protects) (object_features o.1)) (λ (k : ℕ) (os : List (List ℕ × TopoObject)). protected_rings protects os) (λ k o os. rings_append protects o os) i i
