-- The ring that encloses most of what is left of a shape is what is made of the one that encloses most of the shape.
use Rattle.std.proofs.Common.{◌≡◌, ℕ, ℤ, suc, nat_lt, Bool, true, false, ◌&&◌, cond, List, [], ◌∷◌, map, Option, None, Some, refl, sym, ap, ◌∙◌, subst}
use Rattle.build_meaning.proofs.Names.{fun_ext, AllByRecursion, filter, all_append, all_left, all_right, all_weaker, lines_and_rings_at, composed, by_kinds, map_some, then_some, joined, Placed, inside_part, of_parts, Point, prune, lines_and_rings, Geometry, TopoShape, is_long, outer_ring, outer_rings, marked, greater, greatest, enclosed, greatest_ring, protection}
use Rattle.build_meaning.proofs.Marks.{outer_rings_at}
use Rattle.build_meaning.proofs.MarksLeft.{Follows, nothing, made, left_out}
use Rattle.build_meaning.proofs.ShapesLeft.{keeping_mark, rings_left, Turns, TurnsOver, stays}
use Rattle.geometry.specs.declared.shape.Geometry.TheVariants as g

-- ---- the outer rings are among the lines and rings

module _ {L : Type 0} (X : Bool × L → Type 0) where
  abbrev OfRing : Placed L → Type 0
  OfRing x = X (true, x.part)

  all_inside : (i : ℕ) (xs : List (Placed L)) → AllByRecursion OfRing xs → AllByRecursion OfRing (inside_part i xs)
  all_inside i [] h = tt
  all_inside i (x ∷ xs) h = (h.0, all_inside i xs h.1)

  of_polygon : (rs : List L) → AllByRecursion X (map (λ l. (true, l)) rs) → AllByRecursion OfRing (outer_ring rs)
  of_polygon [] h = tt
  of_polygon (o ∷ holes) h = (h.0, tt)

  of_polygons : (i : ℕ) (areas : List (List L)) → AllByRecursion X (joined (map (map (λ l. (true, l))) areas)) → AllByRecursion OfRing (of_parts i (map outer_ring areas))
  of_polygons i [] h = tt
  of_polygons i (rs ∷ areas) h =
      all_append OfRing (inside_part i (outer_ring rs)) (of_parts (suc i) (map outer_ring areas))
      (all_inside i (outer_ring rs) (of_polygon rs (all_left X (map (λ l. (true, l)) rs) (joined (map (map (λ l. (true, l))) areas)) h)))
      (of_polygons (suc i) areas (all_right X (map (λ l. (true, l)) rs) (joined (map (map (λ l. (true, l))) areas)) h))

  module _ {P : Type 0} where
    abbrev Within : Geometry P L L → Type 0
    Within s = AllByRecursion X (lines_and_rings s) → AllByRecursion OfRing (outer_rings s)

    of_members : (i : ℕ) (ss : List (Geometry P L L)) → AllByRecursion Within ss → AllByRecursion X (joined (map lines_and_rings ss)) → AllByRecursion OfRing (of_parts i (map outer_rings ss))
    of_members i [] all h = tt
    of_members i (s ∷ ss) all h =
        all_append OfRing (inside_part i (outer_rings s)) (of_parts (suc i) (map outer_rings ss))
        (all_inside i (outer_rings s) (all.0 (all_left X (lines_and_rings s) (joined (map lines_and_rings ss)) h)))
        (of_members (suc i) ss all.1 (all_right X (lines_and_rings s) (joined (map lines_and_rings ss)) h))

    none_there : (s : Geometry P L L) → outer_rings s ≡ [] → Within s
    none_there s e h = subst (AllByRecursion OfRing) (sym e) tt

    pub rings_within : (s : Geometry P L L) → AllByRecursion X (lines_and_rings s) → AllByRecursion (λ x. X (true, x.part)) (outer_rings s)
    rings_within = by_kinds Within (record {
      point = λ p. none_there (g.Point p) ((outer_rings_at P L).point p);
      points = λ ps. none_there (g.MultiPoint ps) ((outer_rings_at P L).points ps);
      line = λ l. none_there (g.Line l) ((outer_rings_at P L).line l);
      lines = λ ls. none_there (g.Lines ls) ((outer_rings_at P L).lines ls);
      area = λ rs h. subst (AllByRecursion OfRing) (sym ((outer_rings_at P L).area rs)) (of_polygon rs (subst (AllByRecursion X) ((lines_and_rings_at P L).area rs) h));
      areas = λ areas h. subst (AllByRecursion OfRing) (sym ((outer_rings_at P L).areas areas)) (of_polygons 0 areas (subst (AllByRecursion X) ((lines_and_rings_at P L).areas areas) h));
      group = λ ss all h. subst (AllByRecursion OfRing) (sym ((outer_rings_at P L).group ss)) (of_members 0 ss all (subst (AllByRecursion X) ((lines_and_rings_at P L).group ss) h));
    })

-- ---- the greatest

-- of the rings that pass the one of the greatest number
abbrev pub greatest_of : {L : Type 0} → (L → ℕ) → (L → Bool) → List (Placed L) → Option (Placed L)
greatest_of size long xs = greatest (λ x. size x.part) (filter (λ x. long x.part) xs)

-- what is made of what stands at a place, there
abbrev pub put : {L M : Type 0} → (L → M) → Placed L → Placed M
put make x = record { path = x.path; part = make x.part }

module _ {A B : Type 0} (make : A → B) (size : B → ℕ) (long : B → Bool) where
  greater_made : (x : A) (o : Option A) → greater size (make x) (map_some make o) ≡ make (greater (λ z. size (make z)) x o)
  greater_made x None = refl
  greater_made x (Some z) = on (nat_lt (size (make x)) (size (make z)))
    where
      on : (b : Bool) → cond b (make z) (make x) ≡ make (cond b z x)
      on true = refl
      on false = refl

  -- the greatest of what is made of some is made of the greatest of them
  pub greatest_made : (xs : List A) → greatest size (filter long (map make xs)) ≡ map_some make (greatest (λ x. size (make x)) (filter (λ x. long (make x)) xs))
  greatest_made [] = refl
  greatest_made (x ∷ xs) = on (long (make x)) (greatest_made xs)
    where
      on : (b : Bool) → greatest size (filter long (map make xs)) ≡ map_some make (greatest (λ z. size (make z)) (filter (λ z. long (make z)) xs))
          → greatest size (cond b (make x ∷ filter long (map make xs)) (filter long (map make xs)))
          ≡ map_some make (greatest (λ z. size (make z)) (cond b (x ∷ filter (λ z. long (make z)) xs) (filter (λ z. long (make z)) xs)))
      on true e = ap (λ o. Some (greater size (make x) o)) e ∙ ap Some (greater_made x (greatest (λ z. size (make z)) (filter (λ z. long (make z)) xs)))
      on false e = e

-- of rings of these arcs
pub ring_made : {L : Type 0} (arcs : List (List Point)) (refs : L → List ℤ) (xs : List (Placed L))
    → greatest (λ x. enclosed arcs x.part) (filter (λ x. is_long arcs x.part) (map (put refs) xs)) ≡ map_some (put refs) (greatest (λ x. enclosed arcs (refs x.part)) (filter (λ x. is_long arcs (refs x.part)) xs))
ring_made arcs refs xs = greatest_made (put refs) (λ x. enclosed arcs x.part) (λ x. is_long arcs x.part) xs

-- the greatest ring of a shape with these outer rings
pub ring_among : (arcs : List (List Point)) (s : TopoShape) (xs : List (Placed (List ℤ))) → outer_rings s ≡ xs → greatest_ring arcs s ≡ greatest (λ x. enclosed arcs x.part) (filter (λ x. is_long arcs x.part) xs)
unfolding greatest_ring
ring_among arcs s xs e = ap (λ xs. greatest (λ x. enclosed arcs x.part) (filter (λ x. is_long arcs x.part) xs)) e

none_chosen : {L : Type 0} (size : L → ℕ) (long : L → Bool) (xs : List (Placed L)) → greatest_of size (λ l. false && long l) xs ≡ None
none_chosen size long [] = refl
none_chosen size long (x ∷ xs) = none_chosen size long xs

-- the greatest ring of these, where shapes stay, and otherwise none
pub chosen_if : {L : Type 0} (keep_shapes : Bool) (size : L → ℕ) (long : L → Bool) (xs : List (Placed L))
    → cond keep_shapes (greatest (λ x. size x.part) (filter (λ x. long x.part) xs)) None ≡ greatest_of size (λ l. keep_shapes && long l) xs
chosen_if true size long xs = refl
chosen_if false size long xs = sym (none_chosen size long xs)

-- the protected ring of a shape is the greatest one that passes
pub protection_is : (keep_shapes : Bool) (arcs : List (List Point)) → protection keep_shapes arcs ≡ (λ s. greatest_of (enclosed arcs) (λ refs. keep_shapes && is_long arcs refs) (outer_rings s))
unfolding greatest_ring
protection_is true arcs = refl
protection_is false arcs = fun_ext (λ s. chosen_if false (enclosed arcs) (is_long arcs) (outer_rings s))

-- the way to it
abbrev pub way_of : {L : Type 0} → Option (Placed L) → Option (List ℕ)
way_of o = map_some (λ x. x.path) o

module _ {L M : Type 0} (kept : L → Option M) (size : L → ℕ) (long : L → Bool) (size_after : M → ℕ) (long_after : M → Bool) where
  -- What is made of a ring is as great, and passes where the ring does. A ring that isn't kept doesn't pass.
  pub record Agrees (l : L) : Type 0 where
    pub same_size : (m : M) → kept l ≡ Some m → size_after m ≡ size l
    pub same_test : (m : M) → kept l ≡ Some m → long_after m ≡ long l
    pub left_out_fails : kept l ≡ None → long l ≡ false

  module _ (T : List ℕ → List ℕ → Type 0) where
    -- the one is what is made of the other
    abbrev pub Chosen : Option (Placed L) → Option (Placed M) → Type 0
    Chosen None None = Unit {0}
    Chosen None (Some y) = ⊥
    Chosen (Some x) None = ⊥
    Chosen (Some x) (Some y) = (kept x.part ≡ Some y.part) × T x.path y.path × (size_after y.part ≡ size x.part)

    abbrev best : List (Placed L) → Option (Placed L)
    best xs = greatest_of size long xs

    abbrev best_after : List (Placed M) → Option (Placed M)
    best_after ys = greatest_of size_after long_after ys

    against : (x : Placed L) (y : Placed M) → kept x.part ≡ Some y.part → T x.path y.path → size_after y.part ≡ size x.part → (o : Option (Placed L)) (p : Option (Placed M))
        → Chosen o p → Chosen (Some (greater (λ x. size x.part) x o)) (Some (greater (λ y. size_after y.part) y p))
    against x y k t e None None c = (k, t, e)
    against x y k t e None (Some w) c = absurd c
    against x y k t e (Some z) None c = absurd c
    against x y k t e (Some z) (Some w) c =
        subst (λ b. Chosen (Some (cond (nat_lt (size x.part) (size z.part)) z x)) (Some (cond b w y)))
        (sym (ap (λ n. nat_lt n (size_after w.part)) e ∙ ap (λ n. nat_lt (size x.part) n) c.2)) (on (nat_lt (size x.part) (size z.part)))
      where
        on : (b : Bool) → Chosen (Some (cond b z x)) (Some (cond b w y))
        on true = c
        on false = (k, t, e)

    abbrev passed : List (Placed L) → List (Placed L)
    passed xs = filter (λ x. long x.part) xs

    abbrev passed_after : List (Placed M) → List (Placed M)
    passed_after ys = filter (λ y. long_after y.part) ys

    pub picks : {xs : List (Placed L)} {ys : List (Placed M)} → Follows kept T xs ys → AllByRecursion (λ x. Agrees x.part) xs → Chosen (greatest_of size long xs) (greatest_of size_after long_after ys)
    picks nothing all = tt
    picks (left_out {x} {xs} {ys} e h) all =
        subst (λ b. Chosen (greatest (λ x. size x.part) (cond b (x ∷ passed xs) (passed xs))) (best_after ys)) (sym (all.0.left_out_fails e)) (picks h all.1)
    picks (made {x} {y} {xs} {ys} e t h) all =
        subst (λ b. Chosen (best (x ∷ xs)) (greatest (λ y. size_after y.part) (cond b (y ∷ passed_after ys) (passed_after ys)))) (sym (all.0.same_test y.part e)) (on (long x.part) (picks h all.1))
      where
        on : (b : Bool) → Chosen (best xs) (best_after ys)
            → Chosen (greatest (λ x. size x.part) (cond b (x ∷ passed xs) (passed xs))) (greatest (λ y. size_after y.part) (cond b (y ∷ passed_after ys) (passed_after ys)))
        on true c = against x y e t (all.0.same_size y.part e) (best xs) (best_after ys) c
        on false c = c

-- ---- shapes

module _ {P Q L M : Type 0} (place : P → Q) (kept : Bool → L → Option M) (size : L → ℕ) (long : L → Bool) (size_after : M → ℕ) (long_after : M → Bool) where
  -- which ring of a shape is chosen
  abbrev pub ring_in : Geometry P L L → Option (Placed L)
  ring_in s = greatest_of size long (outer_rings s)

  abbrev pub ring_after : Geometry Q M M → Option (Placed M)
  ring_after t = greatest_of size_after long_after (outer_rings t)

  -- a ring agrees with what is made of it
  abbrev pub RingAgrees : Bool × L → Type 0
  RingAgrees b = b.0 ≡ true → Agrees (kept true) size long size_after long_after b.1

  module _ (s : Geometry P L L) (all : AllByRecursion RingAgrees (lines_and_rings s)) where
    abbrev chosen : Chosen (kept true) size long size_after long_after (TurnsOver place kept s) (ring_in s) (greatest_of size_after long_after (rings_left place kept (prune place kept s)))
    chosen =
        picks (kept true) size long size_after long_after (TurnsOver place kept s) (stays place kept s).follow
        (all_weaker (λ x. RingAgrees (true, x.part)) (λ x. Agrees (kept true) size long size_after long_after x.part) (λ x h. h refl) (outer_rings s) (rings_within RingAgrees s all))

    turned_by : (o : Option (Placed L)) (p : Option (Placed M)) → Chosen (kept true) size long size_after long_after (TurnsOver place kept s) o p → Turns place kept s (way_of o) (way_of p)
    turned_by None None c = (stays place kept s).plainly
    turned_by None (Some y) c = absurd c
    turned_by (Some x) None c = absurd c
    turned_by (Some x) (Some y) c = c.1

    of_left : (o : Option (Geometry Q M M)) → map_some (λ t. marked t (way_of (greatest_of size_after long_after (rings_left place kept o)))) o ≡ map_some (λ t. marked t (way_of (ring_after t))) o
    of_left None = refl
    of_left (Some t) = refl

    -- the shape with the chosen ring marked, of which lines and rings are left out, is what is left of the shape, with its chosen ring marked
    pub marks_left : prune place (keeping_mark kept) (marked s (way_of (ring_in s))) ≡ map_some (λ t. marked t (way_of (ring_after t))) (prune place kept s)
    marks_left = turned_by (ring_in s) (greatest_of size_after long_after (rings_left place kept (prune place kept s))) chosen ∙ of_left (prune place kept s)

    part_of_left : (o : Option (Geometry Q M M)) → map_some (λ y. y.part) (then_some ring_after o) ≡ map_some (λ y. y.part) (greatest_of size_after long_after (rings_left place kept o))
    part_of_left None = refl
    part_of_left (Some t) = refl

    module _ (h : L → M) (makes : (l : L) (m : M) → kept true l ≡ Some m → m ≡ h l) where
      part_by : (o : Option (Placed L)) (p : Option (Placed M)) → Chosen (kept true) size long size_after long_after (TurnsOver place kept s) o p → map_some (λ y. y.part) p ≡ map_some (λ x. h x.part) o
      part_by None None c = refl
      part_by None (Some y) c = absurd c
      part_by (Some x) None c = absurd c
      part_by (Some x) (Some y) c = ap Some (makes x.part y.part c.0)

      -- the chosen ring of what is left is what is made of the chosen ring
      pub ring_left : map_some (λ y. y.part) (then_some ring_after (prune place kept s)) ≡ map_some (λ x. h x.part) (ring_in s)
      ring_left = part_of_left (prune place kept s) ∙ part_by (ring_in s) (greatest_of size_after long_after (rings_left place kept (prune place kept s))) chosen

    module _ {U N : Type 0} (onto : Q → U) (next : Bool → Bool × M → Option N) where
      -- what is left, marked and then pruned again
      abbrev again : Geometry Q M M → Option (Geometry U N N)
      again t = prune onto next (marked t (way_of (ring_after t)))

      as_pruned : (o : Option (Geometry Q M M)) → then_some again o ≡ then_some (prune onto next) (map_some (λ t. marked t (way_of (ring_after t))) o)
      as_pruned None = refl
      as_pruned (Some t) = refl

      -- is the marked shape pruned at once
      pub spared_left : then_some (λ t. prune onto next (marked t (way_of (ring_after t)))) (prune place kept s)
          ≡ prune (λ p. onto (place p)) (λ closed l. then_some (next closed) (keeping_mark kept closed l)) (marked s (way_of (ring_in s)))
      spared_left = as_pruned (prune place kept s) ∙ ap (then_some (prune onto next)) (sym marks_left) ∙ composed place onto (keeping_mark kept) next (marked s (way_of (ring_in s)))
