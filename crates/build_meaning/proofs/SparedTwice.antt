-- What is left of what is left of a topology, where each time the rings that enclose most are protected: they are the same both times, so it is left at
-- once.
use Rattle.std.proofs.Common.{◌≡◌, ℕ, suc, ℤ, Bool, true, false, ◌&&◌, List, [], ◌∷◌, map, Option, None, Some, refl, sym, ap, ◌∙◌, subst}
use Rattle.std.specs.Option.{is_some}
use Rattle.build_meaning.proofs.Names.{fun_ext, and_parts, AllByRecursion, by_kinds, map_some, then_some, some_of, unless_empty, Placed, Point, area_by, prune, lines_and_rings, Geometry, TopoShape, is_long, outer_rings, into_part, along, unmarked, rings_marked, marked, enclosed, greatest, filter, protection, Protection, sparing, Refs, objects_spared}
use Rattle.build_meaning.proofs.Again.{all_hold}
use Rattle.build_meaning.proofs.Greatest.{split, same_some, same_greatest}
use Rattle.build_meaning.proofs.GreatestLeft.{greatest_of, greatest_made, protection_is, way_of, ring_in, RingAgrees, ring_left, spared_left}
use Rattle.build_meaning.proofs.Marks.{some_made, marked_at, marked-line, marked-lines, marked-area, marked-areas, marked-group, left-point, left-points, left-line, left-lines, left-area, left-areas, left-group}
use Rattle.build_meaning.proofs.Reshaped.{Objects, objects_same, objects_twice}
use Rattle.build_meaning.proofs.RingKept.{with_mark, leads_there, rings_of_marked}
use Rattle.build_meaning.proofs.ShapesLeft.{keeping_mark}
use Rattle.build_meaning.proofs.Spared.{spared_shape}
use Rattle.geometry.specs.declared.shape.Geometry.TheVariants as g

-- ---- marks by one way, twice

module _ {P Q L M : Type 0} (place : P → Q) (kept : Bool → Bool × (Bool × L) → Option M) where
  -- what is kept of a line or ring whose mark is there twice
  abbrev doubled : Bool → Bool × L → Option M
  doubled closed l = kept closed (l.0, l)

  holes_twice : (closed : Bool) (ls : List L) → some_of (kept closed) (map unmarked (map unmarked ls)) ≡ some_of (doubled closed) (map unmarked ls)
  holes_twice closed [] = refl
  holes_twice closed (l ∷ ls) = rw (holes_twice closed ls) refl

  rings_twice : (rs : List L) (way : Option (List ℕ)) → area_by (kept true) (rings_marked (rings_marked rs way) way) ≡ area_by (doubled true) (rings_marked rs way)
  rings_twice [] way = refl
  rings_twice (o ∷ holes) way = rw (holes_twice true holes) refl

  areas_twice : (i : ℕ) (areas : List (List L)) (way : Option (List ℕ))
      → some_of (area_by (kept true)) (along rings_marked i (along rings_marked i areas way) way) ≡ some_of (area_by (doubled true)) (along rings_marked i areas way)
  areas_twice i [] way = refl
  areas_twice i (rs ∷ areas) way = rw (rings_twice rs (into_part i way), areas_twice (suc i) areas way) refl

  abbrev Twice : Geometry P L L → Type 0
  Twice s = (way : Option (List ℕ)) → prune place kept (marked (marked s way) way) ≡ prune place doubled (marked s way)

  members_twice : (i : ℕ) (ss : List (Geometry P L L)) (way : Option (List ℕ)) → AllByRecursion Twice ss
      → some_of (prune place kept) (along marked i (along marked i ss way) way) ≡ some_of (prune place doubled) (along marked i ss way)
  members_twice i [] way all = refl
  members_twice i (s ∷ ss) way all = rw (all.0 (into_part i way), members_twice (suc i) ss way all.1) refl

  marked_twice : (s : Geometry P L L) → Twice s
  marked_twice = by_kinds Twice (record {
    point = λ p way. ap (λ f. prune place kept (marked (f way) way)) ((marked_at P L).point p) ∙ left-point place kept p way ∙ sym (left-point place doubled p way);
    points = λ ps way. ap (λ f. prune place kept (marked (f way) way)) ((marked_at P L).points ps) ∙ left-points place kept ps way ∙ sym (left-points place doubled ps way);
    line = λ l way. ap (λ m. prune place kept (marked m way)) (marked-line l way) ∙ left-line place kept (unmarked l) way ∙ sym (left-line place doubled l way);
    lines = λ ls way. ap (λ m. prune place kept (marked m way)) (marked-lines ls way) ∙ left-lines place kept (map unmarked ls) way
        ∙ ap (unless_empty g.Lines) (some_made unmarked (λ l. kept false (unmarked l)) ls) ∙ sym (left-lines place doubled ls way);
    area = λ rs way. ap (λ m. prune place kept (marked m way)) (marked-area rs way) ∙ left-area place kept (rings_marked rs way) way ∙ ap (map_some g.Area) (rings_twice rs way) ∙ sym (left-area place doubled rs way);
    areas = λ areas way. ap (λ m. prune place kept (marked m way)) (marked-areas areas way) ∙ left-areas place kept (along rings_marked 0 areas way) way
        ∙ ap (unless_empty g.Areas) (areas_twice 0 areas way) ∙ sym (left-areas place doubled areas way);
    group = λ ss all way. ap (λ m. prune place kept (marked m way)) (marked-group ss way) ∙ left-group place kept (along marked 0 ss way) way
        ∙ ap (λ ts. Some (g.Group ts)) (members_twice 0 ss way all) ∙ sym (left-group place doubled ss way);
  })

-- ---- the ring that encloses most stays the one that does

module _ (size : List ℤ → ℕ) (long : List ℤ → Bool) (first : Refs) (unchanged : (refs m : List ℤ) → first true refs ≡ Some m → m ≡ refs) where
  abbrev as_is : Point → Point
  as_is p = p

  abbrev chosen : TopoShape → Option (Placed (List ℤ))
  chosen s = greatest_of size long (outer_rings s)

  abbrev with_chosen : TopoShape → Geometry Point (Bool × List ℤ) (Bool × List ℤ)
  with_chosen s = marked s (way_of (chosen s))

  -- of the marked shape only rings that are kept can be chosen
  abbrev size_marked : Bool × List ℤ → ℕ
  size_marked b = size b.1

  abbrev stays_long : Bool × List ℤ → Bool
  stays_long b = is_some (sparing first true b) && long b.1

  same_refs : (b : Bool × List ℤ) (m : List ℤ) → sparing first true b ≡ Some m → m ≡ b.1
  same_refs (true, refs) m e = sym (same_some refs m e)
  same_refs (false, refs) m e = unchanged refs m e

  agrees : (b : Bool × (Bool × List ℤ)) → RingAgrees as_is (sparing first) size_marked stays_long size long b
  agrees b c = record {
    same_size = λ m k. ap size (same_refs b.1 m k);
    same_test = λ m k. ap long (same_refs b.1 m k) ∙ ap (λ o. is_some o && long b.1.1) (sym k);
    left_out_fails = λ k. ap (λ o. is_some o && long b.1.1) k;
  }

  -- the one chosen has its mark
  marked_chosen : (s : TopoShape) → greatest_of size_marked stays_long (outer_rings (with_chosen s)) ≡ map_some (with_mark (way_of (chosen s))) (chosen s)
  marked_chosen s =
      same_greatest (λ x. size x.part.1) (λ x. long x.part.1) (λ x. stays_long x.part) (λ z k. (and_parts (is_some (sparing first true z.part)) (long z.part.1) k).1) (outer_rings (with_chosen s)) passes ∙ of_marked
    where
      of_marked : greatest (λ x. size x.part.1) (filter (λ x. long x.part.1) (outer_rings (with_chosen s))) ≡ map_some (with_mark (way_of (chosen s))) (chosen s)
      of_marked =
          ap (λ xs. greatest (λ x. size x.part.1) (filter (λ x. long x.part.1) xs)) (rings_of_marked s (way_of (chosen s)))
          ∙ greatest_made (with_mark (way_of (chosen s))) (λ x. size x.part.1) (λ x. long x.part.1) (outer_rings s)

      on : (o : Option (Placed (List ℤ))) → chosen s ≡ o → (x : Placed (Bool × List ℤ)) → map_some (with_mark (way_of o)) o ≡ Some x → stays_long x.part ≡ true
      on None e x k = cc
      on (Some z) e x k =
          let passes = (split (λ z. size z.part) (λ z. long z.part) (outer_rings s) z e).passes in
          subst (λ y. stays_long y.part ≡ true) (same_some (with_mark (Some z.path) z) x k)
          (ap (λ m. is_some (sparing first true (m, z.part)) && long z.part) (leads_there z.path) ∙ passes)

      passes : (x : Placed (Bool × List ℤ)) → greatest (λ x. size x.part.1) (filter (λ x. long x.part.1) (outer_rings (with_chosen s))) ≡ Some x → stays_long x.part ≡ true
      passes x e = on (chosen s) refl x (sym of_marked ∙ e)

  abbrev chosen_marked : TopoShape → Option (Placed (Bool × List ℤ))
  chosen_marked s = ring_in as_is (sparing first) size_marked stays_long size long (with_chosen s)

  all_agree : (s : TopoShape) → AllByRecursion (RingAgrees as_is (sparing first) size_marked stays_long size long) (lines_and_rings (with_chosen s))
  all_agree s = all_hold (RingAgrees as_is (sparing first) size_marked stays_long size long) agrees (lines_and_rings (with_chosen s))

  -- the ring chosen of what is left is the one chosen of the shape
  ring_stays : (s : TopoShape) → map_some (λ y. y.part) (then_some chosen (prune as_is (sparing first) (with_chosen s))) ≡ map_some (λ x. x.part) (chosen s)
  ring_stays s = ring_left as_is (sparing first) size_marked stays_long size long (with_chosen s) (all_agree s) (λ b. b.1) (λ b m k. same_refs b m k) ∙ ap (map_some (λ x. x.part.1)) (marked_chosen s) ∙ on (way_of (chosen s)) (chosen s)
    where
      on : (way : Option (List ℕ)) (o : Option (Placed (List ℤ))) → map_some (λ x. x.part.1) (map_some (with_mark way) o) ≡ map_some (λ x. x.part) o
      on way None = refl
      on way (Some x) = refl

  way_stays : (s : TopoShape) → way_of (chosen_marked s) ≡ way_of (chosen s)
  way_stays s = ap way_of (marked_chosen s) ∙ on (way_of (chosen s)) (chosen s)
    where
      on : (way : Option (List ℕ)) (o : Option (Placed (List ℤ))) → way_of (map_some (with_mark way) o) ≡ way_of o
      on way None = refl
      on way (Some x) = refl

  module _ (next : Refs) where
    -- both times
    abbrev both : Refs
    both closed refs = then_some (next closed) (first closed refs)

    spares_both : (closed : Bool) (b : Bool × List ℤ) → then_some (sparing next closed) (keeping_mark (sparing first) closed (b.0, b)) ≡ sparing both closed b
    spares_both closed (true, refs) = refl
    spares_both closed (false, refs) = on (first closed refs)
      where
        on : (o : Option (List ℤ)) → then_some (sparing next closed) (map_some (λ m. (false, m)) o) ≡ then_some (next closed) o
        on None = refl
        on (Some m) = refl

    left_twice : (s : TopoShape) → then_some (λ t. prune as_is (sparing next) (with_chosen t)) (prune as_is (sparing first) (with_chosen s)) ≡ prune as_is (sparing both) (with_chosen s)
    left_twice s =
        let again : Bool → Bool × (Bool × List ℤ) → Option (List ℤ) = λ closed l. then_some (sparing next closed) (keeping_mark (sparing first) closed l) in
        spared_left as_is (sparing first) size_marked stays_long size long (with_chosen s) (all_agree s) as_is (sparing next)
        ∙ ap (λ way. prune as_is again (marked (with_chosen s) way)) (way_stays s) ∙ marked_twice as_is again s (way_of (chosen s))
        ∙ ap (λ k. prune as_is k (with_chosen s)) (fun_ext (λ closed. fun_ext (spares_both closed)))

-- ---- topologies

module _ (keep_shapes : Bool) (arcs : List (List Point)) (first : Refs) (unchanged : (refs m : List ℤ) → first true refs ≡ Some m → m ≡ refs) where
  abbrev protects : Protection
  protects = protection keep_shapes arcs

  abbrev long_in : List ℤ → Bool
  long_in refs = keep_shapes && is_long arcs refs

  -- in each feature the same ring is protected
  pub same_ring : (s : Option TopoShape) → map_some (λ x. x.part) (then_some (protection keep_shapes arcs) (spared_shape (protection keep_shapes arcs) (sparing first) s)) ≡ map_some (λ x. x.part) (then_some (protection keep_shapes arcs) s)
  same_ring None = refl
  same_ring (Some s) = subst (λ p. map_some (λ x. x.part) (then_some p (spared_shape p (sparing first) (Some s))) ≡ map_some (λ x. x.part) (p s)) (sym (protection_is keep_shapes arcs)) (ring_stays (enclosed arcs) long_in first unchanged s)

  -- what is left of what is left is left at once
  module _ (next : Refs) where
    shape_twice : (s : Option TopoShape) → spared_shape protects (sparing next) (spared_shape protects (sparing first) s) ≡ spared_shape protects (sparing (both (enclosed arcs) long_in first unchanged next)) s
    shape_twice None = refl
    shape_twice (Some s) =
        subst (λ p. spared_shape p (sparing next) (spared_shape p (sparing first) (Some s)) ≡ spared_shape p (sparing (both (enclosed arcs) long_in first unchanged next)) (Some s)) (sym (protection_is keep_shapes arcs))
        (left_twice (enclosed arcs) long_in first unchanged next s)

    pub spared_twice : (os : Objects) → objects_spared (protection keep_shapes arcs) (sparing next) (objects_spared (protection keep_shapes arcs) (sparing first) os)
        ≡ objects_spared (protection keep_shapes arcs) (sparing (λ closed refs. then_some (next closed) (first closed refs))) os
    spared_twice os =
        objects_twice (spared_shape protects (sparing next)) (spared_shape protects (sparing first)) os
        ∙ objects_same (λ s. spared_shape protects (sparing next) (spared_shape protects (sparing first) s)) (spared_shape protects (sparing (both (enclosed arcs) long_in first unchanged next))) shape_twice os
