-- A ring that has a mark is among the outer rings of what is left of the shape, where what is given for a marked ring is made of it.
use Rattle.std.proofs.Common.{◌≡◌, ℕ, suc, Bool, true, false, List, [], ◌∷◌, map, Option, None, Some, refl, sym, ap, subst, ◌∙◌, inl, inr, ◌++◌}
use Rattle.build_meaning.proofs.Names.{map-append, AllByRecursion, by_kinds, with_some, some_of, In, Placed, inside_part, of_parts, prune, Geometry, outer_ring, outer_rings, into_part, ends_here, along, rings_marked, marked, in_map}
use Rattle.build_meaning.proofs.Marks.{marked_at, outer_rings_at, marked-line, marked-lines, marked-area, marked-areas, marked-group}
use Rattle.build_meaning.proofs.MarksLeft.{Follows, nothing, made, left_out, into_here}
use Rattle.build_meaning.proofs.ShapesLeft.{rings_left, stays}
use Rattle.geometry.specs.declared.shape.Geometry.TheVariants as g

-- ---- the outer rings of a marked shape

-- the way leads to the polygon of this path
abbrev pub leads : List ℕ → Option (List ℕ) → Bool
leads [] way = ends_here way
leads (i ∷ path) way = leads path (into_part i way)

pub leads_there : (path : List ℕ) → leads path (Some path) ≡ true
leads_there [] = refl
leads_there (i ∷ path) = ap (leads path) (into_here i path) ∙ leads_there path

-- with a mark where the way leads to it
abbrev pub with_mark : {L : Type 0} → Option (List ℕ) → Placed L → Placed (Bool × L)
with_mark way x = record { path = x.path; part = (leads x.path way, x.part) }

inside_marked : {L : Type 0} (i : ℕ) (way : Option (List ℕ)) (xs : List (Placed L)) → inside_part i (map (with_mark (into_part i way)) xs) ≡ map (with_mark way) (inside_part i xs)
inside_marked i way [] = refl
inside_marked i way (x ∷ xs) = ap (λ ys. with_mark way (record { path = i ∷ x.path; part = x.part }) ∷ ys) (inside_marked i way xs)

module _ {A B L : Type 0} (mark : A → Option (List ℕ) → B) (rings : A → List (Placed L)) (rings_after : B → List (Placed (Bool × L))) where
  abbrev pub HasMarks : A → Type 0
  HasMarks a = (way : Option (List ℕ)) → rings_after (mark a way) ≡ map (with_mark way) (rings a)

  pub parts_marked : (i : ℕ) (xs : List A) (way : Option (List ℕ)) → AllByRecursion HasMarks xs → of_parts i (map rings_after (along mark i xs way)) ≡ map (with_mark way) (of_parts i (map rings xs))
  parts_marked i [] way all = refl
  parts_marked i (a ∷ xs) way all =
      ap (λ ys. inside_part i ys ++ of_parts (suc i) (map rings_after (along mark (suc i) xs way))) (all.0 (into_part i way))
      ∙ ap (λ ys. inside_part i (map (with_mark (into_part i way)) (rings a)) ++ ys) (parts_marked (suc i) xs way all.1)
      ∙ ap (λ ys. ys ++ map (with_mark way) (of_parts (suc i) (map rings xs))) (inside_marked i way (rings a))
      ∙ sym (map-append (with_mark way) (inside_part i (rings a)) (of_parts (suc i) (map rings xs)))

module _ {L : Type 0} where
  polygon_marked : (rs : List L) (way : Option (List ℕ)) → outer_ring (rings_marked rs way) ≡ map (with_mark way) (outer_ring rs)
  polygon_marked [] way = refl
  polygon_marked (o ∷ holes) way = refl

  polygons_marked : (areas : List (List L)) → AllByRecursion (HasMarks rings_marked outer_ring outer_ring) areas
  polygons_marked [] = tt
  polygons_marked (rs ∷ areas) = (polygon_marked rs, polygons_marked areas)

module _ {P L : Type 0} where
  abbrev Marked : Geometry P L L → Type 0
  Marked = HasMarks marked outer_rings outer_rings

  none_marked : (s : Geometry P L L) (way : Option (List ℕ)) → outer_rings (marked s way) ≡ [] → outer_rings s ≡ [] → outer_rings (marked s way) ≡ map (with_mark way) (outer_rings s)
  none_marked s way e f = e ∙ sym (ap (map (with_mark way)) f)

  pub rings_of_marked : (s : Geometry P L L) → Marked s
  rings_of_marked = by_kinds Marked (record {
    point = λ p way. none_marked (g.Point p) way (ap (λ f. outer_rings (f way)) ((marked_at P L).point p) ∙ (outer_rings_at P (Bool × L)).point p) ((outer_rings_at P L).point p);
    points = λ ps way. none_marked (g.MultiPoint ps) way (ap (λ f. outer_rings (f way)) ((marked_at P L).points ps) ∙ (outer_rings_at P (Bool × L)).points ps) ((outer_rings_at P L).points ps);
    line = λ l way. none_marked (g.Line l) way (ap outer_rings (marked-line l way) ∙ (outer_rings_at P (Bool × L)).line (false, l)) ((outer_rings_at P L).line l);
    lines = λ ls way. none_marked (g.Lines ls) way (ap outer_rings (marked-lines ls way) ∙ (outer_rings_at P (Bool × L)).lines (map (λ l. (false, l)) ls)) ((outer_rings_at P L).lines ls);
    area = λ rs way. ap outer_rings (marked-area rs way) ∙ (outer_rings_at P (Bool × L)).area (rings_marked rs way) ∙ polygon_marked rs way ∙ sym (ap (map (with_mark way)) ((outer_rings_at P L).area rs));
    areas = λ areas way. ap outer_rings (marked-areas areas way) ∙ (outer_rings_at P (Bool × L)).areas (along rings_marked 0 areas way)
        ∙ parts_marked rings_marked outer_ring outer_ring 0 areas way (polygons_marked areas) ∙ sym (ap (map (with_mark way)) ((outer_rings_at P L).areas areas));
    group = λ ss all way. ap outer_rings (marked-group ss way) ∙ (outer_rings_at P (Bool × L)).group (along marked 0 ss way)
        ∙ parts_marked marked outer_rings outer_rings 0 ss way all ∙ sym (ap (map (with_mark way)) ((outer_rings_at P L).group ss));
  })

-- ---- what is left

abbrev parts : {A : Type 0} → List (Placed A) → List A
parts xs = map (λ x. x.part) xs

followed : {L M : Type 0} (kept : L → Option M) (T : List ℕ → List ℕ → Type 0) {xs : List (Placed L)} {ys : List (Placed M)} → Follows kept T xs ys → some_of kept (parts xs) ≡ parts ys
followed kept T nothing = refl
followed kept T (made {x} {y} {xs} {ys} e t h) = ap (λ o. with_some o (some_of kept (parts xs))) e ∙ ap (λ ms. y.part ∷ ms) (followed kept T h)
followed kept T (left_out {x} {xs} {ys} e h) = ap (λ o. with_some o (some_of kept (parts xs))) e ∙ followed kept T h

in_some : {A B : Type 0} (kept : A → Option B) (a : A) (b : B) (xs : List A) → kept a ≡ Some b → In a xs → In b (some_of kept xs)
in_some kept a b [] e k = elim k [ ]
in_some kept a b (z ∷ xs) e (inl p) = subst (λ o. In b (with_some o (some_of kept xs))) (sym (ap kept (sym p) ∙ e)) (inl refl)
in_some {B = B} kept a b (z ∷ xs) e (inr k) = on (kept z) (in_some kept a b xs e k)
  where
    on : (o : Option B) → In b (some_of kept xs) → In b (with_some o (some_of kept xs))
    on None m = m
    on (Some c) m = inr m

module _ {P Q L M : Type 0} (place : P → Q) (kept : Bool → Bool × L → Option M) (make : L → M) (stays_marked : (l : L) → kept true (true, l) ≡ Some (make l)) where
  pub record Keeps (s : Geometry P L L) (x : Placed L) : Type 0 where
    pub shape : Geometry Q M M
    pub is_left : prune place kept (marked s (Some x.path)) ≡ Some shape
    pub outer : In (make x.part) (map (λ z. z.part) (outer_rings shape))

  pub ring_kept : (s : Geometry P L L) (x : Placed L) → In x (outer_rings s) → Keeps s x
  ring_kept s x k = on (prune place kept (marked s (Some x.path))) refl (subst (In (make x.part)) (followed (kept true) _ (stays place kept (marked s (Some x.path))).follow) given)
    where
      there : In (true, x.part) (parts (outer_rings (marked s (Some x.path))))
      there =
          subst (λ ys. In (true, x.part) (parts ys)) (sym (rings_of_marked s (Some x.path)))
          (subst (λ b. In (b, x.part) (parts (map (with_mark (Some x.path)) (outer_rings s)))) (leads_there x.path)
          (in_map (λ z. z.part) (with_mark (Some x.path) x) (map (with_mark (Some x.path)) (outer_rings s)) (in_map (with_mark (Some x.path)) x (outer_rings s) k)))

      given : In (make x.part) (some_of (kept true) (parts (outer_rings (marked s (Some x.path)))))
      given = in_some (kept true) (true, x.part) (make x.part) (parts (outer_rings (marked s (Some x.path)))) (stays_marked x.part) there

      on : (o : Option (Geometry Q M M)) → prune place kept (marked s (Some x.path)) ≡ o → In (make x.part) (parts (rings_left place kept o)) → Keeps s x
      on None e m = elim m [ ]
      on (Some t) e m = record { shape = t; is_left = e; outer = m }
