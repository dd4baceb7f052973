-- The ring of a marked shape that has a mark is the one at the end of the way.
use Rattle.std.proofs.Common.{◌≡◌, ℕ, suc, Bool, true, false, List, [], ◌∷◌, map, Option, None, Some, ◌⊎◌, inl, inr, refl, sym, ap, ◌∙◌, subst, arith}
use Rattle.build_meaning.proofs.Names.{AllByRecursion, all_append, all_weaker, in_append, in_right, lines_and_rings_at, by_kinds, joined, In, Placed, inside_part, of_parts, lines_and_rings, Geometry, from_map, outer_ring, outer_rings, into_part, along, unmarked, rings_marked, marked}
use Rattle.build_meaning.proofs.Greatest.{Split, split}
use Rattle.build_meaning.proofs.GreatestLeft.{greatest_of, way_of}
use Rattle.build_meaning.proofs.Marks.{outer_rings_at, marked_at, marked-line, marked-lines, marked-area, marked-areas, marked-group, tagged}
use Rattle.build_meaning.proofs.MarksLeft.{From, past, behind, into_here}
use Rattle.geometry.specs.declared.shape.Geometry.TheVariants as g

-- a line or ring with a mark or without
abbrev Marked : Type 0 → Type 0
Marked L = Bool × (Bool × L)

module _ {L : Type 0} where
  abbrev Plain : Marked L → Type 0
  Plain b = b.1.0 ≡ false

  -- if it has a mark, it is this ring
  abbrev pub MarkIs : Placed L → Bool × (Bool × L) → Type 0
  MarkIs x b = b.1.0 ≡ true → (b.0 ≡ true) × (b.1.1 ≡ x.part)

  -- if it has a mark, it is a ring that passes
  abbrev pub MarkPasses : (L → Bool) → Bool × (Bool × L) → Type 0
  MarkPasses passes b = b.1.0 ≡ true → (b.0 ≡ true) × (passes b.1.1 ≡ true)

  plain_is : (x : Placed L) (b : Marked L) → Plain b → MarkIs x b
  plain_is x b e m = let z : false ≡ true = sym e ∙ m in cc

  all_plain : (x : Placed L) (bs : List (Marked L)) → AllByRecursion Plain bs → AllByRecursion (MarkIs x) bs
  all_plain x bs h = all_weaker Plain (MarkIs x) (plain_is x) bs h

  tagged_plain : (closed : Bool) (ls : List L) → AllByRecursion Plain (tagged closed (map unmarked ls))
  tagged_plain closed [] = tt
  tagged_plain closed (l ∷ ls) = (refl, tagged_plain closed ls)

  -- ---- parts

  from_parts : (x : Placed L) (i : ℕ) (xss : List (List (Placed L))) → In x (of_parts i xss) → From i x.path
  from_parts x i [] k = elim k [ ]
  from_parts x i (xs ∷ xss) k = on (in_append x (inside_part i xs) (of_parts (suc i) xss) k) (from_parts x (suc i) xss)
    where
      later : (way : List ℕ) → From (suc i) way → From i way
      later [] h = h
      later (j ∷ way) h = omega (arith, h)

      on : In x (inside_part i xs) ⊎ In x (of_parts (suc i) xss) → (In x (of_parts (suc i) xss) → From (suc i) x.path) → From i x.path
      on (inl m) more =
          let f = from_map (λ (y : Placed L). record { path = i ∷ y.path; part = y.part }) x xs m in
          subst (λ (z : Placed L). From i z.path) (sym f.2) (omega arith)
      on (inr m) more = later x.path (more m)

  module _ {A B : Type 0} (mark : A → Option (List ℕ) → B) (rings : A → List (Placed L)) (lines : B → List (Marked L)) where
    -- without a way there is no mark, and with one it is on the ring at its end
    pub record Marks (a : A) : Type 0 where
      pub none : AllByRecursion Plain (lines (mark a None))
      pub one : (x : Placed L) → In x (rings a) → AllByRecursion (MarkIs x) (lines (mark a (Some x.path)))

    abbrev along_lines : ℕ → List A → Option (List ℕ) → List (Marked L)
    along_lines i xs way = joined (map lines (along mark i xs way))

    pub parts_plain : (i : ℕ) (xs : List A) → AllByRecursion Marks xs → AllByRecursion Plain (joined (map lines (along mark i xs None)))
    parts_plain i [] all = tt
    parts_plain i (a ∷ xs) all = all_append Plain (lines (mark a None)) (along_lines (suc i) xs None) all.0.none (parts_plain (suc i) xs all.1)

    pub parts_mark : (i : ℕ) (xs : List A) → AllByRecursion Marks xs → (x : Placed L) → In x (of_parts i (map rings xs)) → AllByRecursion (MarkIs x) (joined (map lines (along mark i xs (Some x.path))))
    parts_mark i [] all x k = elim k [ ]
    parts_mark i (a ∷ xs) all x k = on (in_append x (inside_part i (rings a)) (of_parts (suc i) (map rings xs)) k) (parts_mark (suc i) xs all.1 x)
      where
        here : (y : Placed L) → In y (rings a) → AllByRecursion (MarkIs y) (along_lines i (a ∷ xs) (Some (i ∷ y.path)))
        here y m =
            all_append (MarkIs y) (lines (mark a (into_part i (Some (i ∷ y.path))))) (along_lines (suc i) xs (Some (i ∷ y.path)))
            (subst (λ way. AllByRecursion (MarkIs y) (lines (mark a way))) (sym (into_here i y.path)) (all.0.one y m))
            (subst (λ bs. AllByRecursion (MarkIs y) (joined (map lines bs))) (sym (behind mark (suc i) i y.path xs (omega arith)))
            (all_plain y (along_lines (suc i) xs None) (parts_plain (suc i) xs all.1)))

        on : In x (inside_part i (rings a)) ⊎ In x (of_parts (suc i) (map rings xs)) → (In x (of_parts (suc i) (map rings xs)) → AllByRecursion (MarkIs x) (along_lines (suc i) xs (Some x.path)))
            → AllByRecursion (MarkIs x) (along_lines i (a ∷ xs) (Some x.path))
        on (inl m) more =
            let f = from_map (λ (y : Placed L). record { path = i ∷ y.path; part = y.part }) x (rings a) m in
            subst (λ (z : Placed L). AllByRecursion (MarkIs z) (along_lines i (a ∷ xs) (Some z.path))) (sym f.2) (here f.0 f.1)
        on (inr m) more =
            all_append (MarkIs x) (lines (mark a (into_part i (Some x.path)))) (along_lines (suc i) xs (Some x.path))
            (subst (λ way. AllByRecursion (MarkIs x) (lines (mark a way))) (sym (past i x.path (from_parts x (suc i) (map rings xs) m))) (all_plain x (lines (mark a None)) all.0.none))
            (more m)

  -- ---- polygons

  polygon_marks : (rs : List L) → Marks rings_marked outer_ring (tagged true) rs
  polygon_marks [] = record { none = tt; one = λ x k. elim k [ ] }
  polygon_marks (o ∷ holes) = record { none = (refl, tagged_plain true holes); one = one }
    where
      one : (x : Placed L) → In x (outer_ring (o ∷ holes)) → AllByRecursion (MarkIs x) (tagged true (rings_marked (o ∷ holes) (Some x.path)))
      one x (inl e) = ((λ m. (refl, sym (ap (λ (z : Placed L). z.part) e))), all_plain x (tagged true (map unmarked holes)) (tagged_plain true holes))
      one x (inr k) = elim k [ ]

  all_polygons : (areas : List (List L)) → AllByRecursion (Marks rings_marked outer_ring (tagged true)) areas
  all_polygons [] = tt
  all_polygons (rs ∷ areas) = (polygon_marks rs, all_polygons areas)

  -- ---- shapes

  module _ {P : Type 0} where
    abbrev lines_of : Geometry P (Bool × L) (Bool × L) → List (Marked L)
    lines_of = lines_and_rings

    abbrev ShapeMarks : Geometry P L L → Type 0
    ShapeMarks = Marks marked outer_rings lines_of

    -- all of them, where a kind has these lines and rings whatever the way, and no outer ring
    without_rings : (s : Geometry P L L) (bs : List (Marked L)) → ((way : Option (List ℕ)) → lines_of (marked s way) ≡ bs) → AllByRecursion Plain bs → outer_rings s ≡ [] → ShapeMarks s
    without_rings s bs e h none = record { none = subst (AllByRecursion Plain) (sym (e None)) h; one = λ x k. absurd (subst (In x) none k) }

    with_rings : (s : Geometry P L L) (lines : Option (List ℕ) → List (Marked L)) (xs : List (Placed L)) → ((way : Option (List ℕ)) → lines_of (marked s way) ≡ lines way) → outer_rings s ≡ xs
        → AllByRecursion Plain (lines None) → ((x : Placed L) → In x xs → AllByRecursion (MarkIs x) (lines (Some x.path))) → ShapeMarks s
    with_rings s lines xs e f h k = record {
      none = subst (AllByRecursion Plain) (sym (e None)) h;
      one = λ x m. subst (AllByRecursion (MarkIs x)) (sym (e (Some x.path))) (k x (subst (In x) f m));
    }

    pub shape_marks : (s : Geometry P L L) → Marks marked outer_rings lines_and_rings s
    shape_marks = by_kinds ShapeMarks (record {
      point = λ p. without_rings (g.Point p) [] (λ way. ap (λ f. lines_of (f way)) ((marked_at P L).point p) ∙ (lines_and_rings_at P (Bool × L)).point p) tt ((outer_rings_at P L).point p);
      points = λ ps. without_rings (g.MultiPoint ps) [] (λ way. ap (λ f. lines_of (f way)) ((marked_at P L).points ps) ∙ (lines_and_rings_at P (Bool × L)).points ps) tt ((outer_rings_at P L).points ps);
      line = λ l. without_rings (g.Line l) ((false, unmarked l) ∷ []) (λ way. ap lines_of (marked-line l way) ∙ (lines_and_rings_at P (Bool × L)).line (unmarked l)) (refl, tt) ((outer_rings_at P L).line l);
      lines = λ ls. without_rings (g.Lines ls) (tagged false (map unmarked ls)) (λ way. ap lines_of (marked-lines ls way) ∙ (lines_and_rings_at P (Bool × L)).lines (map unmarked ls)) (tagged_plain false ls) ((outer_rings_at P L).lines ls);
      area = λ rs. with_rings (g.Area rs) (λ way. tagged true (rings_marked rs way)) (outer_ring rs) (λ way. ap lines_of (marked-area rs way) ∙ (lines_and_rings_at P (Bool × L)).area (rings_marked rs way))
          ((outer_rings_at P L).area rs) (polygon_marks rs).none (polygon_marks rs).one;
      areas = λ areas. with_rings (g.Areas areas) (λ way. joined (map (tagged true) (along rings_marked 0 areas way))) (of_parts 0 (map outer_ring areas))
          (λ way. ap lines_of (marked-areas areas way) ∙ (lines_and_rings_at P (Bool × L)).areas (along rings_marked 0 areas way)) ((outer_rings_at P L).areas areas)
          (parts_plain rings_marked outer_ring (tagged true) 0 areas (all_polygons areas)) (parts_mark rings_marked outer_ring (tagged true) 0 areas (all_polygons areas));
      group = λ ss all. with_rings (g.Group ss) (λ way. joined (map lines_of (along marked 0 ss way))) (of_parts 0 (map outer_rings ss))
          (λ way. ap lines_of (marked-group ss way) ∙ (lines_and_rings_at P (Bool × L)).group (along marked 0 ss way)) ((outer_rings_at P L).group ss)
          (parts_plain marked outer_rings lines_of 0 ss all) (parts_mark marked outer_rings lines_of 0 ss all);
    })

    -- ---- the greatest

    module _ (size : L → ℕ) (long : L → Bool) where
      pub marks_pass : (s : Geometry P L L) → AllByRecursion (MarkPasses long) (lines_and_rings (marked s (way_of (greatest_of size long (outer_rings s)))))
      marks_pass s = on (greatest_of size long (outer_rings s)) refl
        where
          on : (o : Option (Placed L)) → greatest_of size long (outer_rings s) ≡ o → AllByRecursion (MarkPasses long) (lines_and_rings (marked s (way_of o)))
          on None e = all_weaker Plain (MarkPasses long) (λ b h m. let z : false ≡ true = sym h ∙ m in cc) (lines_and_rings (marked s None)) (shape_marks s).none
          on (Some x) e =
              let k : Split (λ z. size z.part) (λ z. long z.part) (outer_rings s) x = split (λ z. size z.part) (λ z. long z.part) (outer_rings s) x e in
              all_weaker (MarkIs x) (MarkPasses long) (λ b h m. ((h m).0, ap long (h m).1 ∙ k.passes)) (lines_and_rings (marked s (Some x.path)))
              ((shape_marks s).one x (subst (In x) (sym k.is) (in_right x k.before (x ∷ k.after) (inl refl))))
