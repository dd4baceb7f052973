-- Marked shapes: the equations by kind, their lines and rings, and what is made of them where none has a mark.
use Rattle.std.proofs.Common.{◌≡◌, ℕ, suc, Bool, true, false, List, [], ◌∷◌, map, Option, None, Some, refl, sym, ap, ◌∙◌}
use Rattle.build_meaning.proofs.Names.{map-append, map-map, AllByRecursion, AtKinds, at_kinds, prune_at, prune-group, lines_and_rings_at, drop_causes_at, by_kinds, here, inner_cause, area_drop_causes, drop_causes, map_some, with_some, some_of, unless_empty, joined, of_parts, area_by, prune, lines_and_rings, Cause, Geometry, outer_rings_step, outer_rings, into_part, along, unmarked, rings_marked, marked_step, marked}
use Rattle.geometry.specs.declared.shape.Geometry.TheVariants as g

-- ---- the equations by kind

pub outer_rings_at : (P L : Type 0) → AtKinds (outer_rings {P = P} {L = L}) outer_rings_step
unfolding outer_rings
outer_rings_at P L = at_kinds outer_rings_step

pub marked_at : (P L : Type 0) → AtKinds (marked {P = P} {L = L}) marked_step
unfolding marked
marked_at P L = at_kinds marked_step

pub along_made : {A B C : Type 0} (f : A → B) (h : B → Option (List ℕ) → C) (i : ℕ) (xs : List A) (way : Option (List ℕ)) → along h i (map f xs) way ≡ along (λ x. h (f x)) i xs way
along_made f h i [] way = refl
along_made f h i (x ∷ xs) way = ap (λ cs. h (f x) (into_part i way) ∷ cs) (along_made f h (suc i) xs way)

pub some_made : {A B C : Type 0} (f : A → B) (h : B → Option C) (xs : List A) → some_of h (map f xs) ≡ some_of (λ x. h (f x)) xs
some_made f h [] = refl
some_made f h (x ∷ xs) = ap (with_some (h (f x))) (some_made f h xs)

module _ {P L : Type 0} where
  pub marked-line : (l : L) (way : Option (List ℕ)) → marked {P = P} (g.Line l) way ≡ g.Line (unmarked l)
  marked-line l way = ap (λ f. f way) ((marked_at P L).line l)

  pub marked-lines : (ls : List L) (way : Option (List ℕ)) → marked {P = P} (g.Lines ls) way ≡ g.Lines (map unmarked ls)
  marked-lines ls way = ap (λ f. f way) ((marked_at P L).lines ls)

  pub marked-area : (rs : List L) (way : Option (List ℕ)) → marked {P = P} (g.Area rs) way ≡ g.Area (rings_marked rs way)
  marked-area rs way = ap (λ f. f way) ((marked_at P L).area rs)

  pub marked-areas : (areas : List (List L)) (way : Option (List ℕ)) → marked {P = P} (g.Areas areas) way ≡ g.Areas (along rings_marked 0 areas way)
  marked-areas areas way = ap (λ f. f way) ((marked_at P L).areas areas)

  pub marked-group : (ss : List (Geometry P L L)) (way : Option (List ℕ)) → marked (g.Group ss) way ≡ g.Group (along marked 0 ss way)
  marked-group ss way = ap (λ f. f way) ((marked_at P L).group ss) ∙ ap g.Group (along_made marked (λ (m : Option (List ℕ) → Geometry P (Bool × L) (Bool × L)). m) 0 ss way)

-- ---- what is left of a marked shape

module _ {P Q L M : Type 0} (place : P → Q) (kept : Bool → Bool × L → Option M) where
  abbrev left : Geometry P L L → Option (List ℕ) → Option (Geometry Q M M)
  left s way = prune place kept (marked s way)

  pub left-point : (p : P) (way : Option (List ℕ)) → prune place kept (marked (g.Point p) way) ≡ Some (g.Point (place p))
  left-point p way = ap (λ f. prune place kept (f way)) ((marked_at P L).point p) ∙ (prune_at place kept).point p

  pub left-points : (ps : List P) (way : Option (List ℕ)) → prune place kept (marked (g.MultiPoint ps) way) ≡ Some (g.MultiPoint (map place ps))
  left-points ps way = ap (λ f. prune place kept (f way)) ((marked_at P L).points ps) ∙ (prune_at place kept).points ps

  pub left-line : (l : L) (way : Option (List ℕ)) → prune place kept (marked (g.Line l) way) ≡ map_some g.Line (kept false (unmarked l))
  left-line l way = ap (prune place kept) (marked-line l way) ∙ (prune_at place kept).line (unmarked l)

  pub left-lines : (ls : List L) (way : Option (List ℕ)) → prune place kept (marked (g.Lines ls) way) ≡ unless_empty g.Lines (some_of (λ l. kept false (unmarked l)) ls)
  left-lines ls way = ap (prune place kept) (marked-lines ls way) ∙ (prune_at place kept).lines (map unmarked ls) ∙ ap (unless_empty g.Lines) (some_made unmarked (kept false) ls)

  pub left-area : (rs : List L) (way : Option (List ℕ)) → prune place kept (marked (g.Area rs) way) ≡ map_some g.Area (area_by (kept true) (rings_marked rs way))
  left-area rs way = ap (prune place kept) (marked-area rs way) ∙ (prune_at place kept).area (rings_marked rs way)

  pub left-areas : (areas : List (List L)) (way : Option (List ℕ)) → prune place kept (marked (g.Areas areas) way) ≡ unless_empty g.Areas (some_of (area_by (kept true)) (along rings_marked 0 areas way))
  left-areas areas way = ap (prune place kept) (marked-areas areas way) ∙ (prune_at place kept).areas (along rings_marked 0 areas way)

  pub left-group : (ss : List (Geometry P L L)) (way : Option (List ℕ)) → prune place kept (marked (g.Group ss) way) ≡ Some (g.Group (some_of (prune place kept) (along marked 0 ss way)))
  left-group ss way = ap (prune place kept) (marked-group ss way) ∙ prune-group place kept (along marked 0 ss way)

  -- ---- without a mark

  abbrev plainly : Bool → L → Option M
  plainly closed l = kept closed (unmarked l)

  area_plain : (rs : List L) → area_by (kept true) (rings_marked rs None) ≡ area_by (plainly true) rs
  area_plain [] = refl
  area_plain (o ∷ holes) = ap (λ hs. map_some (λ m. m ∷ hs) (kept true (unmarked o))) (some_made unmarked (kept true) holes)

  areas_plain : (i : ℕ) (areas : List (List L)) → some_of (area_by (kept true)) (along rings_marked i areas None) ≡ some_of (area_by (plainly true)) areas
  areas_plain i [] = refl
  areas_plain i (rs ∷ areas) = rw (area_plain rs, areas_plain (suc i) areas) refl

  abbrev Plain : Geometry P L L → Type 0
  Plain s = left s None ≡ prune place plainly s

  members_plain : (i : ℕ) (ss : List (Geometry P L L)) → AllByRecursion Plain ss → some_of (prune place kept) (along marked i ss None) ≡ some_of (prune place plainly) ss
  members_plain i [] all = refl
  members_plain i (s ∷ ss) all = rw (all.0, members_plain (suc i) ss all.1) refl

  -- it is what is left of the shape as it is
  pub left_plain : (s : Geometry P L L) → prune place kept (marked s None) ≡ prune place (λ closed l. kept closed (unmarked l)) s
  left_plain = by_kinds Plain (record {
    point = λ p. left-point p None ∙ sym ((prune_at place plainly).point p);
    points = λ ps. left-points ps None ∙ sym ((prune_at place plainly).points ps);
    line = λ l. left-line l None ∙ sym ((prune_at place plainly).line l);
    lines = λ ls. left-lines ls None ∙ sym ((prune_at place plainly).lines ls);
    area = λ rs. left-area rs None ∙ ap (map_some g.Area) (area_plain rs) ∙ sym ((prune_at place plainly).area rs);
    areas = λ areas. left-areas areas None ∙ ap (unless_empty g.Areas) (areas_plain 0 areas) ∙ sym ((prune_at place plainly).areas areas);
    group = λ ss all. left-group ss None ∙ ap (λ ts. Some (g.Group ts)) (members_plain 0 ss all) ∙ sym (prune-group place plainly ss);
  })

-- ---- what is dropped of a shape without a mark

abbrev plain_cause : {L : Type 0} → (Bool → Bool × L → Option Cause) → Bool → L → Option Cause
plain_cause why closed l = why closed (unmarked l)

module _ {L : Type 0} (why : Bool → Bool × L → Option Cause) where
  area_causes : (rs : List L) → area_drop_causes (why true) (rings_marked rs None) ≡ area_drop_causes (plain_cause why true) rs
  area_causes [] = refl
  area_causes (o ∷ holes) = ap (λ hs. of_parts 0 (here (why true (unmarked o)) ∷ hs)) (map-map (λ h. here (inner_cause (why true (unmarked o)) (why true h))) unmarked holes)

  areas_causes : (i : ℕ) (areas : List (List L)) → map (area_drop_causes (why true)) (along rings_marked i areas None) ≡ map (area_drop_causes (plain_cause why true)) areas
  areas_causes i [] = refl
  areas_causes i (rs ∷ areas) = rw (area_causes rs, areas_causes (suc i) areas) refl

  module _ {P : Type 0} where
    abbrev Alike : Geometry P L L → Type 0
    Alike s = drop_causes why (marked s None) ≡ drop_causes (plain_cause why) s

    members_causes : (i : ℕ) (ss : List (Geometry P L L)) → AllByRecursion Alike ss → map (drop_causes why) (along marked i ss None) ≡ map (drop_causes (plain_cause why)) ss
    members_causes i [] all = refl
    members_causes i (s ∷ ss) all = rw (all.0, members_causes (suc i) ss all.1) refl

    pub causes_plain : (s : Geometry P L L) → drop_causes why (marked s None) ≡ drop_causes (λ closed l. why closed (unmarked l)) s
    causes_plain = by_kinds Alike (record {
      point = λ p. ap (λ f. drop_causes why (f None)) ((marked_at P L).point p) ∙ (drop_causes_at P (Bool × L) why).point p ∙ sym ((drop_causes_at P L (plain_cause why)).point p);
      points = λ ps. ap (λ f. drop_causes why (f None)) ((marked_at P L).points ps) ∙ (drop_causes_at P (Bool × L) why).points ps ∙ sym ((drop_causes_at P L (plain_cause why)).points ps);
      line = λ l. ap (drop_causes why) (marked-line l None) ∙ (drop_causes_at P (Bool × L) why).line (unmarked l) ∙ sym ((drop_causes_at P L (plain_cause why)).line l);
      lines = λ ls. ap (drop_causes why) (marked-lines ls None) ∙ (drop_causes_at P (Bool × L) why).lines (map unmarked ls)
          ∙ ap (of_parts 0) (map-map (λ l. here (why false l)) unmarked ls) ∙ sym ((drop_causes_at P L (plain_cause why)).lines ls);
      area = λ rs. ap (drop_causes why) (marked-area rs None) ∙ (drop_causes_at P (Bool × L) why).area (rings_marked rs None) ∙ area_causes rs ∙ sym ((drop_causes_at P L (plain_cause why)).area rs);
      areas = λ areas. ap (drop_causes why) (marked-areas areas None) ∙ (drop_causes_at P (Bool × L) why).areas (along rings_marked 0 areas None)
          ∙ ap (of_parts 0) (areas_causes 0 areas) ∙ sym ((drop_causes_at P L (plain_cause why)).areas areas);
      group = λ ss all. ap (drop_causes why) (marked-group ss None) ∙ (drop_causes_at P (Bool × L) why).group (along marked 0 ss None)
          ∙ ap (of_parts 0) (members_causes 0 ss all) ∙ sym ((drop_causes_at P L (plain_cause why)).group ss);
    })

-- ---- the lines and rings of a marked shape

-- the line or ring without its mark
abbrev pub without_mark : {L : Type 0} → Bool × (Bool × L) → Bool × L
without_mark b = (b.0, b.1.1)

abbrev pub tagged : {A : Type 0} → Bool → List A → List (Bool × A)
tagged closed ls = map (λ l. (closed, l)) ls

module _ {L : Type 0} where
  tagged_back : (closed : Bool) (ls : List L) → map without_mark (tagged closed (map unmarked ls)) ≡ tagged closed ls
  tagged_back closed [] = refl
  tagged_back closed (l ∷ ls) = ap (λ bs. (closed, l) ∷ bs) (tagged_back closed ls)

  rings_back : (rs : List L) (way : Option (List ℕ)) → map without_mark (tagged true (rings_marked rs way)) ≡ tagged true rs
  rings_back [] way = refl
  rings_back (o ∷ holes) way = ap (λ bs. (true, o) ∷ bs) (tagged_back true holes)

  areas_back : (i : ℕ) (areas : List (List L)) (way : Option (List ℕ)) → map without_mark (joined (map (tagged true) (along rings_marked i areas way))) ≡ joined (map (tagged true) areas)
  areas_back i [] way = refl
  areas_back i (rs ∷ areas) way =
      map-append without_mark (tagged true (rings_marked rs (into_part i way))) (joined (map (tagged true) (along rings_marked (suc i) areas way)))
      ∙ rw (rings_back rs (into_part i way), areas_back (suc i) areas way) refl

  module _ {P : Type 0} where
    abbrev within : Geometry P L L → List (Bool × L)
    within = lines_and_rings

    abbrev marked_within : Geometry P (Bool × L) (Bool × L) → List (Bool × (Bool × L))
    marked_within = lines_and_rings

    abbrev Back : Geometry P L L → Type 0
    Back s = (way : Option (List ℕ)) → map without_mark (marked_within (marked s way)) ≡ within s

    members_back : (i : ℕ) (ss : List (Geometry P L L)) (way : Option (List ℕ)) → AllByRecursion Back ss → map without_mark (joined (map marked_within (along marked i ss way))) ≡ joined (map within ss)
    members_back i [] way all = refl
    members_back i (s ∷ ss) way all =
        map-append without_mark (marked_within (marked s (into_part i way))) (joined (map marked_within (along marked (suc i) ss way)))
        ∙ rw (all.0 (into_part i way), members_back (suc i) ss way all.1) refl

    -- they are those of the shape
    pub lines_and_rings_back : (s : Geometry P L L) (way : Option (List ℕ)) → map without_mark (lines_and_rings (marked s way)) ≡ lines_and_rings s
    lines_and_rings_back = by_kinds Back (record {
      point = λ p way. ap (λ f. map without_mark (marked_within (f way))) ((marked_at P L).point p) ∙ ap (map without_mark) ((lines_and_rings_at P (Bool × L)).point p) ∙ sym ((lines_and_rings_at P L).point p);
      points = λ ps way. ap (λ f. map without_mark (marked_within (f way))) ((marked_at P L).points ps) ∙ ap (map without_mark) ((lines_and_rings_at P (Bool × L)).points ps) ∙ sym ((lines_and_rings_at P L).points ps);
      line = λ l way. ap (λ m. map without_mark (marked_within m)) (marked-line l way) ∙ ap (map without_mark) ((lines_and_rings_at P (Bool × L)).line (unmarked l)) ∙ sym ((lines_and_rings_at P L).line l);
      lines = λ ls way. ap (λ m. map without_mark (marked_within m)) (marked-lines ls way) ∙ ap (map without_mark) ((lines_and_rings_at P (Bool × L)).lines (map unmarked ls))
          ∙ tagged_back false ls ∙ sym ((lines_and_rings_at P L).lines ls);
      area = λ rs way. ap (λ m. map without_mark (marked_within m)) (marked-area rs way) ∙ ap (map without_mark) ((lines_and_rings_at P (Bool × L)).area (rings_marked rs way))
          ∙ rings_back rs way ∙ sym ((lines_and_rings_at P L).area rs);
      areas = λ areas way. ap (λ m. map without_mark (marked_within m)) (marked-areas areas way) ∙ ap (map without_mark) ((lines_and_rings_at P (Bool × L)).areas (along rings_marked 0 areas way))
          ∙ areas_back 0 areas way ∙ sym ((lines_and_rings_at P L).areas areas);
      group = λ ss all way. ap (λ m. map without_mark (marked_within m)) (marked-group ss way) ∙ ap (map without_mark) ((lines_and_rings_at P (Bool × L)).group (along marked 0 ss way))
          ∙ members_back 0 ss way all ∙ sym ((lines_and_rings_at P L).group ss);
    })
