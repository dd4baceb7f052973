-- The lines of a shape with their ways, at each kind of shape. They are the lines of the shape.
use Rattle.std.proofs.Common.{◌≡◌, ℕ, suc, Bool, true, false, List, [], ◌∷◌, map, refl, sym, ap, ◌∙◌, arith}
use Rattle.std.proofs.lemmas.List.{map-append}
use Rattle.std.proofs.lemmas.Simd.{map-map}
use Rattle.std.specs.List.{AllByRecursion}
use Rattle.geometry.specs.declared.shape.Geometry.{Geometry}
use Rattle.geometry.specs.Lists.{joined}
use Rattle.geometry.specs.Paths.{Placed, alone, inside_part, of_parts, placed_step, placed_lines_and_rings}
use Rattle.geometry.specs.Pruning.{lines_and_rings}
use Rattle.geometry.proofs.Cases.{lines_and_rings-point, lines_and_rings-points, lines_and_rings-line, lines_and_rings-lines, lines_and_rings-area, lines_and_rings-areas, lines_and_rings-group}
use Rattle.geometry.proofs.Induction.{by_kinds}
use Rattle.geometry.proofs.ByKind.{AtKinds, at_kinds}

module _ (P L : Type 0) where
  pub placed_lines_and_rings_at : AtKinds (placed_lines_and_rings {P = P} {L = L}) placed_step
  placed_lines_and_rings_at = unfold placed_lines_and_rings in at_kinds placed_step

-- without their ways
abbrev pub parts_of : {A : Type 0} → List (Placed A) → List A
parts_of xs = map (λ x. x.part) xs

inside_parts : {A : Type 0} (i : ℕ) (xs : List (Placed A)) → parts_of (inside_part i xs) ≡ parts_of xs
inside_parts {A = A} i xs = map-map (λ (x : Placed A). x.part) (λ x. record { path = i ∷ x.path; part = x.part }) xs

joined_parts : {A : Type 0} (i : ℕ) (xss : List (List (Placed A))) → parts_of (of_parts i xss) ≡ joined (map parts_of xss)
joined_parts i [] = refl
joined_parts i (xs ∷ xss) = grind (arith, map-append, inside_parts, joined_parts (suc i) xss)

module _ {L : Type 0} where
  abbrev only : Bool → L → List (Placed (Bool × L))
  only closed l = alone (closed, l)

  abbrev pair : Bool → L → Bool × L
  pair closed l = (closed, l)

  abbrev area_parts : List L → List (Placed (Bool × L))
  area_parts rs = of_parts 0 (map (only true) rs)

  each_alone : (closed : Bool) (ls : List L) → joined (map parts_of (map (only closed) ls)) ≡ map (pair closed) ls
  each_alone closed [] = refl
  each_alone closed (l ∷ ls) = ap (λ xs. pair closed l ∷ xs) (each_alone closed ls)

  of_alone : (closed : Bool) (ls : List L) → parts_of (of_parts 0 (map (only closed) ls)) ≡ map (pair closed) ls
  of_alone closed ls = joined_parts 0 (map (only closed) ls) ∙ each_alone closed ls

  each_area : (areas : List (List L)) → joined (map parts_of (map area_parts areas)) ≡ joined (map (map (pair true)) areas)
  each_area [] = refl
  each_area (rs ∷ areas) = rw (of_alone true rs, each_area areas) refl

module _ {P L : Type 0} where
  abbrev HasAllParts : Geometry P L L → Type 0
  HasAllParts s = parts_of (placed_lines_and_rings s) ≡ lines_and_rings s

  members : (ss : List (Geometry P L L)) → AllByRecursion HasAllParts ss → joined (map parts_of (map placed_lines_and_rings ss)) ≡ joined (map lines_and_rings ss)
  members [] all = refl
  members (s ∷ ss) all = rw (all.0, members ss all.1) refl

  -- the lines of a shape with their ways are its lines
  pub reported : (s : Geometry P L L) → parts_of (placed_lines_and_rings s) ≡ lines_and_rings s
  reported = by_kinds HasAllParts (record {
    point = λ p. ap parts_of ((placed_lines_and_rings_at P L).point p) ∙ sym (lines_and_rings-point P L p);
    points = λ ps. ap parts_of ((placed_lines_and_rings_at P L).points ps) ∙ sym (lines_and_rings-points P L ps);
    line = λ l. ap parts_of ((placed_lines_and_rings_at P L).line l) ∙ sym (lines_and_rings-line P L l);
    lines = λ ls. ap parts_of ((placed_lines_and_rings_at P L).lines ls) ∙ of_alone false ls ∙ sym (lines_and_rings-lines P L ls);
    area = λ rs. ap parts_of ((placed_lines_and_rings_at P L).area rs) ∙ of_alone true rs ∙ sym (lines_and_rings-area P L rs);
    areas = λ areas. ap parts_of ((placed_lines_and_rings_at P L).areas areas) ∙ joined_parts 0 (map area_parts areas) ∙ each_area areas ∙ sym (lines_and_rings-areas P L areas);
    group = λ ss all. ap parts_of ((placed_lines_and_rings_at P L).group ss) ∙ joined_parts 0 (map placed_lines_and_rings ss) ∙ members ss all ∙ sym (lines_and_rings-group P L ss);
  })
