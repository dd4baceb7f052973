-- A shape of which some lines and rings are left out has no empty list where what is given for a line has an element, and its Points
-- and MultiPoints stay where they are.
use Rattle.std.proofs.Common.{◌≡◌, ◌&&◌, ℤ, Bool, true, false, List, [], ◌∷◌, map, Option, None, Some, refl, sym, ap, ◌∙◌, subst, arith}
use Rattle.build_meaning.proofs.Names.{AllByRecursion, list_all, all_append, all_left, all_right, proper_at, points_at, proper-group, prune-point, prune-points, prune-line, prune-lines, prune-area, prune-areas, prune-group, by_kinds, map_some, with_some, some_of, unless_empty, joined, Point, area_by, prune, Shape, is_some_list, is_proper, shape_points, is_full, is_full_option, places, option_places, and_parts, and_from, TopoShape, full_at, places_at, full-group}
use Rattle.build_meaning.proofs.Reshaped.{same_made, same_listed}
use Rattle.geometry.specs.declared.shape.Geometry.TheVariants as g

map_id : {A : Type 0} (xs : List A) → map (λ x. x) xs ≡ xs
map_id [] = refl
map_id (x ∷ xs) = ap (λ ys. x ∷ ys) (map_id xs)

-- a polygon has rings, of which none is empty
abbrev pub has_rings : List (List ℤ) → Bool
has_rings rs = is_some_list rs && list_all is_some_list rs

pub no_places : (X : Point → Type 0) (o : Option TopoShape) → option_places o ≡ [] → AllByRecursion X (option_places o)
no_places X o e = subst (AllByRecursion X) (sym e) tt

-- a line is full where what is given for it has an element
pub line_full : (o : Option (List ℤ)) → ((m : List ℤ) → o ≡ Some m → is_some_list m ≡ true) → is_full_option (map_some g.Line o) ≡ true
line_full o h = grind (arith, full_at.line)

pub lines_full : (ms : List (List ℤ)) → list_all is_some_list ms ≡ true → is_full_option (unless_empty g.Lines ms) ≡ true
lines_full ms h = grind (arith, full_at.lines)

abbrev pub has_option : Option (List (List ℤ)) → Bool
has_option None = true
has_option (Some ms) = has_rings ms

pub area_full : (o : Option (List (List ℤ))) → has_option o ≡ true → is_full_option (map_some g.Area o) ≡ true
area_full o h = grind (arith, full_at.area)

pub with_area : (o : Option (List (List ℤ))) (mss : List (List (List ℤ))) → has_option o ≡ true → list_all has_rings mss ≡ true → list_all has_rings (with_some o mss) ≡ true
with_area o mss h k = grind (arith, and_from)

pub areas_full : (mss : List (List (List ℤ))) → list_all has_rings mss ≡ true → is_full_option (unless_empty g.Areas mss) ≡ true
areas_full mss h = grind (arith, full_at.areas)

module _ (kept : Bool → List Point → Option (List ℤ)) where
  abbrev made : Shape → Option TopoShape
  made = prune (λ p. p) kept

  -- ---- places

  module _ (X : Point → Type 0) where
    abbrev Stay : Shape → Type 0
    Stay s = AllByRecursion X (shape_points s) → AllByRecursion X (option_places (made s))

    members_stay : (ss : List Shape) → AllByRecursion Stay ss → AllByRecursion X (joined (map shape_points ss)) → AllByRecursion X (joined (map places (some_of made ss)))
    members_stay [] all h = tt
    members_stay (s ∷ ss) all h = grind (arith, all_append, all_left, all_right, members_stay ss all.1)

    pub places_stay : (s : Shape) → AllByRecursion X (shape_points s) → AllByRecursion X (option_places (prune (λ p. p) kept s))
    places_stay = by_kinds Stay (record {
      point = λ p h. subst (AllByRecursion X) (points_at.point p ∙ sym (ap option_places (prune-point (λ p. p) kept p) ∙ places_at.point p)) h;
      points = λ ps h. subst (AllByRecursion X) (points_at.points ps ∙ sym (ap option_places (prune-points (λ p. p) kept ps) ∙ places_at.points (map (λ p. p) ps) ∙ map_id ps)) h;
      line = λ l h. no_places X (made (g.Line l)) (ap option_places (prune-line (λ p. p) kept l) ∙ same_made [] places g.Line places_at.line (kept false l));
      lines = λ ls h. no_places X (made (g.Lines ls)) (ap option_places (prune-lines (λ p. p) kept ls) ∙ same_listed [] places g.Lines places_at.lines (some_of (kept false) ls));
      area = λ rs h. no_places X (made (g.Area rs)) (ap option_places (prune-area (λ p. p) kept rs) ∙ same_made [] places g.Area places_at.area (area_by (kept true) rs));
      areas = λ areas h. no_places X (made (g.Areas areas)) (ap option_places (prune-areas (λ p. p) kept areas) ∙ same_listed [] places g.Areas places_at.areas (some_of (area_by (kept true)) areas));
      group = λ ss all h. subst (AllByRecursion X) (sym (ap option_places (prune-group (λ p. p) kept ss) ∙ places_at.group (some_of made ss)))
          (members_stay ss all (subst (AllByRecursion X) (points_at.group ss) h));
    })

  -- ---- lists

  module _ (some : (closed : Bool) (l : List Point) (m : List ℤ) → kept closed l ≡ Some m → is_some_list m ≡ true) where
    abbrev Full : Shape → Type 0
    Full s = is_proper s ≡ true → is_full_option (made s) ≡ true

    all_some : (closed : Bool) (ls : List (List Point)) → list_all is_some_list (some_of (kept closed) ls) ≡ true
    all_some closed [] = refl
    all_some closed (l ∷ ls) = grind (arith, and_from, all_some closed ls)

    rings_have : (rs : List (List Point)) → has_option (area_by (kept true) rs) ≡ true
    rings_have rs = grind (arith, and_from, all_some)

    areas_have : (areas : List (List (List Point))) → list_all has_rings (some_of (area_by (kept true)) areas) ≡ true
    areas_have [] = refl
    areas_have (rs ∷ areas) = with_area (area_by (kept true) rs) (some_of (area_by (kept true)) areas) (rings_have rs) (areas_have areas)

    members_full : (ss : List Shape) → AllByRecursion Full ss → list_all is_proper ss ≡ true → list_all is_full (some_of made ss) ≡ true
    members_full [] all h = refl
    members_full (s ∷ ss) all h = grind (arith, and_parts, and_from, members_full ss all.1)

    pub made_full : (s : Shape) → is_proper s ≡ true → is_full_option (prune (λ p. p) kept s) ≡ true
    made_full = by_kinds Full (record {
      point = λ p h. ap is_full_option (prune-point (λ p. p) kept p) ∙ full_at.point p;
      points = λ ps h. ap is_full_option (prune-points (λ p. p) kept ps) ∙ full_at.points (map (λ p. p) ps) ∙ ap is_some_list (map_id ps) ∙ sym (proper_at.points ps) ∙ h;
      line = λ l h. ap is_full_option (prune-line (λ p. p) kept l) ∙ line_full (kept false l) (some false l);
      lines = λ ls h. ap is_full_option (prune-lines (λ p. p) kept ls) ∙ lines_full (some_of (kept false) ls) (all_some false ls);
      area = λ rs h. ap is_full_option (prune-area (λ p. p) kept rs) ∙ area_full (area_by (kept true) rs) (rings_have rs);
      areas = λ areas h. ap is_full_option (prune-areas (λ p. p) kept areas) ∙ areas_full (some_of (area_by (kept true)) areas) (areas_have areas);
      group = λ ss all h. ap is_full_option (prune-group (λ p. p) kept ss) ∙ full-group (some_of made ss) ∙ members_full ss all (sym (proper-group ss) ∙ h);
    })
