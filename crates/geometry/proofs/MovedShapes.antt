-- Shapes whose positions are replaced: the equations by kind, and what stays.
use Rattle.std.proofs.Common.{arith, ◌≡◌, Bool, true, false, ◌&&◌, List, [], ◌∷◌, ◌++◌, map, Option, refl, sym, ap, ◌∙◌, subst}
use Rattle.std.proofs.lemmas.List.{length-map, map-append}
use Rattle.std.specs.List.{AllByRecursion, list_all}
use Rattle.std.specs.Prelude.{nat_le}
use Rattle.owned_values.proofs.Elements.{all_left, all_right}
use Rattle.owned_values.proofs.Lists.{joined_append, map_agree}
use Rattle.geometry.specs.declared.shape.Geometry.TheVariants as g
use Rattle.geometry.specs.Shapes.{Shape, is_some_list, is_line, is_proper, is_proper_option}
use Rattle.geometry.specs.Lists.{joined, map_some}
use Rattle.geometry.specs.Moving.{moved_step, moved}
use Rattle.geometry.specs.Places.{shape_points, option_points}
use Rattle.geometry.specs.Points.{Point}
use Rattle.geometry.specs.Pruning.{lines_and_rings_step, lines_and_rings, option_lines_and_rings}
use Rattle.geometry.proofs.ByKind.{AtKinds, at_kinds, points_at, proper_at, proper-group}
use Rattle.geometry.proofs.Cases.{lines_and_rings_at}
use Rattle.geometry.proofs.Induction.{by_kinds}

pub moved_at : (f : Point → Point) → AtKinds (moved f) (moved_step f)
moved_at f = unfold moved in at_kinds (moved_step f)

-- ---- lists

pub some_mapped : {A B : Type 0} (h : A → B) (xs : List A) → is_some_list (map h xs) ≡ is_some_list xs
some_mapped h xs = grind arith

line_mapped : (f : Point → Point) (ps : List Point) → is_line (map f ps) ≡ is_line ps
line_mapped f ps = ap (nat_le 2) (length-map ps f)

tests_mapped : {A : Type 0} (p : A → Bool) (h : A → A) → ((x : A) → p (h x) ≡ p x) → (xs : List A) → list_all p (map h xs) ≡ list_all p xs
tests_mapped p h e [] = refl
tests_mapped p h e (x ∷ xs) = rw (e x, tests_mapped p h e xs) refl

both_same : {a b c d : Bool} → a ≡ b → c ≡ d → (a && c) ≡ (b && d)
both_same p q = rw (p, q) refl

joined_mapped : {A B : Type 0} (h : A → B) (xss : List (List A)) → joined (map (map h) xss) ≡ map h (joined xss)
joined_mapped h [] = refl
joined_mapped h (xs ∷ xss) = ap (λ ys. map h xs ++ ys) (joined_mapped h xss) ∙ sym (map-append h xs (joined xss))

-- ---- what stays

module _ (f : Point → Point) where
  -- no list gets empty, and lines stay lines
  abbrev StaysProper : Shape → Type 0
  StaysProper s = is_proper (moved f s) ≡ is_proper s

  proper_members : (ss : List Shape) → AllByRecursion StaysProper ss → list_all is_proper (map (moved f) ss) ≡ list_all is_proper ss
  proper_members [] all = refl
  proper_members (s ∷ ss) all = both_same all.0 (proper_members ss all.1)

  pub proper_moved : (s : Shape) → is_proper (moved f s) ≡ is_proper s
  proper_moved = by_kinds StaysProper (record {
    point = λ p. ap is_proper ((moved_at f).point p) ∙ proper_at.point (f p) ∙ sym (proper_at.point p);
    points = λ ps. ap is_proper ((moved_at f).points ps) ∙ proper_at.points (map f ps) ∙ some_mapped f ps ∙ sym (proper_at.points ps);
    line = λ ps. ap is_proper ((moved_at f).line ps) ∙ proper_at.line (map f ps) ∙ line_mapped f ps ∙ sym (proper_at.line ps);
    lines = λ ls. ap is_proper ((moved_at f).lines ls) ∙ proper_at.lines (map (map f) ls)
        ∙ both_same (some_mapped (map f) ls) (tests_mapped is_line (map f) (line_mapped f) ls) ∙ sym (proper_at.lines ls);
    area = λ rs. ap is_proper ((moved_at f).area rs) ∙ proper_at.area (map (map f) rs) ∙ some_mapped (map f) rs ∙ sym (proper_at.area rs);
    areas = λ rss. ap is_proper ((moved_at f).areas rss) ∙ proper_at.areas (map (map (map f)) rss)
        ∙ both_same (some_mapped (map (map f)) rss) (tests_mapped is_some_list (map (map f)) (some_mapped (map f)) rss) ∙ sym (proper_at.areas rss);
    group = λ ss all. ap is_proper ((moved_at f).group ss) ∙ proper-group (map (moved f) ss) ∙ proper_members ss all ∙ sym (proper-group ss);
  })

  pub option_proper_moved : (o : Option Shape) → is_proper_option (map_some (moved f) o) ≡ is_proper_option o
  option_proper_moved o = grind (arith, proper_moved)

  -- its positions are the ones that are given for the old ones, in order
  abbrev HasMoved : Shape → Type 0
  HasMoved s = shape_points (moved f s) ≡ map f (shape_points s)

  points_members : (ss : List Shape) → AllByRecursion HasMoved ss → joined (map shape_points (map (moved f) ss)) ≡ map f (joined (map shape_points ss))
  points_members [] all = refl
  points_members (s ∷ ss) all = rw (all.0, points_members ss all.1) (sym (map-append f (shape_points s) (joined (map shape_points ss))))

  pub points_moved : (s : Shape) → shape_points (moved f s) ≡ map f (shape_points s)
  points_moved = by_kinds HasMoved (record {
    point = λ p. ap shape_points ((moved_at f).point p) ∙ points_at.point (f p) ∙ sym (ap (map f) (points_at.point p));
    points = λ ps. ap shape_points ((moved_at f).points ps) ∙ points_at.points (map f ps) ∙ sym (ap (map f) (points_at.points ps));
    line = λ ps. ap shape_points ((moved_at f).line ps) ∙ points_at.line (map f ps) ∙ sym (ap (map f) (points_at.line ps));
    lines = λ ls. ap shape_points ((moved_at f).lines ls) ∙ points_at.lines (map (map f) ls) ∙ joined_mapped f ls ∙ sym (ap (map f) (points_at.lines ls));
    area = λ rs. ap shape_points ((moved_at f).area rs) ∙ points_at.area (map (map f) rs) ∙ joined_mapped f rs ∙ sym (ap (map f) (points_at.area rs));
    areas = λ rss. ap shape_points ((moved_at f).areas rss) ∙ points_at.areas (map (map (map f)) rss)
        ∙ ap joined (joined_mapped (map f) rss) ∙ joined_mapped f (joined rss) ∙ sym (ap (map f) (points_at.areas rss));
    group = λ ss all. ap shape_points ((moved_at f).group ss) ∙ points_at.group (map (moved f) ss) ∙ points_members ss all ∙ sym (ap (map f) (points_at.group ss));
  })

  pub option_points_moved : (o : Option Shape) → option_points (map_some (moved f) o) ≡ map f (option_points o)
  option_points_moved o = grind (arith, points_moved)

  -- its lines and rings are the old ones with each position replaced, in order
  abbrev pub line_or_ring_moved : Bool × List Point → Bool × List Point
  line_or_ring_moved b = (b.0, map f b.1)

  abbrev HasLinesAndRings : Shape → Type 0
  HasLinesAndRings s = lines_and_rings (moved f s) ≡ map line_or_ring_moved (lines_and_rings s)

  abbrev at_lines_and_rings : AtKinds (lines_and_rings {P = Point} {L = List Point}) lines_and_rings_step
  at_lines_and_rings = lines_and_rings_at Point (List Point)

  tagged : (closed : Bool) (ls : List (List Point)) → map (λ l. (closed, l)) (map (map f) ls) ≡ map line_or_ring_moved (map (λ l. (closed, l)) ls)
  tagged closed [] = refl
  tagged closed (l ∷ ls) = ap (λ bs. (closed, map f l) ∷ bs) (tagged closed ls)

  tagged_areas : (rss : List (List (List Point))) → joined (map (map (λ l. (true, l))) (map (map (map f)) rss)) ≡ map line_or_ring_moved (joined (map (map (λ l. (true, l))) rss))
  tagged_areas [] = refl
  tagged_areas (rs ∷ rss) = rw (tagged true rs, tagged_areas rss) (sym (map-append line_or_ring_moved (map (λ l. (true, l)) rs) (joined (map (map (λ l. (true, l))) rss))))

  lines_and_rings_members : (ss : List Shape) → AllByRecursion HasLinesAndRings ss → joined (map lines_and_rings (map (moved f) ss)) ≡ map line_or_ring_moved (joined (map lines_and_rings ss))
  lines_and_rings_members [] all = refl
  lines_and_rings_members (s ∷ ss) all = rw (all.0, lines_and_rings_members ss all.1) (sym (map-append line_or_ring_moved (lines_and_rings s) (joined (map lines_and_rings ss))))

  pub lines_and_rings_moved : (s : Shape) → lines_and_rings (moved f s) ≡ map line_or_ring_moved (lines_and_rings s)
  lines_and_rings_moved = by_kinds HasLinesAndRings (record {
    point = λ p. ap lines_and_rings ((moved_at f).point p) ∙ at_lines_and_rings.point (f p) ∙ sym (ap (map line_or_ring_moved) (at_lines_and_rings.point p));
    points = λ ps. ap lines_and_rings ((moved_at f).points ps) ∙ at_lines_and_rings.points (map f ps) ∙ sym (ap (map line_or_ring_moved) (at_lines_and_rings.points ps));
    line = λ ps. ap lines_and_rings ((moved_at f).line ps) ∙ at_lines_and_rings.line (map f ps) ∙ sym (ap (map line_or_ring_moved) (at_lines_and_rings.line ps));
    lines = λ ls. ap lines_and_rings ((moved_at f).lines ls) ∙ at_lines_and_rings.lines (map (map f) ls) ∙ tagged false ls ∙ sym (ap (map line_or_ring_moved) (at_lines_and_rings.lines ls));
    area = λ rs. ap lines_and_rings ((moved_at f).area rs) ∙ at_lines_and_rings.area (map (map f) rs) ∙ tagged true rs ∙ sym (ap (map line_or_ring_moved) (at_lines_and_rings.area rs));
    areas = λ rss. ap lines_and_rings ((moved_at f).areas rss) ∙ at_lines_and_rings.areas (map (map (map f)) rss) ∙ tagged_areas rss ∙ sym (ap (map line_or_ring_moved) (at_lines_and_rings.areas rss));
    group = λ ss all. ap lines_and_rings ((moved_at f).group ss) ∙ at_lines_and_rings.group (map (moved f) ss) ∙ lines_and_rings_members ss all ∙ sym (ap (map line_or_ring_moved) (at_lines_and_rings.group ss));
  })

  pub option_lines_and_rings_moved : (o : Option Shape) → option_lines_and_rings (map_some (moved f) o) ≡ map line_or_ring_moved (option_lines_and_rings o)
  option_lines_and_rings_moved o = grind (arith, lines_and_rings_moved)

-- ---- functions that agree

module _ (f h : Point → Point) where
  abbrev pub Alike : Point → Type 0
  Alike p = f p ≡ h p

  alike_lines : (ls : List (List Point)) → AllByRecursion Alike (joined ls) → map (map f) ls ≡ map (map h) ls
  alike_lines [] all = refl
  alike_lines (l ∷ ls) all = rw (map_agree f h l (all_left Alike l (joined ls) all), alike_lines ls (all_right Alike l (joined ls) all)) refl

  alike_areas : (rss : List (List (List Point))) → AllByRecursion Alike (joined (joined rss)) → map (map (map f)) rss ≡ map (map (map h)) rss
  alike_areas [] all = refl
  alike_areas (rs ∷ rss) all = grind (arith, joined_append, alike_lines, all_left, all_right, alike_areas rss)

  abbrev Agrees : Shape → Type 0
  Agrees s = AllByRecursion Alike (shape_points s) → moved f s ≡ moved h s

  alike_members : (ss : List Shape) → AllByRecursion Agrees ss → AllByRecursion Alike (joined (map shape_points ss)) → map (moved f) ss ≡ map (moved h) ss
  alike_members [] all k = refl
  alike_members (s ∷ ss) all k = grind (arith, all_left, all_right, alike_members ss all.1 (all_right Alike (shape_points s) (joined (map shape_points ss)) k))

  pub moved_alike : (s : Shape) → AllByRecursion Alike (shape_points s) → moved f s ≡ moved h s
  moved_alike = by_kinds Agrees (record {
    point = λ p k. (moved_at f).point p ∙ ap g.Point (subst (AllByRecursion Alike) (points_at.point p) k).0 ∙ sym ((moved_at h).point p);
    points = λ ps k. (moved_at f).points ps ∙ ap g.MultiPoint (map_agree f h ps (subst (AllByRecursion Alike) (points_at.points ps) k)) ∙ sym ((moved_at h).points ps);
    line = λ ps k. (moved_at f).line ps ∙ ap g.Line (map_agree f h ps (subst (AllByRecursion Alike) (points_at.line ps) k)) ∙ sym ((moved_at h).line ps);
    lines = λ ls k. (moved_at f).lines ls ∙ ap g.Lines (alike_lines ls (subst (AllByRecursion Alike) (points_at.lines ls) k)) ∙ sym ((moved_at h).lines ls);
    area = λ rs k. (moved_at f).area rs ∙ ap g.Area (alike_lines rs (subst (AllByRecursion Alike) (points_at.area rs) k)) ∙ sym ((moved_at h).area rs);
    areas = λ rss k. (moved_at f).areas rss ∙ ap g.Areas (alike_areas rss (subst (AllByRecursion Alike) (points_at.areas rss) k)) ∙ sym ((moved_at h).areas rss);
    group = λ ss all k. (moved_at f).group ss ∙ ap g.Group (alike_members ss all (subst (AllByRecursion Alike) (points_at.group ss) k)) ∙ sym ((moved_at h).group ss);
  })

  pub option_moved_alike : (o : Option Shape) → AllByRecursion Alike (option_points o) → map_some (moved f) o ≡ map_some (moved h) o
  option_moved_alike o k = grind (arith, moved_alike)
