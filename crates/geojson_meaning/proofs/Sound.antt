-- Shapes that keep the rules of their kinds, made of parts that do.
use Rattle.std.proofs.Common.{◌≡◌, Bool, true, false, List, map, sym, ◌∙◌, subst, arith}
use Rattle.geojson_meaning.proofs.Names.{list_all, AllByRecursion, all_weaker, all_map, list_all_of, all_joined, proper_at, points_at, proper-group, joined, Point, IsInput, lines_and_rings, is_ring, Shape, is_line, is_some_list, is_proper, shape_points, RingCloses}
use Rattle.std.proofs.lemmas.Bool.{and_from}
use Rattle.geometry.specs.declared.shape.Geometry.TheVariants as g
use Rattle.geometry.proofs.Cases.{lines_and_rings-point, lines_and_rings-points, lines_and_rings-line, lines_and_rings-lines, lines_and_rings-area, lines_and_rings-areas, lines_and_rings-group}

-- a line of two inputs or more
abbrev pub IsLine : List Point → Type 0
IsLine ps = (is_line ps ≡ true) × AllByRecursion IsInput ps

-- a ring of inputs
abbrev pub IsRing : List Point → Type 0
IsRing ps = (is_ring ps ≡ true) × AllByRecursion IsInput ps

-- one ring or more
abbrev pub IsArea : List (List Point) → Type 0
IsArea rs = (is_some_list rs ≡ true) × AllByRecursion IsRing rs

-- it is proper, its positions are inputs, and its rings are closed
pub record IsSound (s : Shape) : Type 0 where
  pub proper : is_proper s ≡ true
  pub inputs : AllByRecursion IsInput (shape_points s)
  pub closed : AllByRecursion RingCloses (lines_and_rings s)

-- ---- lists

-- ---- shapes

abbrev Inputs : List Point → Type 0
Inputs = AllByRecursion IsInput

abbrev Closed : List (Bool × List Point) → Type 0
Closed = AllByRecursion RingCloses

open_line : (l : List Point) → RingCloses (false, l)
open_line l h = absurd cc

pub sound-point : (p : Point) → IsInput p → IsSound (g.Point p)
sound-point p h = grind (arith, proper_at.point, points_at.point, lines_and_rings-point)

pub sound-points : (ps : List Point) → is_some_list ps ≡ true → Inputs ps → IsSound (g.MultiPoint ps)
sound-points ps some h = grind (arith, proper_at.points, points_at.points, lines_and_rings-points)

pub sound-line : (ps : List Point) → IsLine ps → IsSound (g.Line ps)
sound-line ps h = grind (arith, proper_at.line, points_at.line, lines_and_rings-line, open_line)

pub sound-lines : (ls : List (List Point)) → is_some_list ls ≡ true → AllByRecursion IsLine ls → IsSound (g.Lines ls)
sound-lines ls some h = record {
  proper = proper_at.lines ls ∙ and_from (is_some_list ls) (list_all is_line ls) some (list_all_of is_line ls (all_weaker IsLine (λ l. is_line l ≡ true) (λ l k. k.0) ls h));
  inputs = subst Inputs (sym (points_at.lines ls)) (all_joined IsInput ls (all_weaker IsLine Inputs (λ l k. k.1) ls h));
  closed = subst Closed (sym (lines_and_rings-lines Point (List Point) ls)) (all_map RingCloses (λ l. (false, l)) ls (all_weaker IsLine (λ l. RingCloses (false, l)) (λ l k. open_line l) ls h));
}

rings_close : (rs : List (List Point)) → AllByRecursion IsRing rs → Closed (map (λ l. (true, l)) rs)
rings_close rs h = all_map RingCloses (λ l. (true, l)) rs (all_weaker IsRing (λ l. RingCloses (true, l)) (λ l k t. k.0) rs h)

rings_inputs : (rs : List (List Point)) → AllByRecursion IsRing rs → Inputs (joined rs)
rings_inputs rs h = all_joined IsInput rs (all_weaker IsRing Inputs (λ l k. k.1) rs h)

pub sound-area : (rs : List (List Point)) → IsArea rs → IsSound (g.Area rs)
sound-area rs h = grind (arith, proper_at.area, points_at.area, rings_inputs, lines_and_rings-area, rings_close)

pub sound-areas : (rss : List (List (List Point))) → is_some_list rss ≡ true → AllByRecursion IsArea rss → IsSound (g.Areas rss)
sound-areas rss some h = record {
  proper = proper_at.areas rss ∙ and_from (is_some_list rss) (list_all is_some_list rss) some (list_all_of is_some_list rss (all_weaker IsArea (λ rs. is_some_list rs ≡ true) (λ rs k. k.0) rss h));
  inputs = subst Inputs (sym (points_at.areas rss)) (rings_inputs (joined rss) (all_joined IsRing rss (all_weaker IsArea (AllByRecursion IsRing) (λ rs k. k.1) rss h)));
  closed = subst Closed (sym (lines_and_rings-areas Point (List Point) rss))
      (all_joined RingCloses (map (map (λ l. (true, l))) rss) (all_map Closed (map (λ l. (true, l))) rss (all_weaker IsArea (λ rs. Closed (map (λ l. (true, l)) rs)) (λ rs k. rings_close rs k.1) rss h)));
}

pub sound-group : (ss : List Shape) → AllByRecursion IsSound ss → IsSound (g.Group ss)
sound-group ss h = record {
  proper = proper-group ss ∙ list_all_of is_proper ss (all_weaker IsSound (λ s. is_proper s ≡ true) (λ s k. k.proper) ss h);
  inputs = subst Inputs (sym (points_at.group ss)) (all_joined IsInput (map shape_points ss) (all_map Inputs shape_points ss (all_weaker IsSound (λ s. Inputs (shape_points s)) (λ s k. k.inputs) ss h)));
  closed = subst Closed (sym (lines_and_rings-group Point (List Point) ss)) (all_joined RingCloses (map lines_and_rings ss) (all_map Closed lines_and_rings ss (all_weaker IsSound (λ s. Closed (lines_and_rings s)) (λ s k. k.closed) ss h)));
}
