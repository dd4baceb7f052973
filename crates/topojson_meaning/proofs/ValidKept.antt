-- Shapes of a topology that keep the rules of their kinds, made of parts that do.
use Rattle.std.proofs.Common.{◌≡◌, ℤ, Bool, true, false, List, length, map, Option, sym, ◌∙◌, subst, arith}
use Rattle.std.specs.Prelude.{◌&&◌}
use Rattle.topojson_meaning.proofs.Names.{and_from, AllByRecursion, list_all, all_map, all_joined, list_all_of, all_weaker, lines_and_rings-point, lines_and_rings-points, lines_and_rings-line, lines_and_rings-lines, lines_and_rings-area, lines_and_rings-areas, lines_and_rings-group, Point, lines_and_rings, is_some_list, full_at, places_at, single_at, full-group, TopoShape, AreInRange, IsJoined, IsClosed, IsPlace, is_full, places, is_single, Transform}
use Rattle.geometry.specs.declared.shape.Geometry.TheVariants as g

-- ---- lists

-- no list of it is empty
abbrev area_full : List (List ℤ) → Bool
area_full rs = is_some_list rs && list_all is_some_list rs

-- ---- lines and rings

module _ (arcs : List (List Point)) where
  -- the indexes of an open line (false) or a ring (true) name arcs that meet, and those of a ring close
  abbrev pub IsLineOrRing : Bool × List ℤ → Type 0
  IsLineOrRing b = AreInRange (length arcs) b.1 × IsJoined arcs b × IsClosed arcs b

  -- a line or a ring of some indexes
  abbrev pub IsLine : Bool → List ℤ → Type 0
  IsLine closed refs = (is_some_list refs ≡ true) × IsLineOrRing (closed, refs)

  -- some rings
  abbrev pub IsArea : List (List ℤ) → Type 0
  IsArea rs = (is_some_list rs ≡ true) × AllByRecursion (IsLine true) rs

  abbrev LinesAndRings : List (Bool × List ℤ) → Type 0
  LinesAndRings = AllByRecursion IsLineOrRing

  lines_full : (closed : Bool) (ls : List (List ℤ)) → is_some_list ls ≡ true → AllByRecursion (IsLine closed) ls → area_full ls ≡ true
  lines_full closed ls some h = and_from (is_some_list ls) (list_all is_some_list ls) some (list_all_of is_some_list ls (all_weaker (IsLine closed) (λ l. is_some_list l ≡ true) (λ l k. k.0) ls h))

  lines_are_valid : (closed : Bool) (ls : List (List ℤ)) → AllByRecursion (IsLine closed) ls → LinesAndRings (map (λ l. (closed, l)) ls)
  lines_are_valid closed ls h = all_map IsLineOrRing (λ l. (closed, l)) ls (all_weaker (IsLine closed) (λ l. IsLineOrRing (closed, l)) (λ l k. k.1) ls h)

-- ---- shapes

module _ (transform : Option Transform) (arcs : List (List Point)) where
  abbrev Places : List Point → Type 0
  Places = AllByRecursion (IsPlace transform)

  abbrev HasValidLines : List (Bool × List ℤ) → Type 0
  HasValidLines = AllByRecursion (IsLineOrRing arcs)

  -- no list of it is empty but a collection's, its places may stand in the topology, and its lines and rings are sound
  pub record IsShape (s : TopoShape) : Type 0 where
    pub full : is_full s ≡ true
    pub places : AllByRecursion (IsPlace transform) (places s)
    pub lines_and_rings : AllByRecursion (IsLineOrRing arcs) (lines_and_rings s)

  -- a sound shape that is no collection
  abbrev pub IsSingle : TopoShape → Type 0
  IsSingle s = IsShape s × (is_single s ≡ true)

  pub kept-point : (p : Point) → IsPlace transform p → IsSingle (g.Point p)
  kept-point p h = grind (arith, full_at.point, places_at.point, lines_and_rings-point, single_at.point)

  pub kept-points : (ps : List Point) → is_some_list ps ≡ true → AllByRecursion (IsPlace transform) ps → IsSingle (g.MultiPoint ps)
  kept-points ps some h = grind (arith, full_at.points, places_at.points, lines_and_rings-points, single_at.points)

  pub kept-line : (refs : List ℤ) → IsLine arcs false refs → IsSingle (g.Line refs)
  kept-line refs h = grind (arith, full_at.line, places_at.line, lines_and_rings-line, single_at.line)

  pub kept-lines : (ls : List (List ℤ)) → is_some_list ls ≡ true → AllByRecursion (IsLine arcs false) ls → IsSingle (g.Lines ls)
  kept-lines ls some h = grind (arith, full_at.lines, lines_full, places_at.lines, lines_and_rings-lines, lines_are_valid, single_at.lines)

  pub kept-area : (rs : List (List ℤ)) → IsArea arcs rs → IsSingle (g.Area rs)
  kept-area rs h = grind (arith, full_at.area, lines_full, places_at.area, lines_and_rings-area, lines_are_valid, single_at.area)

  pub kept-areas : (areas : List (List (List ℤ))) → is_some_list areas ≡ true → AllByRecursion (IsArea arcs) areas → IsSingle (g.Areas areas)
  kept-areas areas some h = (
    record {
      full = full_at.areas areas ∙ and_from (is_some_list areas) (list_all area_full areas) some
          (list_all_of area_full areas (all_weaker (IsArea arcs) (λ rs. area_full rs ≡ true) (λ rs k. lines_full arcs true rs k.0 k.1) areas h));
      places = subst Places (sym (places_at.areas areas)) tt;
      lines_and_rings = subst HasValidLines (sym (lines_and_rings-areas Point (List ℤ) areas))
          (all_joined (IsLineOrRing arcs) (map (map (λ l. (true, l))) areas) (all_map HasValidLines (map (λ l. (true, l))) areas (all_weaker (IsArea arcs) (λ rs. HasValidLines (map (λ l. (true, l)) rs)) (λ rs k. lines_are_valid arcs true rs k.1) areas h)));
    },
    single_at.areas areas,
  )

  pub kept-group : (ss : List TopoShape) → AllByRecursion IsShape ss → IsShape (g.Group ss)
  kept-group ss h = record {
    full = full-group ss ∙ list_all_of is_full ss (all_weaker IsShape (λ s. is_full s ≡ true) (λ s k. k.full) ss h);
    places = subst Places (sym (places_at.group ss)) (all_joined (IsPlace transform) (map places ss) (all_map Places places ss (all_weaker IsShape (λ s. Places (places s)) (λ s k. k.places) ss h)));
    lines_and_rings = subst HasValidLines (sym (lines_and_rings-group Point (List ℤ) ss)) (all_joined (IsLineOrRing arcs) (map lines_and_rings ss) (all_map HasValidLines lines_and_rings ss (all_weaker IsShape (λ s. HasValidLines (lines_and_rings s)) (λ s k. k.lines_and_rings) ss h)));
  }
