-- The lines, rings and cells of shapes of a topology, by their kinds.
use Rattle.std.proofs.Common.{◌≡◌, ℤ, Bool, true, false, ◌&&◌, List, [], ◌∷◌, map, refl, ap, sym, ◌∙◌, subst, arith}
use Rattle.std.specs.List.{AllByRecursion, list_all}
use Rattle.std.proofs.lemmas.Bool.{and_parts}
use Rattle.topojson_types.proofs.ByKind.{full_at, full-group, places_at}
use Rattle.owned_values.proofs.Elements.{all_append, all_map, all_passed}
use Rattle.geometry.specs.declared.shape.Geometry.TheVariants as g
use Rattle.geojson_types.specs.Features.{is_some_list}
use Rattle.geometry.specs.Lists.{joined}
use Rattle.geometry.specs.Points.{Point}
use Rattle.geometry.specs.Pruning.{lines_and_rings}
use Rattle.geometry.proofs.Agreement.{all_left, all_right, all_of_map}
use Rattle.geometry.proofs.Cases.{lines_and_rings-point, lines_and_rings-points, lines_and_rings-line, lines_and_rings-lines, lines_and_rings-area, lines_and_rings-areas, lines_and_rings-group}
use Rattle.geometry.proofs.Induction.{by_kinds}
use Rattle.topojson_types.specs.Topologies.{TopoShape, Contents}
use Rattle.topojson_types.specs.Validity.{IsPlace, is_full, places}
use Rattle.topojson_types.specs.LinesAndRings.{IsLineOrRing, IsShape}

-- ---- full lines and rings

abbrev IsFullLineOrRing : Bool × List ℤ → Type 0
IsFullLineOrRing b = is_some_list b.1 ≡ true

abbrev AreFull : TopoShape → Type 0
AreFull s = is_full s ≡ true → AllByRecursion IsFullLineOrRing (lines_and_rings {P = Point} {L = List ℤ} s)

full_many : (closed : Bool) (ls : List (List ℤ)) → (is_some_list ls && list_all is_some_list ls) ≡ true → AllByRecursion IsFullLineOrRing (map (λ l. (closed, l)) ls)
full_many closed ls h = all_map IsFullLineOrRing (λ l. (closed, l)) ls (all_passed is_some_list ls (and_parts (is_some_list ls) (list_all is_some_list ls) h).1)

full_areas : (areas : List (List (List ℤ))) → list_all (λ rs. is_some_list rs && list_all is_some_list rs) areas ≡ true → AllByRecursion IsFullLineOrRing (joined (map (map (λ l. (true, l))) areas))
full_areas [] h = tt
full_areas (rs ∷ areas) h = grind (arith, full_areas areas, and_parts (is_some_list rs && list_all is_some_list rs), all_append IsFullLineOrRing, full_many true rs)

full_members : (ss : List TopoShape) → AllByRecursion AreFull ss → list_all is_full ss ≡ true → AllByRecursion IsFullLineOrRing (joined (map lines_and_rings ss))
full_members [] all h = tt
full_members (s ∷ ss) all h = grind (arith, and_parts, all_append, full_members ss all.1)

none_full : (s : TopoShape) → lines_and_rings {P = Point} {L = List ℤ} s ≡ [] → AreFull s
none_full s e h = rw e tt

pub lines_and_rings_full : (s : TopoShape) → is_full s ≡ true → AllByRecursion IsFullLineOrRing (lines_and_rings {P = Point} {L = List ℤ} s)
lines_and_rings_full = by_kinds AreFull (record {
  point = λ p. none_full (g.Point p) (lines_and_rings-point Point (List ℤ) p);
  points = λ ps. none_full (g.MultiPoint ps) (lines_and_rings-points Point (List ℤ) ps);
  line = λ l h. rw (lines_and_rings-line Point (List ℤ) l) (rw full_at.line at h, tt);
  lines = λ ls h. rw (lines_and_rings-lines Point (List ℤ) ls) (full_many false ls (sym (full_at.lines ls) ∙ h));
  area = λ rs h. rw (lines_and_rings-area Point (List ℤ) rs) (full_many true rs (sym (full_at.area rs) ∙ h));
  areas = λ areas h. rw (lines_and_rings-areas Point (List ℤ) areas) (full_areas areas (and_parts (is_some_list areas) _ (sym (full_at.areas areas) ∙ h)).1);
  group = λ ss all h. rw (lines_and_rings-group Point (List ℤ) ss) (full_members ss all (sym (full-group ss) ∙ h));
})

-- ---- the parts of a shape that may stand in a topology

module _ (t : Contents) (s : TopoShape) where
  pub point_stands : (p : Point) → s ≡ g.Point p → IsShape t s → IsPlace t.transform p
  point_stands p e is = (subst (AllByRecursion (IsPlace t.transform)) (ap places e ∙ places_at.point p) is.places).0

  pub points_stand : (ps : List Point) → s ≡ g.MultiPoint ps → IsShape t s → AllByRecursion (IsPlace t.transform) ps
  points_stand ps e is = subst (AllByRecursion (IsPlace t.transform)) (ap places e ∙ places_at.points ps) is.places

  pub points_full : (ps : List Point) → s ≡ g.MultiPoint ps → IsShape t s → is_some_list ps ≡ true
  points_full ps e is = sym (full_at.points ps) ∙ ap is_full (sym e) ∙ is.full

  pub line_stands : (refs : List ℤ) → s ≡ g.Line refs → IsShape t s → IsLineOrRing t (false, refs)
  line_stands refs e is = (subst (AllByRecursion (IsLineOrRing t)) (ap lines_and_rings e ∙ lines_and_rings-line Point (List ℤ) refs) is.lines_and_rings).0

  pub lines_stand : (ls : List (List ℤ)) → s ≡ g.Lines ls → IsShape t s → AllByRecursion (λ l. IsLineOrRing t (false, l)) ls
  lines_stand ls e is = all_of_map (IsLineOrRing t) (λ l. (false, l)) ls (subst (AllByRecursion (IsLineOrRing t)) (ap lines_and_rings e ∙ lines_and_rings-lines Point (List ℤ) ls) is.lines_and_rings)

  pub lines_full : (ls : List (List ℤ)) → s ≡ g.Lines ls → IsShape t s → is_some_list ls ≡ true
  lines_full ls e is = (and_parts (is_some_list ls) (list_all is_some_list ls) (sym (full_at.lines ls) ∙ ap is_full (sym e) ∙ is.full)).0

  pub area_stands : (rs : List (List ℤ)) → s ≡ g.Area rs → IsShape t s → AllByRecursion (λ l. IsLineOrRing t (true, l)) rs
  area_stands rs e is = all_of_map (IsLineOrRing t) (λ l. (true, l)) rs (subst (AllByRecursion (IsLineOrRing t)) (ap lines_and_rings e ∙ lines_and_rings-area Point (List ℤ) rs) is.lines_and_rings)

  pub area_full : (rs : List (List ℤ)) → s ≡ g.Area rs → IsShape t s → is_some_list rs ≡ true
  area_full rs e is = (and_parts (is_some_list rs) (list_all is_some_list rs) (sym (full_at.area rs) ∙ ap is_full (sym e) ∙ is.full)).0

  each_area : (areas : List (List (List ℤ))) → AllByRecursion (IsLineOrRing t) (joined (map (map (λ l. (true, l))) areas)) → AllByRecursion (λ rs. AllByRecursion (λ l. IsLineOrRing t (true, l)) rs) areas
  each_area [] h = tt
  each_area (rs ∷ areas) h =
      let here = map (λ l. (true, l)) rs in
      let more = joined (map (map (λ l. (true, l))) areas) in
      (all_of_map (IsLineOrRing t) (λ l. (true, l)) rs (all_left (IsLineOrRing t) here more h), each_area areas (all_right (IsLineOrRing t) here more h))

  pub areas_stand : (areas : List (List (List ℤ))) → s ≡ g.Areas areas → IsShape t s → AllByRecursion (λ rs. AllByRecursion (λ l. IsLineOrRing t (true, l)) rs) areas
  areas_stand areas e is = each_area areas (subst (AllByRecursion (IsLineOrRing t)) (ap lines_and_rings e ∙ lines_and_rings-areas Point (List ℤ) areas) is.lines_and_rings)

  pub areas_full : (areas : List (List (List ℤ))) → s ≡ g.Areas areas → IsShape t s → (is_some_list areas ≡ true) × (list_all is_some_list areas ≡ true)
  areas_full areas e is =
      let k = and_parts (is_some_list areas) (list_all (λ rs. is_some_list rs && list_all is_some_list rs) areas) (sym (full_at.areas areas) ∙ ap is_full (sym e) ∙ is.full) in
      (k.0, on areas k.1)
    where
      on : (xss : List (List (List ℤ))) → list_all (λ rs. is_some_list rs && list_all is_some_list rs) xss ≡ true → list_all is_some_list xss ≡ true
      on [] h = refl
      on (rs ∷ xss) h =
          let k = and_parts (is_some_list rs && list_all is_some_list rs) (list_all (λ rs. is_some_list rs && list_all is_some_list rs) xss) h in
          rw ((and_parts (is_some_list rs) (list_all is_some_list rs) k.0).0) (on xss k.1)

members_stand : (t : Contents) (ss : List TopoShape) → list_all is_full ss ≡ true → AllByRecursion (IsLineOrRing t) (joined (map lines_and_rings ss)) → AllByRecursion (IsPlace t.transform) (joined (map places ss))
    → AllByRecursion (IsShape t) ss
members_stand t [] f h k = tt
members_stand t (s ∷ ss) f h k =
    let full = and_parts (is_full s) (list_all is_full ss) f in (
      record {
        full = full.0;
        lines_and_rings = all_left (IsLineOrRing t) (lines_and_rings s) (joined (map lines_and_rings ss)) h;
        places = all_left (IsPlace t.transform) (places s) (joined (map places ss)) k;
      },
      members_stand t ss full.1 (all_right (IsLineOrRing t) (lines_and_rings s) (joined (map lines_and_rings ss)) h) (all_right (IsPlace t.transform) (places s) (joined (map places ss)) k),
    )

pub group_stands : (t : Contents) (s : TopoShape) (ss : List TopoShape) → s ≡ g.Group ss → IsShape t s → AllByRecursion (IsShape t) ss
group_stands t s ss e is = grind (arith, members_stand, full-group, lines_and_rings-group, places_at.group)
