-- What is left of a marked shape is what is left of the shape, marked: shapes, by kind.
use Rattle.std.proofs.Common.{◌≡◌, ℕ, Bool, true, false, List, [], ◌∷◌, map, Option, None, Some, refl, sym, ap, ◌∙◌, subst}
use Rattle.build_meaning.proofs.Names.{AllByRecursion, prune-point, prune-points, prune-line, prune-lines, prune-area, prune-areas, prune-group, by_kinds, map_some, with_some, some_of, unless_empty, Placed, alone, of_parts, area_by, prune, Geometry, outer_ring, outer_rings, ends_here, along, unmarked, rings_marked, marked}
use Rattle.build_meaning.proofs.Marks.{some_made, outer_rings_at, marked_at, marked-line, marked-lines, marked-area, marked-areas, marked-group, left-point, left-points, left-line, left-lines, left-area, left-areas, left-group}
use Rattle.build_meaning.proofs.MarksLeft.{Follows, nothing, made, left_out, weaker}
use Rattle.build_meaning.proofs.Reshaped.{same_made, same_listed}
use Rattle.geometry.specs.declared.shape.Geometry.TheVariants as g
use Rattle.build_meaning.proofs.MarksLeft as parts

abbrev Way : Type 0
Way = Option (List ℕ)

-- what is kept of a line or ring, with its mark
abbrev pub keeping_mark : {L M : Type 0} → (Bool → L → Option M) → Bool → Bool × L → Option (Bool × M)
keeping_mark kept closed l = map_some (λ m. (l.0, m)) (kept closed l.1)

module _ {P Q L M : Type 0} (place : P → Q) (kept : Bool → L → Option M) where
  abbrev left : Geometry P L L → Option (Geometry Q M M)
  left = prune place kept

  abbrev left_marked : Geometry P (Bool × L) (Bool × L) → Option (Geometry Q (Bool × M) (Bool × M))
  left_marked = prune place (keeping_mark kept)

  -- the rings that are left of a shape that may be null
  abbrev pub rings_left : Option (Geometry Q M M) → List (Placed M)
  rings_left None = []
  rings_left (Some t) = outer_rings t

  abbrev pub Turns : Geometry P L L → Option (List ℕ) → Option (List ℕ) → Type 0
  Turns s way after = prune place (keeping_mark kept) (marked s way) ≡ map_some (λ t. marked t after) (prune place kept s)

  abbrev pub TurnsOver : Geometry P L L → List ℕ → List ℕ → Type 0
  TurnsOver s p q = Turns s (Some p) (Some q)

  pub record Stays (s : Geometry P L L) : Type 0 where
    pub plainly : Turns s None None
    pub follow : Follows (kept true) (TurnsOver s) (outer_rings s) (rings_left (prune place kept s))

  -- ---- polygons

  holes_turn : (closed : Bool) (ls : List L) → some_of (keeping_mark kept closed) (map unmarked ls) ≡ map unmarked (some_of (kept closed) ls)
  holes_turn closed [] = refl
  holes_turn closed (l ∷ ls) = ap (with_some (map_some (λ m. (false, m)) (kept closed l))) (holes_turn closed ls) ∙ on (kept closed l)
    where
      on : (o : Option M) → with_some (map_some (λ m. (false, m)) o) (map unmarked (some_of (kept closed) ls)) ≡ map unmarked (with_some o (some_of (kept closed) ls))
      on None = refl
      on (Some m) = refl

  abbrev RingsTurn : List L → Way → Way → Type 0
  RingsTurn rs way after = area_by (keeping_mark kept true) (rings_marked rs way) ≡ map_some (λ ms. rings_marked ms after) (area_by (kept true) rs)

  rings_turn : (rs : List L) (way after : Way) → ends_here way ≡ ends_here after → RingsTurn rs way after
  rings_turn [] way after e = refl
  rings_turn (o ∷ holes) way after e = on (kept true o)
    where
      on : (k : Option M) → map_some (λ m. m ∷ some_of (keeping_mark kept true) (map unmarked holes)) (map_some (λ m. (ends_here way, m)) k)
          ≡ map_some (λ ms. rings_marked ms after) (map_some (λ m. m ∷ some_of (kept true) holes) k)
      on None = refl
      on (Some m) = ap (λ hs. Some ((ends_here way, m) ∷ hs)) (holes_turn true holes) ∙ ap (λ b. Some ((b, m) ∷ map unmarked (some_of (kept true) holes))) e

  abbrev PolygonStays : List L → Type 0
  PolygonStays = parts.Stays (area_by (kept true)) outer_ring outer_ring rings_marked rings_marked (area_by (keeping_mark kept true)) (kept true)

  abbrev polygon_rings : Option (List M) → List (Placed M)
  polygon_rings = parts.rings_left (area_by (kept true)) outer_ring outer_ring rings_marked rings_marked (area_by (keeping_mark kept true)) (kept true)

  polygon_stays : (rs : List L) → PolygonStays rs
  polygon_stays [] = record { plainly = refl; follow = nothing }
  polygon_stays (o ∷ holes) = record { plainly = rings_turn (o ∷ holes) None None refl; follow = on (kept true o) refl }
    where
      on : (k : Option M) → kept true o ≡ k → Follows (kept true) (λ p q. RingsTurn (o ∷ holes) (Some p) (Some q)) (alone o) (polygon_rings (map_some (λ m. m ∷ some_of (kept true) holes) k))
      on None e = left_out e nothing
      on (Some m) e = made e (rings_turn (o ∷ holes) (Some []) (Some []) refl) nothing

  all_polygons : (areas : List (List L)) → AllByRecursion PolygonStays areas
  all_polygons [] = tt
  all_polygons (rs ∷ areas) = (polygon_stays rs, all_polygons areas)

  -- ---- shapes without rings

  no_rings : (s : Geometry P L L) → outer_rings s ≡ [] → rings_left (left s) ≡ [] → Follows (kept true) (TurnsOver s) (outer_rings s) (rings_left (left s))
  no_rings s e f = subst (λ ys. Follows (kept true) (TurnsOver s) (outer_rings s) ys) (sym f) (subst (λ xs. Follows (kept true) (TurnsOver s) xs []) (sym e) nothing)

  at_point : (p : P) → Stays (g.Point p)
  at_point p = record {
    plainly = left-point place (keeping_mark kept) p None ∙ ap Some (sym (ap (λ f. f None) ((marked_at Q M).point (place p)))) ∙ ap (map_some (λ t. marked t None)) (sym (prune-point place kept p));
    follow = no_rings (g.Point p) ((outer_rings_at P L).point p) (ap rings_left (prune-point place kept p) ∙ (outer_rings_at Q M).point (place p));
  }

  at_points : (ps : List P) → Stays (g.MultiPoint ps)
  at_points ps = record {
    plainly = left-points place (keeping_mark kept) ps None ∙ ap Some (sym (ap (λ f. f None) ((marked_at Q M).points (map place ps)))) ∙ ap (map_some (λ t. marked t None)) (sym (prune-points place kept ps));
    follow = no_rings (g.MultiPoint ps) ((outer_rings_at P L).points ps) (ap rings_left (prune-points place kept ps) ∙ (outer_rings_at Q M).points (map place ps));
  }

  line_turns : (o : Option M) → map_some g.Line (map_some (λ m. (false, m)) o) ≡ map_some (λ (t : Geometry Q M M). marked t None) (map_some g.Line o)
  line_turns None = refl
  line_turns (Some m) = ap Some (sym (marked-line m None))

  at_line : (l : L) → Stays (g.Line l)
  at_line l = record {
    plainly = left-line place (keeping_mark kept) l None ∙ line_turns (kept false l) ∙ ap (map_some (λ t. marked t None)) (sym (prune-line place kept l));
    follow = no_rings (g.Line l) ((outer_rings_at P L).line l) (ap rings_left (prune-line place kept l) ∙ same_made [] outer_rings g.Line (outer_rings_at Q M).line (kept false l));
  }

  lines_turn : (ls : List L) → some_of (λ l. keeping_mark kept false (unmarked l)) ls ≡ map unmarked (some_of (kept false) ls)
  lines_turn ls = sym (some_made unmarked (keeping_mark kept false) ls) ∙ holes_turn false ls

  marked_lines : (ms : List M) → unless_empty g.Lines (map unmarked ms) ≡ map_some (λ (t : Geometry Q M M). marked t None) (unless_empty g.Lines ms)
  marked_lines [] = refl
  marked_lines (m ∷ ms) = ap Some (sym (marked-lines (m ∷ ms) None))

  at_lines : (ls : List L) → Stays (g.Lines ls)
  at_lines ls = record {
    plainly = left-lines place (keeping_mark kept) ls None ∙ ap (unless_empty g.Lines) (lines_turn ls) ∙ marked_lines (some_of (kept false) ls) ∙ ap (map_some (λ t. marked t None)) (sym (prune-lines place kept ls));
    follow = no_rings (g.Lines ls) ((outer_rings_at P L).lines ls) (ap rings_left (prune-lines place kept ls) ∙ same_listed [] outer_rings g.Lines (outer_rings_at Q M).lines (some_of (kept false) ls));
  }

  -- ---- areas

  -- the second list in another form
  rings_are : (s : Geometry P L L) (xs : List (Placed L)) (ys : List (Placed M)) → outer_rings s ≡ xs → rings_left (left s) ≡ ys → Follows (kept true) (TurnsOver s) xs ys
      → Follows (kept true) (TurnsOver s) (outer_rings s) (rings_left (left s))
  rings_are s xs ys e f h = subst (λ zs. Follows (kept true) (TurnsOver s) (outer_rings s) zs) (sym f) (subst (λ zs. Follows (kept true) (TurnsOver s) zs ys) (sym e) h)

  marked_area : (o : Option (List M)) (after : Way) → map_some g.Area (map_some (λ ms. rings_marked ms after) o) ≡ map_some (λ (t : Geometry Q M M). marked t after) (map_some g.Area o)
  marked_area None after = refl
  marked_area (Some ms) after = ap Some (sym (marked-area ms after))

  area_turns : (rs : List L) (way after : Way) → RingsTurn rs way after → Turns (g.Area rs) way after
  area_turns rs way after e =
      left-area place (keeping_mark kept) rs way ∙ ap (map_some g.Area) e ∙ marked_area (area_by (kept true) rs) after ∙ ap (map_some (λ t. marked t after)) (sym (prune-area place kept rs))

  area_rings : (o : Option (List M)) → rings_left (map_some g.Area o) ≡ polygon_rings o
  area_rings None = refl
  area_rings (Some ms) = (outer_rings_at Q M).area ms

  at_area : (rs : List L) → Stays (g.Area rs)
  at_area rs = record {
    plainly = area_turns rs None None (polygon_stays rs).plainly;
    follow = rings_are (g.Area rs) (outer_ring rs) (polygon_rings (area_by (kept true) rs)) ((outer_rings_at P L).area rs) (ap rings_left (prune-area place kept rs) ∙ area_rings (area_by (kept true) rs))
        (weaker (kept true) (λ p q. RingsTurn rs (Some p) (Some q)) (TurnsOver (g.Area rs)) (λ p q e. area_turns rs (Some p) (Some q) e) (polygon_stays rs).follow);
  }

  marked_areas : (mss : List (List M)) (after : Way) → unless_empty g.Areas (along rings_marked 0 mss after) ≡ map_some (λ (t : Geometry Q M M). marked t after) (unless_empty g.Areas mss)
  marked_areas [] after = refl
  marked_areas (ms ∷ mss) after = ap Some (sym (marked-areas (ms ∷ mss) after))

  abbrev areas_left : List (List L) → List (List M)
  areas_left areas = some_of (area_by (kept true)) areas

  areas_turn : (areas : List (List L)) (way after : Way) → some_of (area_by (keeping_mark kept true)) (along rings_marked 0 areas way) ≡ along rings_marked 0 (areas_left areas) after → Turns (g.Areas areas) way after
  areas_turn areas way after e =
      left-areas place (keeping_mark kept) areas way ∙ ap (unless_empty g.Areas) e ∙ marked_areas (areas_left areas) after ∙ ap (map_some (λ t. marked t after)) (sym (prune-areas place kept areas))

  areas_rings : (mss : List (List M)) → rings_left (unless_empty g.Areas mss) ≡ of_parts 0 (map outer_ring mss)
  areas_rings [] = refl
  areas_rings (ms ∷ mss) = (outer_rings_at Q M).areas (ms ∷ mss)

  at_areas : (areas : List (List L)) → Stays (g.Areas areas)
  at_areas areas = record {
    plainly = areas_turn areas None None
        (parts.all_plainly (area_by (kept true)) outer_ring outer_ring rings_marked rings_marked (area_by (keeping_mark kept true)) (kept true) 0 0 areas (all_polygons areas));
    follow = rings_are (g.Areas areas) (of_parts 0 (map outer_ring areas)) (of_parts 0 (map outer_ring (areas_left areas))) ((outer_rings_at P L).areas areas)
        (ap rings_left (prune-areas place kept areas) ∙ areas_rings (areas_left areas))
        (weaker (kept true) (parts.AllTurn (area_by (kept true)) outer_ring outer_ring rings_marked rings_marked (area_by (keeping_mark kept true)) (kept true) 0 0 areas)
        (TurnsOver (g.Areas areas)) (λ p q t. areas_turn areas (Some p) (Some q) t.2)
        (parts.all_follow (area_by (kept true)) outer_ring outer_ring rings_marked rings_marked (area_by (keeping_mark kept true)) (kept true) 0 0 areas (all_polygons areas)));
  }

  -- ---- groups

  abbrev members_left : List (Geometry P L L) → List (Geometry Q M M)
  members_left ss = some_of left ss

  group_turns : (ss : List (Geometry P L L)) (way after : Way) → some_of left_marked (along marked 0 ss way) ≡ along marked 0 (members_left ss) after → Turns (g.Group ss) way after
  group_turns ss way after e =
      left-group place (keeping_mark kept) ss way ∙ ap (λ ts. Some (g.Group ts)) e ∙ ap Some (sym (marked-group (members_left ss) after)) ∙ ap (map_some (λ t. marked t after)) (sym (prune-group place kept ss))

  abbrev MemberStays : Geometry P L L → Type 0
  MemberStays = parts.Stays left outer_rings outer_rings marked marked left_marked (kept true)

  same_rings : (o : Option (Geometry Q M M)) → rings_left o ≡ parts.rings_left left outer_rings outer_rings marked marked left_marked (kept true) o
  same_rings None = refl
  same_rings (Some t) = refl

  as_members : (ss : List (Geometry P L L)) → AllByRecursion Stays ss → AllByRecursion MemberStays ss
  as_members [] all = tt
  as_members (s ∷ ss) all = (
    record { plainly = all.0.plainly; follow = subst (λ ys. Follows (kept true) (TurnsOver s) (outer_rings s) ys) (same_rings (left s)) all.0.follow },
    as_members ss all.1,
  )

  at_group : (ss : List (Geometry P L L)) → AllByRecursion Stays ss → Stays (g.Group ss)
  at_group ss all = record {
    plainly = group_turns ss None None (parts.all_plainly left outer_rings outer_rings marked marked left_marked (kept true) 0 0 ss (as_members ss all));
    follow = rings_are (g.Group ss) (of_parts 0 (map outer_rings ss)) (of_parts 0 (map outer_rings (members_left ss))) ((outer_rings_at P L).group ss)
        (ap rings_left (prune-group place kept ss) ∙ (outer_rings_at Q M).group (members_left ss))
        (weaker (kept true) (parts.AllTurn left outer_rings outer_rings marked marked left_marked (kept true) 0 0 ss) (TurnsOver (g.Group ss)) (λ p q t. group_turns ss (Some p) (Some q) t.2)
        (parts.all_follow left outer_rings outer_rings marked marked left_marked (kept true) 0 0 ss (as_members ss all)));
  }

  pub stays : (s : Geometry P L L) → Stays s
  stays = by_kinds Stays (record { point = at_point; points = at_points; line = at_line; lines = at_lines; area = at_area; areas = at_areas; group = at_group })
