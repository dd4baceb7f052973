-- What is dropped of a shape, by its kind, and of features and objects in order.
use Rattle.std.proofs.Common.{◌≡◌, ℕ, ℤ, Bool, true, false, List, [], ◌∷◌, ◌++◌, map, append_assoc, Option, None, Some, if◌then◌else◌, refl, sym, ap, subst, ◌∙◌}
use Rattle.std.proofs.Math.Path.{fun_ext}
use Rattle.std.proofs.lemmas.Simd.{map-map}
use Rattle.std.specs.List.{AllByRecursion}
use Rattle.std.specs.Option.{is_some}
use Rattle.geometry.specs.declared.address.Address.{Address}
use Rattle.geometry.specs.declared.address.Cause.{Cause}
use Rattle.geometry.specs.declared.address.Cause.TheVariants.{Collapsed, Small, Outer}
use Rattle.geometry.specs.declared.address.Dropped.{Dropped}
use Rattle.geometry.specs.declared.shape.Geometry.{Geometry}
use Rattle.geometry.specs.declared.shape.Geometry.TheVariants as g
use Rattle.geometry.specs.DropCauses.{here, inner_cause, area_drop_causes, drop_causes, dropped_of_layers}
use Rattle.geometry.specs.Lists.{joined, map_some, then_some}
use Rattle.geometry.specs.Paths.{Placed, of_parts}
use Rattle.geometry.specs.Points.{Point}
use Rattle.geometry.specs.Pruning.{lines_and_rings}
use Rattle.geometry.proofs.ByKind.{AtKinds, at_kinds}
use Rattle.geometry.proofs.Cases.{drop_causes_at, lines_and_rings_at}
use Rattle.geometry.proofs.Induction.{by_kinds}
use Rattle.geometry.specs.Addresses.{part_address}
use Rattle.build_meaning.specs.Expected.{unless}
use Rattle.build_meaning.specs.InTurn.{Paired, cause_in_turn, judged, paired, paired_step, rings_paired, unpaired}
use Rattle.build_meaning.specs.OuterRings.{ends_here, along, unmarked, rings_marked, marked}
use Rattle.build_meaning.specs.Protected.{Protection, no_protection, cause_sparing, shape_marked}
use Rattle.build_meaning.proofs.Marks.{marked_at, marked-line, marked-lines, marked-area, marked-areas, marked-group}
use Rattle.owned_values.proofs.Elements.{all_left, all_right}
use Rattle.topojson_types.specs.Topologies.{TopoShape, object_features}
use Rattle.topo_model.specs.Along.{Ways, AreWays}
use Rattle.topo_model.specs.Places.{dropped_at}
use Rattle.topo_model.specs.Rebuilding.{Rebuilding, Judging}
use Rattle.topo_model.specs.Drops.{WhyPaired, cause_at_first, draft_cause, draft_causes, judged_refs, judging_cause, cause_in_polygon, pair_sparing, shape_drops, features_drops, objects_drops}
use Rattle.topo_model.specs.Ways.{way_of}
use Rattle.topo_model.proofs.Reported.{first_part}
use Rattle.topo_model.proofs.Along.{Objects, alike, by_given, by_none, objects_by}

paired_at : (P L : Type 0) → AtKinds (paired {P = P} {L = L}) paired_step
unfolding paired
paired_at P L = at_kinds paired_step

-- what is dropped of a shape with a mark at the end of a way, by its kind
module _ {L : Type 0} (why : WhyPaired (Bool × L)) (way : Option (List ℕ)) where
  abbrev of : Geometry Point (Paired (Bool × L)) (Paired (Bool × L)) → List (Placed Cause)
  of = drop_causes why

  abbrev pub gone : Geometry Point L L → List (Placed Cause)
  gone s = drop_causes why (paired (marked s way))

  pub of_point : (p : Point) → gone (g.Point p) ≡ []
  of_point p = ap (λ m. of (paired (m way))) ((marked_at Point L).point p) ∙ ap of ((paired_at Point (Bool × L)).point p) ∙ (drop_causes_at Point (Paired (Bool × L)) why).point p

  pub of_points : (ps : List Point) → gone (g.MultiPoint ps) ≡ []
  of_points ps = ap (λ m. of (paired (m way))) ((marked_at Point L).points ps) ∙ ap of ((paired_at Point (Bool × L)).points ps) ∙ (drop_causes_at Point (Paired (Bool × L)) why).points ps

  pub of_line : (l : L) → gone (g.Line l) ≡ here (why false (unpaired (unmarked l)))
  of_line l = ap (λ m. of (paired m)) (marked-line l way) ∙ ap of ((paired_at Point (Bool × L)).line (unmarked l)) ∙ (drop_causes_at Point (Paired (Bool × L)) why).line (unpaired (unmarked l))

  pub of_lines : (ls : List L) → gone (g.Lines ls) ≡ of_parts 0 (map (λ l. here (why false (unpaired (unmarked l)))) ls)
  of_lines ls =
      ap (λ m. of (paired m)) (marked-lines ls way) ∙ ap of ((paired_at Point (Bool × L)).lines (map unmarked ls)) ∙ (drop_causes_at Point (Paired (Bool × L)) why).lines (map unpaired (map unmarked ls))
      ∙ ap (of_parts 0) (map-map (λ l. here (why false l)) unpaired (map unmarked ls) ∙ map-map (λ l. here (why false (unpaired l))) unmarked ls)

  pub of_area : (rs : List L) → gone (g.Area rs) ≡ area_drop_causes (why true) (rings_paired (rings_marked rs way))
  of_area rs = ap (λ m. of (paired m)) (marked-area rs way) ∙ ap of ((paired_at Point (Bool × L)).area (rings_marked rs way)) ∙ (drop_causes_at Point (Paired (Bool × L)) why).area (rings_paired (rings_marked rs way))

  pub of_areas : (areas : List (List L)) → gone (g.Areas areas) ≡ of_parts 0 (map (λ rs. area_drop_causes (why true) (rings_paired rs)) (along rings_marked 0 areas way))
  of_areas areas =
      let are = along rings_marked 0 areas way in
      ap (λ m. of (paired m)) (marked-areas areas way) ∙ ap of ((paired_at Point (Bool × L)).areas are) ∙ (drop_causes_at Point (Paired (Bool × L)) why).areas (map rings_paired are)
      ∙ ap (of_parts 0) (map-map (area_drop_causes (why true)) rings_paired are)

  pub of_group : (ss : List (Geometry Point L L)) → gone (g.Group ss) ≡ of_parts 0 (map (λ s. drop_causes why (paired s)) (along marked 0 ss way))
  of_group ss =
      let are = along marked 0 ss way in
      ap (λ m. of (paired m)) (marked-group ss way) ∙ ap of ((paired_at Point (Bool × L)).group are) ∙ (drop_causes_at Point (Paired (Bool × L)) why).group (map paired are)
      ∙ ap (of_parts 0) (map-map (drop_causes why) paired are)

-- the outer ring of a polygon and then its holes, which have no mark
module _ (why : WhyPaired (List ℤ)) (way : Option (List ℕ)) (a : Address) (o : List ℤ) (holes rs : List (List ℤ)) (cause : Option Cause) (old between new : List Dropped) (are : rs ≡ o ∷ holes)
    (outer : cause ≡ pair_sparing why true (None, (ends_here way, o))) (first : between ≡ old ++ dropped_at (part_address a 0) (here cause)) where
  abbrev of_hole : Option Cause → List ℤ → List (Placed Cause)
  of_hole c h = here (inner_cause c (cause_in_polygon c (why true (None, h)) (why true (Some o, h))))

  rings_gone : new ≡ between ++ dropped_at a (of_parts 1 (map (of_hole cause) holes)) → new ≡ old ++ dropped_at a (area_drop_causes (pair_sparing why true) (rings_paired (rings_marked rs way)))
  rings_gone more =
      let later : List Dropped = dropped_at a (of_parts 1 (map (of_hole cause) holes)) in
      let pair : Bool × List ℤ → Paired (Bool × List ℤ) = λ h. (Some (ends_here way, o), h) in
      more ∙ ap (λ ds. ds ++ later) first ∙ append_assoc old (dropped_at (part_address a 0) (here cause)) later
      ∙ ap (λ ds. old ++ ds) (sym (first_part a 0 (here cause) (map (of_hole cause) holes)))
      ∙ ap (λ c. old ++ dropped_at a (of_parts 0 (here c ∷ map (of_hole c) holes))) outer
      ∙ ap (λ hs. old ++ dropped_at a (of_parts 0 (here (pair_sparing why true (None, (ends_here way, o))) ∷ hs)))
      (sym (map-map (λ h. here (inner_cause (pair_sparing why true (None, (ends_here way, o))) (pair_sparing why true h))) pair (map unmarked holes)
      ∙ map-map (λ h. here (inner_cause (pair_sparing why true (None, (ends_here way, o))) (pair_sparing why true (pair h)))) unmarked holes))
      ∙ ap (λ rs. old ++ dropped_at a (area_drop_causes (pair_sparing why true) (rings_paired (rings_marked rs way)))) (sym are)

  -- where the outer ring stays
  pub with_outer : cause ≡ None → new ≡ between ++ dropped_at a (of_parts 1 (map (λ h. here (why true (None, h))) holes)) → new ≡ old ++ dropped_at a (area_drop_causes (pair_sparing why true) (rings_paired (rings_marked rs way)))
  with_outer none more = rings_gone (more ∙ ap (λ c. between ++ dropped_at a (of_parts 1 (map (of_hole c) holes))) (sym none))

  -- where it doesn't
  pub without_outer : is_some cause ≡ true → new ≡ between ++ dropped_at a (of_parts 1 (map (λ h. here (inner_cause cause (why true (Some o, h)))) holes))
      → new ≡ old ++ dropped_at a (area_drop_causes (pair_sparing why true) (rings_paired (rings_marked rs way)))
  without_outer some more = rings_gone (more ∙ ap (λ (f : List ℤ → List (Placed Cause)). between ++ dropped_at a (of_parts 1 (map f holes))) (within cause some))
    where
      within : (c : Option Cause) → is_some c ≡ true → (λ h. here (inner_cause c (why true (Some o, h)))) ≡ of_hole c
      within None e = absurd cc
      within (Some c) e = refl

-- ---- objects whose features have ways

-- the lines and rings of a shape that may be null that are dropped, where a ring of it may be protected
abbrev pub protected_drops : Judging → Protection → Option TopoShape → List (Placed Cause)
protected_drops judging protects None = []
protected_drops judging protects (Some s) = drop_causes (judging_cause judging) (paired (shape_marked protects s))

module _ (judging : Judging) where
  abbrev why_judged : WhyPaired (Bool × List ℤ)
  why_judged = judging_cause judging

  shape_is : (protects : Protection) (s : Option TopoShape) → shape_drops why_judged (map_some (λ x. x.path) (then_some protects s)) s ≡ protected_drops judging protects s
  shape_is protects None = refl
  shape_is protects (Some s) = refl

  shape_none : (s : Option TopoShape) → shape_drops why_judged None s ≡ protected_drops judging no_protection s
  shape_none None = refl
  shape_none (Some s) = refl

  pub objects_are : (protects : Protection) (ways : Ways) (os : Objects) → AreWays protects ways os → objects_drops judging 0 ways os ≡ dropped_of_layers 0 (map (λ o. map (λ f. protected_drops judging protects f.shape) (object_features o.1)) os)
  objects_are protects ways os are =
      ap (dropped_of_layers 0) (objects_by (λ ways o. features_drops why_judged ways (object_features o.1)) (λ o. map (λ f. protected_drops judging protects f.shape) (object_features o.1)) protects ways os are
      (λ o more. by_given (λ way f. shape_drops why_judged way f.shape) (way_of protects) (object_features o.1) more
      ∙ alike (λ f. shape_drops why_judged (way_of protects f) f.shape) (λ f. protected_drops judging protects f.shape) (λ f. shape_is protects f.shape) (object_features o.1))
      (λ none o. by_none (λ way f. shape_drops why_judged way f.shape) (object_features o.1)
      ∙ alike (λ f. shape_drops why_judged None f.shape) (λ f. protected_drops judging no_protection f.shape) (λ f. shape_none f.shape) (object_features o.1)
      ∙ ap (λ p. map (λ f. protected_drops judging p f.shape) (object_features o.1)) (sym none)))

-- ---- where all are judged once

module _ {L : Type 0} (first later : Bool → L → Option Cause) (none : (closed : Bool) (l : L) → first closed l ≡ None) where
  alone : (closed : Bool) (l : L) → judged first later closed (unpaired l) ≡ later closed l
  alone closed l = ap (λ c. cause_in_turn None c (later closed l)) (none closed l)

  of_hole_alone : (o h : L) → judged first later true (Some o, h) ≡ later true h
  of_hole_alone o h = ap (λ c. cause_in_turn c (first true h) (later true h)) (none true o) ∙ alone true h

  lines_alone : (closed : Bool) (ls : List L) → map (λ l. here (judged first later closed l)) (map unpaired ls) ≡ map (λ l. here (later closed l)) ls
  lines_alone closed ls = map-map (λ l. here (judged first later closed l)) unpaired ls ∙ alike (λ l. here (judged first later closed (unpaired l))) (λ l. here (later closed l)) (λ l. ap here (alone closed l)) ls

  rings_alone : (rs : List L) → area_drop_causes (judged first later true) (rings_paired rs) ≡ area_drop_causes (later true) rs
  rings_alone [] = refl
  rings_alone (o ∷ holes) =
      ap (λ hs. of_parts 0 (here (judged first later true (unpaired o)) ∷ hs)) (map-map (λ h. here (inner_cause (judged first later true (unpaired o)) (judged first later true h))) (λ h. (Some o, h)) holes
      ∙ alike (λ h. here (inner_cause (judged first later true (unpaired o)) (judged first later true (Some o, h)))) (λ h. here (inner_cause (judged first later true (unpaired o)) (later true h)))
      (λ h. ap (λ c. here (inner_cause (judged first later true (unpaired o)) c)) (of_hole_alone o h)) holes)
      ∙ ap (λ c. of_parts 0 (here c ∷ map (λ h. here (inner_cause c (later true h))) holes)) (alone true o)

  module _ {P : Type 0} where
    abbrev by_pairs : Geometry P (Paired L) (Paired L) → List (Placed Cause)
    by_pairs = drop_causes (judged first later)

    members_alone : (ss : List (Geometry P L L)) → AllByRecursion (λ s. by_pairs (paired s) ≡ drop_causes later s) ss → map by_pairs (map paired ss) ≡ map (drop_causes later) ss
    members_alone [] all = refl
    members_alone (s ∷ ss) all = rw (all.0, members_alone ss all.1) refl

    -- they are dropped as if that were all
    pub judged_once : (s : Geometry P L L) → drop_causes (judged first later) (paired s) ≡ drop_causes later s
    judged_once = by_kinds (λ s. by_pairs (paired s) ≡ drop_causes later s) (record {
      point = λ p. ap by_pairs ((paired_at P L).point p) ∙ (drop_causes_at P (Paired L) (judged first later)).point p ∙ sym ((drop_causes_at P L later).point p);
      points = λ ps. ap by_pairs ((paired_at P L).points ps) ∙ (drop_causes_at P (Paired L) (judged first later)).points ps ∙ sym ((drop_causes_at P L later).points ps);
      line = λ l. ap by_pairs ((paired_at P L).line l) ∙ (drop_causes_at P (Paired L) (judged first later)).line (unpaired l) ∙ ap here (alone false l) ∙ sym ((drop_causes_at P L later).line l);
      lines = λ ls. ap by_pairs ((paired_at P L).lines ls) ∙ (drop_causes_at P (Paired L) (judged first later)).lines (map unpaired ls) ∙ ap (of_parts 0) (lines_alone false ls) ∙ sym ((drop_causes_at P L later).lines ls);
      area = λ rs. ap by_pairs ((paired_at P L).area rs) ∙ (drop_causes_at P (Paired L) (judged first later)).area (rings_paired rs) ∙ rings_alone rs ∙ sym ((drop_causes_at P L later).area rs);
      areas = λ rss. ap by_pairs ((paired_at P L).areas rss) ∙ (drop_causes_at P (Paired L) (judged first later)).areas (map rings_paired rss)
          ∙ ap (of_parts 0) (map-map (area_drop_causes (judged first later true)) rings_paired rss ∙ alike (λ rs. area_drop_causes (judged first later true) (rings_paired rs)) (area_drop_causes (later true)) rings_alone rss)
          ∙ sym ((drop_causes_at P L later).areas rss);
      group = λ ss all. ap by_pairs ((paired_at P L).group ss) ∙ (drop_causes_at P (Paired L) (judged first later)).group (map paired ss) ∙ ap (of_parts 0) (members_alone ss all) ∙ sym ((drop_causes_at P L later).group ss);
    })

pub judged_alone : (arcs : Rebuilding) (s : Geometry Point (Bool × List ℤ) (Bool × List ℤ)) → drop_causes (judging_cause (record { first = None; later = arcs })) (paired s) ≡ drop_causes (cause_sparing (draft_cause arcs)) s
judged_alone arcs = judged_once (cause_sparing (cause_at_first None)) (cause_sparing (draft_cause arcs)) (λ closed l. none l.0)
  where
    none : (mark : Bool) → cause_sparing (λ closed refs. None) true (mark, []) ≡ None
    none true = refl
    none false = refl

-- ---- where each is judged alike

module _ {L : Type 0} (first later first_too later_too : Bool → L → Option Cause) where
  abbrev one : WhyPaired L
  one = judged first later

  abbrev two : WhyPaired L
  two = judged first_too later_too

  abbrev pub Same : Bool × L → Type 0
  Same b = (first b.0 b.1 ≡ first_too b.0 b.1) × (later b.0 b.1 ≡ later_too b.0 b.1)

  abbrev All : Bool → List L → Type 0
  All closed ls = AllByRecursion Same (map (λ l. (closed, l)) ls)

  lines_agree : (closed : Bool) (ls : List L) → All closed ls → map (λ l. here (one closed l)) (map unpaired ls) ≡ map (λ l. here (two closed l)) (map unpaired ls)
  lines_agree closed [] h = refl
  lines_agree closed (l ∷ ls) h = rw (h.0.0, h.0.1, lines_agree closed ls h.1) refl

  holes_agree : (o : L) → Same (true, o) → (c : Option Cause) (hs : List L) → All true hs → map (λ h. here (inner_cause c (one true h))) (map (λ h. (Some o, h)) hs) ≡ map (λ h. here (inner_cause c (two true h))) (map (λ h. (Some o, h)) hs)
  holes_agree o s c [] k = refl
  holes_agree o s c (h ∷ hs) k = rw (s.0, k.0.0, k.0.1, holes_agree o s c hs k.1) refl

  rings_agree : (rs : List L) → All true rs → area_drop_causes (one true) (rings_paired rs) ≡ area_drop_causes (two true) (rings_paired rs)
  rings_agree [] h = refl
  rings_agree (o ∷ hs) h =
      let same : one true (unpaired o) ≡ two true (unpaired o) = rw (h.0.0, h.0.1) refl in
      ap (λ c. of_parts 0 (here c ∷ map (λ h. here (inner_cause c (one true h))) (map (λ h. (Some o, h)) hs))) same
      ∙ ap (λ os. of_parts 0 (here (two true (unpaired o)) ∷ os)) (holes_agree o h.0 (two true (unpaired o)) hs h.1)

  areas_agree : (rss : List (List L)) → AllByRecursion Same (joined (map (map (λ l. (true, l))) rss)) → map (area_drop_causes (one true)) (map rings_paired rss) ≡ map (area_drop_causes (two true)) (map rings_paired rss)
  areas_agree [] h = refl
  areas_agree (rs ∷ rss) h =
      rw (rings_agree rs (all_left Same (map (λ l. (true, l)) rs) (joined (map (map (λ l. (true, l))) rss)) h), areas_agree rss (all_right Same (map (λ l. (true, l)) rs) (joined (map (map (λ l. (true, l))) rss)) h)) refl

  module _ {P : Type 0} where
    abbrev Agrees : Geometry P L L → Type 0
    Agrees s = AllByRecursion Same (lines_and_rings s) → drop_causes one (paired s) ≡ drop_causes two (paired s)

    at : (s : Geometry P L L) (t : Geometry P (Paired L) (Paired L)) → paired s ≡ t → drop_causes one t ≡ drop_causes two t → drop_causes one (paired s) ≡ drop_causes two (paired s)
    at s t is e = ap (drop_causes one) is ∙ e ∙ sym (ap (drop_causes two) is)

    members_agree : (ss : List (Geometry P L L)) → AllByRecursion Agrees ss → AllByRecursion Same (joined (map lines_and_rings ss)) → map (drop_causes one) (map paired ss) ≡ map (drop_causes two) (map paired ss)
    members_agree [] all h = refl
    members_agree (s ∷ ss) all h =
        rw (all.0 (all_left Same (lines_and_rings s) (joined (map lines_and_rings ss)) h), members_agree ss all.1 (all_right Same (lines_and_rings s) (joined (map lines_and_rings ss)) h)) refl

    -- they are dropped for the same causes
    pub judged_agree : (s : Geometry P L L) → AllByRecursion (λ b. (first b.0 b.1 ≡ first_too b.0 b.1) × (later b.0 b.1 ≡ later_too b.0 b.1)) (lines_and_rings s) → drop_causes (judged first later) (paired s) ≡ drop_causes (judged first_too later_too) (paired s)
    judged_agree =
        let p = paired_at P L in
        let l = lines_and_rings_at P L in
        let d = drop_causes_at P (Paired L) one in
        let e = drop_causes_at P (Paired L) two in
        by_kinds Agrees (record {
          point = λ x h. at (g.Point x) (g.Point x) (p.point x) (d.point x ∙ sym (e.point x));
          points = λ xs h. at (g.MultiPoint xs) (g.MultiPoint xs) (p.points xs) (d.points xs ∙ sym (e.points xs));
          line = λ x h. at (g.Line x) (g.Line (unpaired x)) (p.line x) (let k = subst (AllByRecursion Same) (l.line x) h in d.line (unpaired x) ∙ rw (k.0.0, k.0.1) refl ∙ sym (e.line (unpaired x)));
          lines = λ xs h. at (g.Lines xs) (g.Lines (map unpaired xs)) (p.lines xs) (d.lines (map unpaired xs) ∙ ap (of_parts 0) (lines_agree false xs (subst (AllByRecursion Same) (l.lines xs) h)) ∙ sym (e.lines (map unpaired xs)));
          area = λ rs h. at (g.Area rs) (g.Area (rings_paired rs)) (p.area rs) (d.area (rings_paired rs) ∙ rings_agree rs (subst (AllByRecursion Same) (l.area rs) h) ∙ sym (e.area (rings_paired rs)));
          areas = λ rss h. at (g.Areas rss) (g.Areas (map rings_paired rss)) (p.areas rss) (d.areas (map rings_paired rss) ∙ ap (of_parts 0) (areas_agree rss (subst (AllByRecursion Same) (l.areas rss) h)) ∙ sym (e.areas (map rings_paired rss)));
          group = λ ss all h. at (g.Group ss) (g.Group (map paired ss)) (p.group ss) (d.group (map paired ss) ∙ ap (of_parts 0) (members_agree ss all (subst (AllByRecursion Same) (l.group ss) h)) ∙ sym (e.group (map paired ss)));
        })

-- ---- lines and rings that aren't small

-- those that don't stay are dropped
pub refs_are : (judging : Judging) (closed : Bool) (refs : List ℤ) → judged_refs judging.first judging.later closed refs ≡ unless (draft_causes judging closed (None, refs)) refs
refs_are judging = of_first judging.first
  where
    of_first : (first : Option Rebuilding) (closed : Bool) (refs : List ℤ) → judged_refs first judging.later closed refs ≡ unless (draft_causes (record { first = first; later = judging.later }) closed (None, refs)) refs
    of_first None true [] = refl
    of_first None false [] = refl
    of_first None closed (r ∷ rs) = refl
    of_first (Some arcs) true [] = refl
    of_first (Some arcs) false [] = refl
    of_first (Some arcs) closed (r ∷ rs) = refl

-- a hole of an outer ring that stays is judged as a line is
pub sparing_is : (judging : Judging) → pair_sparing (draft_causes judging) ≡ judging_cause judging
sparing_is judging = fun_ext (λ closed. fun_ext (same closed))
  where
    within : (o first later : Option Cause) (mark : Bool) (outer : Option Cause) → cause_in_polygon (cause_in_turn None o outer) (if mark then None else cause_in_turn None first later) (if mark then None else cause_in_turn o first later)
        ≡ cause_in_turn o (if mark then None else first) (if mark then None else later)
    within None first later true None = refl
    within None first later true (Some c) = refl
    within None first later false None = refl
    within None first later false (Some c) = refl
    within (Some Collapsed) first later true outer = refl
    within (Some Collapsed) first later false outer = refl
    within (Some Small) first later true outer = refl
    within (Some Small) first later false outer = refl
    within (Some Outer) first later true outer = refl
    within (Some Outer) first later false outer = refl

    same : (closed : Bool) (p : Paired (Bool × List ℤ)) → pair_sparing (draft_causes judging) closed p ≡ judging_cause judging closed p
    same closed (None, (true, l)) = refl
    same closed (None, (false, l)) = refl
    same closed (Some (true, o), (true, l)) = refl
    same closed (Some (true, o), (false, l)) = refl
    same closed (Some (false, o), (mark, l)) =
        within (cause_at_first judging.first true o) (cause_at_first judging.first closed l) (draft_cause judging.later closed l) mark (draft_cause judging.later true o)
