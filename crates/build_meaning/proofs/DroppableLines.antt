-- The droppable lines of a shape, by its kind: they are its lines and rings, and those that stay are the lines and rings of the pruned shape.
use Rattle.std.proofs.Common.{◌≡◌, Bool, true, false, List, [], ◌∷◌, ◌++◌, map, Option, None, Some, refl, sym, ap, ◌∙◌, arith}
use Rattle.build_meaning.proofs.Names.{map-append, AllByRecursion, AtKinds, at_kinds, prune-point, prune-points, prune-line, prune-lines, prune-area, prune-areas, prune-group, lines_and_rings-point, lines_and_rings-points, lines_and_rings-line, lines_and_rings-lines, lines_and_rings-area, lines_and_rings-areas, lines_and_rings-group, by_kinds, map_some, with_some, some_of, unless_empty, joined, area_by, prune, lines_and_rings, option_lines_and_rings, Cause, Geometry, DroppableLine, free, hole, area_droppable_lines, droppable_lines_step, droppable_lines, if_kept}
use Rattle.geometry.specs.declared.shape.Geometry.TheVariants as g
pub use Rattle.build_meaning.proofs.Names.{map-map as map_map}

-- ---- by kind

module _ (P L : Type 0) (why : L → Option Cause) where
  pub droppable_lines_at : AtKinds (droppable_lines {P = P} {L = L} why) (droppable_lines_step why)
  unfolding droppable_lines
  droppable_lines_at = at_kinds (droppable_lines_step why)

-- ---- lists

with_append : {A : Type 0} (o : Option A) (xs ys : List A) → with_some o xs ++ ys ≡ with_some o (xs ++ ys)
with_append o xs ys = grind arith

pub some_append : {A B : Type 0} (f : A → Option B) (xs ys : List A) → some_of f (xs ++ ys) ≡ some_of f xs ++ some_of f ys
some_append f [] ys = refl
some_append f (x ∷ xs) ys = ap (with_some (f x)) (some_append f xs ys) ∙ sym (with_append (f x) (some_of f xs) (some_of f ys))

-- ---- they are the lines and rings of the shape

-- an open line (false) or a ring (true)
abbrev pub stroke : {L : Type 0} → DroppableLine L → Bool × L
stroke c = (c.closed, c.line)

module _ {L : Type 0} (why : L → Option Cause) where
  area_are : (rs : List L) → map stroke (area_droppable_lines why rs) ≡ map (λ l. (true, l)) rs
  area_are rs = grind (arith, map_map)

  areas_are : (areas : List (List L)) → map stroke (joined (map (area_droppable_lines why) areas)) ≡ joined (map (map (λ l. (true, l))) areas)
  areas_are [] = refl
  areas_are (rs ∷ areas) = map-append stroke (area_droppable_lines why rs) (joined (map (area_droppable_lines why) areas)) ∙ rw (area_are rs, areas_are areas) refl

module _ {P L : Type 0} (why : L → Option Cause) where
  abbrev Are : Geometry P L L → Type 0
  Are s = map stroke (droppable_lines why s) ≡ lines_and_rings s

  members_are : (ss : List (Geometry P L L)) → AllByRecursion Are ss → map stroke (joined (map (droppable_lines why) ss)) ≡ joined (map lines_and_rings ss)
  members_are [] all = refl
  members_are (s ∷ ss) all = map-append stroke (droppable_lines why s) (joined (map (droppable_lines why) ss)) ∙ rw (all.0, members_are ss all.1) refl

  pub all_lines_and_rings : (s : Geometry P L L) → map stroke (droppable_lines why s) ≡ lines_and_rings s
  all_lines_and_rings = by_kinds Are (record {
    point = λ p. ap (map stroke) ((droppable_lines_at P L why).point p) ∙ sym (lines_and_rings-point P L p);
    points = λ ps. ap (map stroke) ((droppable_lines_at P L why).points ps) ∙ sym (lines_and_rings-points P L ps);
    line = λ l. ap (map stroke) ((droppable_lines_at P L why).line l) ∙ sym (lines_and_rings-line P L l);
    lines = λ ls. ap (map stroke) ((droppable_lines_at P L why).lines ls) ∙ map_map stroke (free false) ls ∙ sym (lines_and_rings-lines P L ls);
    area = λ rs. ap (map stroke) ((droppable_lines_at P L why).area rs) ∙ area_are why rs ∙ sym (lines_and_rings-area P L rs);
    areas = λ areas. ap (map stroke) ((droppable_lines_at P L why).areas areas) ∙ areas_are why areas ∙ sym (lines_and_rings-areas P L areas);
    group = λ ss all. ap (map stroke) ((droppable_lines_at P L why).group ss) ∙ members_are ss all ∙ sym (lines_and_rings-group P L ss);
  })

-- ---- those that stay are the lines and rings of what is left of the shape

-- a ring is left out exactly where nothing is given for it
abbrev pub Matches : {M : Type 0} → Option Cause → Option M → Type 0
Matches None None = ⊥
Matches None (Some m) = Unit {0}
Matches (Some c) None = Unit {0}
Matches (Some c) (Some m) = ⊥

module _ {P Q L M : Type 0} (place : P → Q) (kept : Bool → L → Option M) (out : L → Option Cause) (matches : (l : L) → Matches (out l) (kept true l)) where
  abbrev tag : Bool → M → Bool × M
  tag closed m = (closed, m)

  -- what is given for it, unless it is left out
  abbrev pub left : DroppableLine L → Option (Bool × M)
  left c = if_kept c.outer (map_some (λ m. (c.closed, m)) (kept c.closed c.line))

  abbrev run : Geometry P L L → Option (Geometry Q M M)
  run = prune place kept

  abbrev after : Option (Geometry Q M M) → List (Bool × M)
  after = option_lines_and_rings

  abbrev of_areas : List (List M) → List (Bool × M)
  of_areas mss = joined (map (map (tag true)) mss)

  abbrev Stays : Geometry P L L → Type 0
  Stays s = after (run s) ≡ some_of left (droppable_lines out s)

  -- lines or rings that are no holes, or holes of a ring that stays
  free_left : (closed : Bool) (ls : List L) → map (tag closed) (some_of (kept closed) ls) ≡ some_of left (map (free closed) ls)
  free_left closed [] = refl
  free_left closed (l ∷ ls) = grind (arith, free_left closed ls)

  none_left : (c : Cause) (holes : List L) → some_of left (map (hole (Some c)) holes) ≡ []
  none_left c [] = refl
  none_left c (h ∷ holes) = none_left c holes

  line_left : (o : Option M) → after (map_some g.Line o) ≡ with_some (map_some (tag false) o) []
  line_left o = grind (arith, lines_and_rings-line)

  lines_of : (ms : List M) → after (unless_empty g.Lines ms) ≡ map (tag false) ms
  lines_of ms = grind (arith, lines_and_rings-lines)

  areas_of : (mss : List (List M)) → after (unless_empty g.Areas mss) ≡ of_areas mss
  areas_of mss = grind (arith, lines_and_rings-areas)

  abbrev rings_of : Option (List M) → List (Bool × M)
  rings_of None = []
  rings_of (Some ms) = map (tag true) ms

  area_of : (o : Option (List M)) → after (map_some g.Area o) ≡ rings_of o
  area_of o = grind (arith, lines_and_rings-area)

  area_left : (rs : List L) → rings_of (area_by (kept true) rs) ≡ some_of left (area_droppable_lines out rs)
  area_left [] = refl
  area_left (o ∷ holes) = grind (arith, free_left, none_left)

  with_rings : (o : Option (List M)) (mss : List (List M)) → of_areas (with_some o mss) ≡ rings_of o ++ of_areas mss
  with_rings o mss = grind arith

  areas_left : (areas : List (List L)) → of_areas (some_of (area_by (kept true)) areas) ≡ some_of left (joined (map (area_droppable_lines out) areas))
  areas_left [] = refl
  areas_left (rs ∷ areas) = grind (arith, with_rings, area_left, some_append, areas_left areas)

  members_left : (ss : List (Geometry P L L)) → AllByRecursion Stays ss → joined (map lines_and_rings (some_of run ss)) ≡ some_of left (joined (map (droppable_lines out) ss))
  members_left [] all = refl
  members_left (s ∷ ss) all = grind (arith, some_append, members_left ss all.1)

  pub lines_and_rings_left : (s : Geometry P L L) → option_lines_and_rings (prune place kept s) ≡ some_of left (droppable_lines out s)
  lines_and_rings_left = by_kinds Stays (record {
    point = λ p. ap after (prune-point place kept p) ∙ lines_and_rings-point Q M (place p) ∙ sym (ap (some_of left) ((droppable_lines_at P L out).point p));
    points = λ ps. ap after (prune-points place kept ps) ∙ lines_and_rings-points Q M (map place ps) ∙ sym (ap (some_of left) ((droppable_lines_at P L out).points ps));
    line = λ l. ap after (prune-line place kept l) ∙ line_left (kept false l) ∙ sym (ap (some_of left) ((droppable_lines_at P L out).line l));
    lines = λ ls. ap after (prune-lines place kept ls) ∙ lines_of (some_of (kept false) ls) ∙ free_left false ls ∙ sym (ap (some_of left) ((droppable_lines_at P L out).lines ls));
    area = λ rs. ap after (prune-area place kept rs) ∙ area_of (area_by (kept true) rs) ∙ area_left rs ∙ sym (ap (some_of left) ((droppable_lines_at P L out).area rs));
    areas = λ areas. ap after (prune-areas place kept areas) ∙ areas_of (some_of (area_by (kept true)) areas) ∙ areas_left areas ∙ sym (ap (some_of left) ((droppable_lines_at P L out).areas areas));
    group = λ ss all. ap after (prune-group place kept ss) ∙ lines_and_rings-group Q M (some_of run ss) ∙ members_left ss all ∙ sym (ap (some_of left) ((droppable_lines_at P L out).group ss));
  })
