-- What is reported as dropped of a shape is what the pruned shape lacks.
use Rattle.std.proofs.Common.{◌≡◌, ℕ, suc, Bool, true, false, List, [], ◌∷◌, map, Option, None, Some, refl, sym, ap, ◌∙◌, arith}
use Rattle.std.proofs.lemmas.List.{map-append}
use Rattle.std.specs.List.{AllByRecursion}
use Rattle.build_meaning.proofs.DroppableLines.{Matches, droppable_lines_at, some_append, lines_and_rings_left}
use Rattle.build_meaning.specs.DroppableLines.{DroppableLine, area_droppable_lines, droppable_lines, drop_cause, free, hole, if_kept}
use Rattle.build_meaning.specs.Expected.{own_cause, rebuilt, unless}
use Rattle.geojson_types.specs.Features.{Shape}
use Rattle.geometry.proofs.ByKind.{AtKinds, at_kinds}
use Rattle.geometry.proofs.Cases.{drop_causes_at}
use Rattle.geometry.proofs.Induction.{by_kinds}
use Rattle.geometry.specs.Lists.{joined, map_some, some_of, with_some}
use Rattle.geometry.specs.DropCauses.{area_drop_causes, here, inner_cause, drop_causes}
use Rattle.geometry.specs.Paths.{Placed, alone, inside_part, of_parts, placed_lines_and_rings}
use Rattle.geometry.specs.Points.{Point}
use Rattle.geometry.specs.declared.address.Cause.{Cause}
use Rattle.geometry.specs.declared.shape.Geometry.{Geometry, fold-Geometry}
use Rattle.geometry.specs.declared.shape.Geometry.TheOpen.{Geometry-F}
use Rattle.junctions.specs.declared.stroke.Stroke.{Stroke}
use Rattle.linework.proofs.Placing.{parts_of, placed_lines_and_rings_at}
use Rattle.mapchain_engine.specs.Dropping.{Judged, LeavesOutWhatIsReported, cause_at, stays_as, line_or_ring_at}

-- ---- parts, changed where they stand

abbrev moved : {A B : Type 0} → (A → B) → Placed A → Placed B
moved f x = record { path = x.path; part = f x.part }

abbrev at_path : {B : Type 0} → List ℕ → Option B → Option (Placed B)
at_path path o = map_some (λ b. record { path = path; part = b }) o

abbrev moved_some : {A B : Type 0} → (A → Option B) → Placed A → Option (Placed B)
moved_some f x = at_path x.path (f x.part)

moved_inside : {A B : Type 0} (f : A → B) (i : ℕ) (xs : List (Placed A)) → map (moved f) (inside_part i xs) ≡ inside_part i (map (moved f) xs)
moved_inside f i [] = refl
moved_inside f i (x ∷ xs) = ap (λ ys. record { path = i ∷ x.path; part = f x.part } ∷ ys) (moved_inside f i xs)

moved_parts : {A B : Type 0} (f : A → B) (i : ℕ) (xss : List (List (Placed A))) → map (moved f) (of_parts i xss) ≡ of_parts i (map (map (moved f)) xss)
moved_parts f i [] = refl
moved_parts f i (xs ∷ xss) = grind (arith, map-append, moved_inside, moved_parts f (suc i) xss)

inside_with : {B : Type 0} (i : ℕ) (path : List ℕ) (o : Option B) (ys : List (Placed B))
    → inside_part i (with_some (at_path path o) ys) ≡ with_some (at_path (i ∷ path) o) (inside_part i ys)
inside_with i path None ys = refl
inside_with i path (Some b) ys = refl

some_inside : {A B : Type 0} (f : A → Option B) (i : ℕ) (xs : List (Placed A)) → some_of (moved_some f) (inside_part i xs) ≡ inside_part i (some_of (moved_some f) xs)
some_inside f i [] = refl
some_inside f i (x ∷ xs) = ap (with_some (at_path (i ∷ x.path) (f x.part))) (some_inside f i xs) ∙ sym (inside_with i x.path (f x.part) (some_of (moved_some f) xs))

some_parts : {A B : Type 0} (f : A → Option B) (i : ℕ) (xss : List (List (Placed A))) → some_of (moved_some f) (of_parts i xss) ≡ of_parts i (map (some_of (moved_some f)) xss)
some_parts f i [] = refl
some_parts f i (xs ∷ xss) =
    some_append (moved_some f) (inside_part i xs) (of_parts (suc i) xss) ∙ rw (some_inside f i xs, some_parts f (suc i) xss) refl

parts_inside : {A : Type 0} (i : ℕ) (xs : List (Placed A)) → parts_of (inside_part i xs) ≡ parts_of xs
parts_inside i [] = refl
parts_inside i (x ∷ xs) = ap (λ l. x.part ∷ l) (parts_inside i xs)

parts_joined : {A : Type 0} (i : ℕ) (xss : List (List (Placed A))) → parts_of (of_parts i xss) ≡ joined (map parts_of xss)
parts_joined i [] = refl
parts_joined i (xs ∷ xss) = grind (arith, map-append, parts_inside, parts_joined (suc i) xss)

-- ---- lines and rings, each with the way to it

abbrev frees : {L : Type 0} → Bool → List L → List (List (Placed (DroppableLine L)))
frees closed ls = map (λ l. alone (free closed l)) ls

abbrev holes : {L : Type 0} → Option Cause → List L → List (List (Placed (DroppableLine L)))
holes o ls = map (λ l. alone (hole o l)) ls

abbrev lines_and_rings_alone : {L : Type 0} → Bool → List L → List (List (Placed (Bool × L)))
lines_and_rings_alone closed ls = map (λ l. alone (closed, l)) ls

abbrev stroke : {L : Type 0} → DroppableLine L → Bool × L
stroke c = (c.closed, c.line)

frees_alone : {L : Type 0} (closed : Bool) (ls : List L) → joined (map parts_of (frees closed ls)) ≡ map (free closed) ls
frees_alone closed [] = refl
frees_alone closed (l ∷ ls) = ap (λ xs. free closed l ∷ xs) (frees_alone closed ls)

holes_alone : {L : Type 0} (o : Option Cause) (ls : List L) → joined (map parts_of (holes o ls)) ≡ map (hole o) ls
holes_alone o [] = refl
holes_alone o (l ∷ ls) = ap (λ xs. hole o l ∷ xs) (holes_alone o ls)

frees_moved : {L : Type 0} (closed : Bool) (ls : List L) → map (map (moved stroke)) (frees closed ls) ≡ lines_and_rings_alone closed ls
frees_moved closed [] = refl
frees_moved closed (l ∷ ls) = ap (λ xs. alone (closed, l) ∷ xs) (frees_moved closed ls)

holes_moved : {L : Type 0} (o : Option Cause) (ls : List L) → map (map (moved stroke)) (holes o ls) ≡ lines_and_rings_alone true ls
holes_moved o [] = refl
holes_moved o (l ∷ ls) = ap (λ xs. alone (true, l) ∷ xs) (holes_moved o ls)

here_of : (o : Option Cause) → with_some (at_path [] o) [] ≡ here o
here_of None = refl
here_of (Some c) = refl

module _ {L : Type 0} (why : Bool → L → Option Cause) where
  abbrev area_placed : List L → List (Placed (DroppableLine L))
  area_placed [] = []
  area_placed (outer ∷ inner) = of_parts 0 (alone (free true outer) ∷ holes (why true outer) inner)

  area_parts : (rs : List L) → parts_of (area_placed rs) ≡ area_droppable_lines (why true) rs
  area_parts [] = refl
  area_parts (o ∷ hs) = parts_joined 0 (alone (free true o) ∷ holes (why true o) hs) ∙ ap (λ xs. free true o ∷ xs) (holes_alone (why true o) hs)

  areas_parts : (areas : List (List L)) → joined (map parts_of (map area_placed areas)) ≡ joined (map (area_droppable_lines (why true)) areas)
  areas_parts [] = refl
  areas_parts (rs ∷ areas) = rw (area_parts rs, areas_parts areas) refl

  area_moved : (rs : List L) → map (moved stroke) (area_placed rs) ≡ of_parts 0 (lines_and_rings_alone true rs)
  area_moved [] = refl
  area_moved (o ∷ hs) = moved_parts stroke 0 (alone (free true o) ∷ holes (why true o) hs) ∙ ap (λ xss. of_parts 0 (alone (true, o) ∷ xss)) (holes_moved (why true o) hs)

  areas_moved : (areas : List (List L)) → map (map (moved stroke)) (map area_placed areas) ≡ map (λ rs. of_parts 0 (lines_and_rings_alone true rs)) areas
  areas_moved [] = refl
  areas_moved (rs ∷ areas) = rw (area_moved rs, areas_moved areas) refl

  abbrev caused : List (Placed (DroppableLine L)) → List (Placed Cause)
  caused xs = some_of (moved_some (drop_cause why)) xs

  frees_caused : (closed : Bool) (ls : List L) → map caused (frees closed ls) ≡ map (λ l. here (why closed l)) ls
  frees_caused closed [] = refl
  frees_caused closed (l ∷ ls) = rw (here_of (why closed l), frees_caused closed ls) refl

  holes_caused : (o : Option Cause) (ls : List L) → map caused (holes o ls) ≡ map (λ l. here (inner_cause o (why true l))) ls
  holes_caused o [] = refl
  holes_caused o (l ∷ ls) = rw (here_of (inner_cause o (why true l)), holes_caused o ls) refl

  area_caused : (rs : List L) → caused (area_placed rs) ≡ area_drop_causes (why true) rs
  area_caused [] = refl
  area_caused (o ∷ hs) =
      some_parts (drop_cause why) 0 (alone (free true o) ∷ holes (why true o) hs) ∙ rw (here_of (why true o), holes_caused (why true o) hs) refl

  areas_caused : (areas : List (List L)) → map caused (map area_placed areas) ≡ map (area_drop_causes (why true)) areas
  areas_caused [] = refl
  areas_caused (rs ∷ areas) = rw (area_caused rs, areas_caused areas) refl

-- ---- the droppable lines of a shape, each with the way to it

module _ (P L : Type 0) (why : Bool → L → Option Cause) where
  abbrev placed_step : Geometry-F P L L (List (Placed (DroppableLine L))) → List (Placed (DroppableLine L))
  placed_step (Geometry-F.Point p) = []
  placed_step (Geometry-F.MultiPoint ps) = []
  placed_step (Geometry-F.Line l) = alone (free false l)
  placed_step (Geometry-F.Lines ls) = of_parts 0 (frees false ls)
  placed_step (Geometry-F.Area rs) = area_placed why rs
  placed_step (Geometry-F.Areas areas) = of_parts 0 (map (area_placed why) areas)
  placed_step (Geometry-F.Group xss) = of_parts 0 xss

  abbrev placed : Geometry P L L → List (Placed (DroppableLine L))
  placed = fold-Geometry P L L (List (Placed (DroppableLine L))) placed_step

  placed_at : AtKinds placed placed_step
  placed_at = at_kinds placed_step

  -- without their ways they are the droppable lines
  abbrev AreDroppableLines : Geometry P L L → Type 0
  AreDroppableLines s = parts_of (placed s) ≡ droppable_lines (why true) s

  group_parts : (ss : List (Geometry P L L)) → AllByRecursion AreDroppableLines ss → joined (map parts_of (map placed ss)) ≡ joined (map (droppable_lines (why true)) ss)
  group_parts [] all = refl
  group_parts (s ∷ ss) all = rw (all.0, group_parts ss all.1) refl

  are_droppable_lines : (s : Geometry P L L) → AreDroppableLines s
  are_droppable_lines = by_kinds AreDroppableLines (record {
    point = λ p. ap parts_of (placed_at.point p) ∙ sym ((droppable_lines_at P L (why true)).point p);
    points = λ ps. ap parts_of (placed_at.points ps) ∙ sym ((droppable_lines_at P L (why true)).points ps);
    line = λ l. ap parts_of (placed_at.line l) ∙ sym ((droppable_lines_at P L (why true)).line l);
    lines = λ ls. ap parts_of (placed_at.lines ls) ∙ parts_joined 0 (frees false ls) ∙ frees_alone false ls ∙ sym ((droppable_lines_at P L (why true)).lines ls);
    area = λ rs. ap parts_of (placed_at.area rs) ∙ area_parts why rs ∙ sym ((droppable_lines_at P L (why true)).area rs);
    areas = λ areas. ap parts_of (placed_at.areas areas) ∙ parts_joined 0 (map (area_placed why) areas) ∙ areas_parts why areas ∙ sym ((droppable_lines_at P L (why true)).areas areas);
    group = λ ss all. ap parts_of (placed_at.group ss) ∙ parts_joined 0 (map placed ss) ∙ group_parts ss all ∙ sym ((droppable_lines_at P L (why true)).group ss);
  })

  -- without the causes of their outer rings they are the lines with their ways
  abbrev AreLinesAndRings : Geometry P L L → Type 0
  AreLinesAndRings s = map (moved stroke) (placed s) ≡ placed_lines_and_rings s

  group_moved : (ss : List (Geometry P L L)) → AllByRecursion AreLinesAndRings ss → map (map (moved stroke)) (map placed ss) ≡ map placed_lines_and_rings ss
  group_moved [] all = refl
  group_moved (s ∷ ss) all = rw (all.0, group_moved ss all.1) refl

  are_lines_and_rings : (s : Geometry P L L) → AreLinesAndRings s
  are_lines_and_rings = by_kinds AreLinesAndRings (record {
    point = λ p. ap (map (moved stroke)) (placed_at.point p) ∙ sym ((placed_lines_and_rings_at P L).point p);
    points = λ ps. ap (map (moved stroke)) (placed_at.points ps) ∙ sym ((placed_lines_and_rings_at P L).points ps);
    line = λ l. ap (map (moved stroke)) (placed_at.line l) ∙ sym ((placed_lines_and_rings_at P L).line l);
    lines = λ ls. ap (map (moved stroke)) (placed_at.lines ls) ∙ moved_parts stroke 0 (frees false ls) ∙ ap (of_parts 0) (frees_moved false ls) ∙ sym ((placed_lines_and_rings_at P L).lines ls);
    area = λ rs. ap (map (moved stroke)) (placed_at.area rs) ∙ area_moved why rs ∙ sym ((placed_lines_and_rings_at P L).area rs);
    areas = λ areas. ap (map (moved stroke)) (placed_at.areas areas) ∙ moved_parts stroke 0 (map (area_placed why) areas) ∙ ap (of_parts 0) (areas_moved why areas)
        ∙ sym ((placed_lines_and_rings_at P L).areas areas);
    group = λ ss all. ap (map (moved stroke)) (placed_at.group ss) ∙ moved_parts stroke 0 (map placed ss) ∙ ap (of_parts 0) (group_moved ss all) ∙ sym ((placed_lines_and_rings_at P L).group ss);
  })

  -- those that are left out have the drop causes
  abbrev AreOmitted : Geometry P L L → Type 0
  AreOmitted s = caused why (placed s) ≡ drop_causes why s

  group_caused : (ss : List (Geometry P L L)) → AllByRecursion AreOmitted ss → map (caused why) (map placed ss) ≡ map (drop_causes why) ss
  group_caused [] all = refl
  group_caused (s ∷ ss) all = rw (all.0, group_caused ss all.1) refl

  are_omitted : (s : Geometry P L L) → AreOmitted s
  are_omitted = by_kinds AreOmitted (record {
    point = λ p. ap (caused why) (placed_at.point p) ∙ sym ((drop_causes_at P L why).point p);
    points = λ ps. ap (caused why) (placed_at.points ps) ∙ sym ((drop_causes_at P L why).points ps);
    line = λ l. ap (caused why) (placed_at.line l) ∙ here_of (why false l) ∙ sym ((drop_causes_at P L why).line l);
    lines = λ ls. ap (caused why) (placed_at.lines ls) ∙ some_parts (drop_cause why) 0 (frees false ls) ∙ ap (of_parts 0) (frees_caused why false ls) ∙ sym ((drop_causes_at P L why).lines ls);
    area = λ rs. ap (caused why) (placed_at.area rs) ∙ area_caused why rs ∙ sym ((drop_causes_at P L why).area rs);
    areas = λ areas. ap (caused why) (placed_at.areas areas) ∙ some_parts (drop_cause why) 0 (map (area_placed why) areas) ∙ ap (of_parts 0) (areas_caused why areas)
        ∙ sym ((drop_causes_at P L why).areas areas);
    group = λ ss all. ap (caused why) (placed_at.group ss) ∙ some_parts (drop_cause why) 0 (map placed ss) ∙ ap (of_parts 0) (group_caused ss all) ∙ sym ((drop_causes_at P L why).group ss);
  })

-- ---- the lines of a shape, each with why it is left out

module _ (why : Bool → List Point → Option Cause) (given : Bool → List Point → List Point) where
  abbrev kept : Bool → List Point → Option (List Point)
  kept closed ps = unless (why closed ps) (given closed ps)

  matches : (ps : List Point) → Matches (why true ps) (kept true ps)
  matches ps = grind arith

  abbrev judge : DroppableLine (List Point) → Judged
  judge c = record { closed = c.closed; line = c.line; cause = drop_cause why c }

  lines_and_rings_judged : (xs : List (Placed (DroppableLine (List Point)))) → map line_or_ring_at (map (moved judge) xs) ≡ map (moved (λ c. (c.closed, c.line))) xs
  lines_and_rings_judged [] = refl
  lines_and_rings_judged (x ∷ xs) = ap (λ ys. record { path = x.path; part = (x.part.closed, x.part.line) } ∷ ys) (lines_and_rings_judged xs)

  causes_judged : (xs : List (Placed (DroppableLine (List Point)))) → some_of cause_at (map (moved judge) xs) ≡ some_of (moved_some (drop_cause why)) xs
  causes_judged [] = refl
  causes_judged (x ∷ xs) = ap (with_some (at_path x.path (drop_cause why x.part))) (causes_judged xs)

  abbrev stay : Judged → Option (Bool × List Point)
  stay j = stays_as given j.cause j.closed j.line

  abbrev left : DroppableLine (List Point) → Option (Bool × List Point)
  left c = if_kept c.outer (map_some (λ m. (c.closed, m)) (kept c.closed c.line))

  by_causes : (outer own : Option Cause) (closed : Bool) (ps : List Point)
      → stays_as given (inner_cause outer own) closed ps ≡ if_kept outer (map_some (λ m. (closed, m)) (unless own (given closed ps)))
  by_causes None None closed ps = refl
  by_causes None (Some d) closed ps = refl
  by_causes (Some c) None closed ps = refl
  by_causes (Some c) (Some d) closed ps = refl

  lines_judged : (xs : List (Placed (DroppableLine (List Point)))) → some_of (λ x. stay x.part) (map (moved judge) xs) ≡ some_of left (parts_of xs)
  lines_judged [] = refl
  lines_judged (x ∷ xs) = rw (by_causes x.part.outer (why x.part.closed x.part.line) x.part.closed x.part.line, lines_judged xs) refl

-- a shape's lines that are reported as dropped are those that what is left of it lacks
pub leaves_out : (lines : List Stroke) (t limit : ℕ) (s : Shape) → LeavesOutWhatIsReported lines t limit s
leaves_out lines t limit s =
    let why = own_cause lines t limit in
    let given = rebuilt lines t in
    record {
      judged = map (moved (judge why given)) (placed Point (List Point) why s);
      all = lines_and_rings_judged why given (placed Point (List Point) why s) ∙ are_lines_and_rings Point (List Point) why s;
      reported = causes_judged why given (placed Point (List Point) why s) ∙ are_omitted Point (List Point) why s;
      left = lines_judged why given (placed Point (List Point) why s) ∙ ap (some_of (left why given)) (are_droppable_lines Point (List Point) why s)
          ∙ sym (lines_and_rings_left (λ p. p) (kept why given) (why true) (matches why given) s);
    }
