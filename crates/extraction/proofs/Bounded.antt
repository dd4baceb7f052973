-- The bounds of features, of which the Points are looked at first and the lines and rings afterwards.
use Rattle.std.proofs.Common.{◌≡◌, ℕ, zero, suc, ℤ, ◌≤ℤ◌, Bool, true, false, List, [], ◌∷◌, ◌++◌, map, Option, None, Some, get_or, slice_get, refl, sym, ap, ◌∙◌, arith, append-nil}
use Rattle.std.proofs.lemmas.Int.{ints, clamps}
use Rattle.std.proofs.lemmas.List.{map-append}
use Rattle.std.specs.Int.{int_min, int_max}
use Rattle.std.specs.List.{AllByRecursion}
use Rattle.owned_values.proofs.Lists.{joined_append}
use Rattle.geojson_types.specs.Features.{Featured, Shape}
use Rattle.geojson_types.specs.Places.{features_points, option_points, shape_points}
use Rattle.geometry.specs.declared.shape.Geometry.TheVariants as g
use Rattle.geometry.specs.Lists.{joined, map_some}
use Rattle.geometry.specs.Points.{Point}
use Rattle.geometry.specs.Pruning.{lines_and_rings, option_lines_and_rings}
use Rattle.geometry.proofs.ByKind.{points_at}
use Rattle.geometry.proofs.Cases.{lines_and_rings_at}
use Rattle.geometry.proofs.Induction.{by_kinds}
use Rattle.grid_snap.specs.declared.bounds.Bounds.{Bounds}
use Rattle.grid_snap.specs.Bounds.{widened, widened_by}
use Rattle.grid_snap.proofs.Widening.{in_turn, widened-append}
use Rattle.topojson_types.specs.Bounds.{Corners}
use Rattle.topojson_types.specs.Topologies.{TopoShape}
use Rattle.topojson_types.specs.Validity.{features_places, option_places, places}
use Rattle.topojson_types.specs.Widening as box
use Rattle.topojson_types.proofs.ByKind.{places_at}
use Rattle.extraction.specs.Extracts.{feature_relined, no_refs, relined}
use Rattle.linework.specs.Outlines.{features_lines_and_rings}
use Rattle.extraction.proofs.Relined.{relined_at}

-- ---- two corners in the place of all

abbrev pub with_box : Option Bounds → Option Corners → Option Bounds
with_box b None = b
with_box b (Some c) = Some (widened (Some (widened b c.0)) c.1)

-- the first is the lower one
abbrev IsBox : Corners → Type 0
IsBox c = (c.0.x ≤ℤ c.1.x) × (c.0.y ≤ℤ c.1.y)

low : (l g q : ℤ) → l ≤ℤ g → int_min (int_min l q) (int_max g q) ≡ int_min (int_min l g) q
low l g q h = omega (arith, ints, clamps, h)

high : (l g q : ℤ) → l ≤ℤ g → int_max (int_min l q) (int_max g q) ≡ int_max (int_max l g) q
high l g q h = omega (arith, ints, clamps, h)

lower : (b l g q : ℤ) → l ≤ℤ g → int_min (int_min b (int_min l q)) (int_max g q) ≡ int_min (int_min (int_min b l) g) q
lower b l g q h = omega (arith, ints, clamps, h)

higher : (b l g q : ℤ) → l ≤ℤ g → int_max (int_max b (int_min l q)) (int_max g q) ≡ int_max (int_max (int_max b l) g) q
higher b l g q h = omega (arith, ints, clamps, h)

in_order : (l g q : ℤ) → l ≤ℤ g → int_min l q ≤ℤ int_max g q
in_order l g q h = omega (arith, ints, clamps, h)

once_low : (b x : ℤ) → int_min (int_min b x) x ≡ int_min b x
once_low b x = omega (arith, ints, clamps)

once_high : (b x : ℤ) → int_max (int_max b x) x ≡ int_max b x
once_high b x = omega (arith, ints, clamps)

same_low : (x : ℤ) → int_min x x ≡ x
same_low x = omega (arith, ints, clamps)

same_high : (x : ℤ) → int_max x x ≡ x
same_high x = omega (arith, ints, clamps)

abbrev sides : ℤ → ℤ → ℤ → ℤ → Bounds
sides l r b t = record { left = l; right = r; bottom = b; top = t }

same_sides : {l r b t m s c u : ℤ} → l ≡ m → r ≡ s → b ≡ c → t ≡ u → sides l r b t ≡ sides m s c u
same_sides e f h k = rw (e, f, h, k) refl

one_point : (b : Option Bounds) (p : Point) → widened (Some (widened b p)) p ≡ widened b p
one_point None p = same_sides (same_low p.x) (same_high p.x) (same_low p.y) (same_high p.y)
one_point (Some b) p = rw (once_low b.left p.x, once_high b.right p.x, once_low b.bottom p.y, once_high b.top p.y) refl

one_more : (b : Option Bounds) (c : Corners) (q : Point) → IsBox c → with_box b (Some (box.widened (Some c) q)) ≡ Some (widened (with_box b (Some c)) q)
one_more None c q h = rw (low c.0.x c.1.x q.x h.0, high c.0.x c.1.x q.x h.0, low c.0.y c.1.y q.y h.1, high c.0.y c.1.y q.y h.1) refl
one_more (Some b) c q h = rw (lower b.left c.0.x c.1.x q.x h.0, higher b.right c.0.x c.1.x q.x h.0, lower b.bottom c.0.y c.1.y q.y h.1, higher b.top c.0.y c.1.y q.y h.1) refl

box_more : (b : Option Bounds) (c : Corners) (ps : List Point) → IsBox c → with_box b (box.widened_by (Some c) ps) ≡ widened_by (with_box b (Some c)) ps
box_more b c [] h = refl
box_more b c (q ∷ qs) h =
    box_more b (box.widened (Some c) q) qs (in_order c.0.x c.1.x q.x h.0, in_order c.0.y c.1.y q.y h.1) ∙ ap (λ w. widened_by w qs) (one_more b c q h)

pub box_serves : (b : Option Bounds) (ps : List Point) → with_box b (box.widened_by None ps) ≡ widened_by b ps
box_serves b [] = refl
box_serves b (p ∷ ps) = box_more b (p, p) ps (omega (arith, ints), omega (arith, ints)) ∙ ap (λ w. widened_by (Some w) ps) (one_point b p)

-- ---- an element that was looked up

pub got_is : {A : Type 0} (xs : List A) (i : ℕ) (x : A) → slice_get xs i ≡ Some x → x ≡ get_or xs i x
got_is [] i x e = cc
got_is (y ∷ ys) zero x e = cc
got_is (y ∷ ys) (suc i) x e = got_is ys i x e

-- ---- positions in two lists

-- what comes of all positions comes of the Points, then of those of the lines and rings
abbrev pub Splits : List Point → List Point → List Point → Type 0
Splits ps points lined = (b : Option Bounds) → widened_by b ps ≡ widened_by (widened_by b points) lined

split_append : (ps qs points more lined longer : List Point) → Splits ps points lined → Splits qs more longer → Splits (ps ++ qs) (points ++ more) (lined ++ longer)
split_append ps qs points more lined longer h k b =
    widened-append b ps qs ∙ ap (λ w. widened_by w qs) (h b) ∙ k (widened_by (widened_by b points) lined)
    ∙ ap (λ w. widened_by w longer) (in_turn (widened_by b points) lined more ∙ ap (λ w. widened_by w lined) (sym (widened-append b points more)))
    ∙ sym (widened-append (widened_by b (points ++ more)) lined longer)

splits_as : (ps qs points more lined longer : List Point) → ps ≡ qs → points ≡ more → lined ≡ longer → Splits qs more longer → Splits ps points lined
splits_as ps qs points more lined longer e f k h b =
    ap (widened_by b) e ∙ h b ∙ ap (λ cs. widened_by (widened_by b cs) longer) (sym f) ∙ ap (widened_by (widened_by b points)) (sym k)

lined_as : (ps points lined longer : List Point) → lined ≡ longer → Splits ps points longer → Splits ps points lined
lined_as ps points lined longer k h b = h b ∙ ap (widened_by (widened_by b points)) (sym k)

-- ---- lines and rings

abbrev pub positions_of : List (Bool × List Point) → List Point
positions_of bs = joined (map (λ b. b.1) bs)

positions_append : (bs cs : List (Bool × List Point)) → positions_of (bs ++ cs) ≡ positions_of bs ++ positions_of cs
positions_append bs cs = ap joined (map-append (λ b. b.1) bs cs) ∙ joined_append (map (λ b. b.1) bs) (map (λ b. b.1) cs)

of_tagged : (closed : Bool) (ls : List (List Point)) → positions_of (map (λ l. (closed, l)) ls) ≡ joined ls
of_tagged closed [] = refl
of_tagged closed (l ∷ ls) = ap (λ ps. l ++ ps) (of_tagged closed ls)

of_areas : (areas : List (List (List Point))) → positions_of (joined (map (map (λ l. (true, l))) areas)) ≡ joined (joined areas)
of_areas [] = refl
of_areas (rs ∷ areas) =
    positions_append (map (λ l. (true, l)) rs) (joined (map (map (λ l. (true, l))) areas)) ∙ ap (λ ps. ps ++ positions_of (joined (map (map (λ l. (true, l))) areas))) (of_tagged true rs)
    ∙ ap (λ ps. joined rs ++ ps) (of_areas areas) ∙ sym (joined_append rs (joined areas))

-- ---- shapes and features

abbrev left_points : Shape → List Point
left_points s = places (relined no_refs s)

abbrev taken_points : Shape → List Point
taken_points s = positions_of (lines_and_rings s)

abbrev ShapeSplits : Shape → Type 0
ShapeSplits s = Splits (shape_points s) (left_points s) (taken_points s)

by_kind : (s : Shape) (t : TopoShape) (bs : List (Bool × List Point)) (ps qs points lined : List Point) → shape_points s ≡ ps → relined no_refs s ≡ t → lines_and_rings s ≡ bs → ps ≡ qs
    → places t ≡ points → positions_of bs ≡ lined → Splits qs points lined → ShapeSplits s
by_kind s t bs ps qs points lined e f k i j l h = splits_as (shape_points s) qs (left_points s) points (taken_points s) lined (e ∙ i) (ap places f ∙ j) (ap positions_of k ∙ l) h

members_split : (ss : List Shape) → AllByRecursion ShapeSplits ss → Splits (joined (map shape_points ss)) (joined (map places (map (relined no_refs) ss))) (positions_of (joined (map lines_and_rings ss)))
members_split [] all = λ b. refl
members_split (s ∷ ss) all =
    lined_as (shape_points s ++ joined (map shape_points ss)) (left_points s ++ joined (map places (map (relined no_refs) ss))) (positions_of (lines_and_rings s ++ joined (map lines_and_rings ss)))
    (taken_points s ++ positions_of (joined (map lines_and_rings ss))) (positions_append (lines_and_rings s) (joined (map lines_and_rings ss)))
    (split_append (shape_points s) (joined (map shape_points ss)) (left_points s) (joined (map places (map (relined no_refs) ss))) (taken_points s) (positions_of (joined (map lines_and_rings ss)))
    all.0 (members_split ss all.1))

shape_splits : (s : Shape) → ShapeSplits s
shape_splits =
    let left = relined_at no_refs in
    let taken = lines_and_rings_at Point (List Point) in
    by_kinds ShapeSplits (record {
      point = λ p. by_kind (g.Point p) _ _ _ _ _ _ (points_at.point p) (left.point p) (taken.point p) refl (places_at.point p) refl (λ b. refl);
      points = λ ps. by_kind (g.MultiPoint ps) _ _ _ _ _ _ (points_at.points ps) (left.points ps) (taken.points ps) refl (places_at.points ps) refl (λ b. refl);
      line = λ l. by_kind (g.Line l) _ _ _ _ _ _ (points_at.line l) (left.line l) (taken.line l) refl (places_at.line []) (append-nil l) (λ b. refl);
      lines = λ ls. by_kind (g.Lines ls) _ _ _ _ _ _ (points_at.lines ls) (left.lines ls) (taken.lines ls) refl (places_at.lines (map (no_refs false) ls)) (of_tagged false ls) (λ b. refl);
      area = λ rs. by_kind (g.Area rs) _ _ _ _ _ _ (points_at.area rs) (left.area rs) (taken.area rs) refl (places_at.area (map (no_refs true) rs)) (of_tagged true rs) (λ b. refl);
      areas = λ areas. by_kind (g.Areas areas) _ _ _ _ _ _ (points_at.areas areas) (left.areas areas) (taken.areas areas) refl (places_at.areas (map (map (no_refs true)) areas)) (of_areas areas) (λ b. refl);
      group = λ ss all. by_kind (g.Group ss) _ _ _ _ _ _ (points_at.group ss) (left.group ss) (taken.group ss) refl (places_at.group (map (relined no_refs) ss)) refl (members_split ss all);
    })

option_splits : (o : Option Shape) → Splits (option_points o) (option_places (map_some (relined no_refs) o)) (positions_of (option_lines_and_rings o))
option_splits None = λ b. refl
option_splits (Some s) = shape_splits s

pub features_split : (fs : List Featured) → Splits (features_points fs) (features_places (map (feature_relined no_refs) fs)) (positions_of (features_lines_and_rings fs))
features_split [] = λ b. refl
features_split (f ∷ fs) =
    lined_as (option_points f.shape ++ features_points fs) (option_places (map_some (relined no_refs) f.shape) ++ features_places (map (feature_relined no_refs) fs))
    (positions_of (option_lines_and_rings f.shape ++ features_lines_and_rings fs)) (positions_of (option_lines_and_rings f.shape) ++ positions_of (features_lines_and_rings fs))
    (positions_append (option_lines_and_rings f.shape) (features_lines_and_rings fs))
    (split_append (option_points f.shape) (features_points fs) (option_places (map_some (relined no_refs) f.shape)) (features_places (map (feature_relined no_refs) fs)) (positions_of (option_lines_and_rings f.shape))
    (positions_of (features_lines_and_rings fs)) (option_splits f.shape) (features_split fs))
