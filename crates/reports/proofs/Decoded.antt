-- The positions that an object is decoded to, counted part by part.
use Rattle.std.proofs.Common.{◌≡◌, ◌∙◌, ◌+◌, ◌-◌, ◌<◌, ◌≤◌, ◌⊎◌, inl, inr, ℕ, zero, suc, ℤ, pos, negsuc, Bool, true, false, List, [], ◌∷◌, Option, None, Some, length, map, take, sym, ap, ap₂, max, drop, get_or, refl, arith, length-append}
use Rattle.std.proofs.lemmas.List.{length-reverse, length-map, take_all}
use Rattle.std.specs.Prelude.{sum_by}
use Rattle.std.proofs.lemmas.List.Sums.{sum_by-cons}
use Rattle.std.proofs.lemmas.Option.{slice_get_past, slice_get_read}
use Rattle.std.specs.List.{slice_get}
use Rattle.byte_ends.specs.Ends.{saturated}
use Rattle.geometry.specs.declared.shape.Geometry.TheVariants as g
use Rattle.geometry.specs.Joins.{arc_at, at, joined_after_first, number_of, or_empty, stitched}
use Rattle.geometry.specs.Lists.{joined, some_of, tail, then_some, unless_empty, with_some}
use Rattle.geometry.specs.Points.{Point}
use Rattle.geometry.specs.Pruning.{area_by}
use Rattle.geometry.specs.Shapes.{Shape}
use Rattle.geometry.proofs.ByKind.{points_at}
use Rattle.geometry.proofs.Cases.{prune-area, prune-areas, prune-group, prune-line, prune-lines, prune-point, prune-points}
use Rattle.geojson_types.specs.Places.{features_points, option_points, shape_points}
use Rattle.owned_values.proofs.Lists.{joined_append}
use Rattle.topojson_types.specs.declared.feature.TopoFeature.{TopoFeature}
use Rattle.topojson_types.specs.declared.transform.Transform.{Transform}
use Rattle.topojson_types.specs.Decoding.{completed, decoded_feature, decoded_line, decoded_shape, placed_arcs, repeated}
use Rattle.topojson_types.specs.Topologies.{Contents, TopoShape}
use Rattle.topojson_types.specs.Transforms.{place, place_on}
use Rattle.reports.specs.Positions.{feature_length, line_length, shape_length}

-- ---- an arc

length_at : (f : Point → Point) (arcs : List (List Point)) (i : ℕ) → length (or_empty (at (map (map f) arcs) i)) ≡ length (or_empty (at arcs i))
length_at f [] i = refl
length_at f (a ∷ arcs) zero = length-map a f
length_at f (a ∷ arcs) (suc i) = length_at f arcs i

placed_length : (tr : Option Transform) (arcs : List (List Point)) (i : ℕ) → length (or_empty (at (placed_arcs tr arcs) i)) ≡ length (or_empty (at arcs i))
placed_length None arcs i = refl
placed_length (Some t) arcs i = length_at (place_on t) arcs i

at_got : (arcs : List (List Point)) (i : ℕ) → at arcs i ≡ slice_get arcs i
at_got [] i = refl
at_got (a ∷ arcs) zero = refl
at_got (a ∷ arcs) (suc i) = at_got arcs i

of_number : (tr : Option Transform) (arcs : List (List Point)) (i : ℕ) → length (or_empty (at (placed_arcs tr arcs) i)) ≡ length (or_empty (slice_get arcs i))
of_number tr arcs i = placed_length tr arcs i ∙ ap (λ o. length (or_empty o)) (at_got arcs i)

arc_length : (tr : Option Transform) (arcs : List (List Point)) (r : ℤ) → length (arc_at (placed_arcs tr arcs) r) ≡ length (or_empty (slice_get arcs (number_of r)))
unfolding number_of
arc_length tr arcs (pos i) = of_number tr arcs i
arc_length tr arcs (negsuc i) = length-reverse (or_empty (at (placed_arcs tr arcs) i)) ∙ of_number tr arcs i

pub no_arc : (tr : Option Transform) (arcs : List (List Point)) (r : ℤ) (i : ℕ) → i ≡ number_of r → length arcs ≤ i → 0 ≡ length (arc_at (placed_arcs tr arcs) r)
no_arc tr arcs r i e past =
    sym (arc_length tr arcs r ∙ ap (λ n. length (or_empty (slice_get arcs n))) (sym e) ∙ ap (λ o. length (or_empty o)) (slice_get_past arcs i past))

pub arc_is : (tr : Option Transform) (arcs : List (List Point)) (r : ℤ) (i n : ℕ) (cells : List Point) → i ≡ number_of r → i < length arcs → cells ≡ get_or arcs i cells → n ≡ length cells
    → n ≡ length (arc_at (placed_arcs tr arcs) r)
arc_is tr arcs r i n cells e within here is =
    is ∙ sym (arc_length tr arcs r ∙ ap (λ k. length (or_empty (slice_get arcs k))) (sym e) ∙ ap (λ o. length (or_empty o)) (slice_get_read arcs (length arcs) i cells refl within here))

-- ---- a line or a ring

length_tail : (ps : List Point) → length (tail ps) ≡ length ps - 1
length_tail [] = refl
length_tail (p ∷ ps) = omega arith

length_after : (arc : ℤ → List Point) (refs : List ℤ) → length (joined_after_first (map arc refs)) ≡ sum_by (λ r. length (arc r) - 1) refs
length_after arc [] = refl
length_after arc (r ∷ refs) =
    length-append (tail (arc r)) (joined_after_first (map arc refs))
    ∙ ap₂ (λ m n. m + n) (length_tail (arc r)) (length_after arc refs) ∙ sym (sum_by-cons (λ x. length (arc x) - 1) r refs)

stitched_length : (arc : ℤ → List Point) (r : ℤ) (refs : List ℤ) → length (stitched (map arc (r ∷ refs))) ≡ length (arc r) + sum_by (λ x. length (arc x) - 1) refs
stitched_length arc r refs = length-append (arc r) (joined_after_first (map arc refs)) ∙ ap (λ n. length (arc r) + n) (length_after arc refs)

pub stitched_is : (arc : ℤ → List Point) (refs later : List ℤ) (r : ℤ) (m n k : ℕ) → 1 ≤ length refs → r ≡ get_or refs 0 r → later ≡ take (length refs - 1) (drop 1 refs)
    → m ≡ length (arc r) → n ≡ saturated (sum_by (λ x. length (arc x) - 1) later) → k ≡ saturated (m + n) → k ≡ saturated (length (stitched (map arc refs)))
stitched_is arc [] later r m n k some here rest e f g = absurd (omega (arith, some))
stitched_is arc (x ∷ refs) later r m n k some here rest e f g =
    let all = stitched_length arc x refs in
    let first : length (arc r) ≡ length (arc x) = ap (λ q. length (arc q)) here in
    let more : sum_by (λ y. length (arc y) - 1) later ≡ sum_by (λ y. length (arc y) - 1) refs = ap (sum_by (λ y. length (arc y) - 1)) (rest ∙ take_all (length (x ∷ refs) - 1) refs (omega arith)) in
    omega (arith, e, f, g, all, first, more)

length_repeated : (n : ℕ) (p : Point) → length (repeated n p) ≡ n
length_repeated zero p = refl
length_repeated (suc n) p = ap suc (length_repeated n p)

-- a ring is filled up
pub ring_is : (ps : List Point) (closed : Bool) (count n : ℕ) → closed ≡ true → count ≡ saturated (length ps) → 0 < count → n ≡ max count 4 → n ≡ saturated (length (completed closed ps))
ring_is ps false count n c e h is = absurd cc
ring_is [] true count n c e h is = absurd (omega (arith, e, h))
ring_is (p ∷ ps) true count n c e h is =
    let fills = length-append (p ∷ ps) (repeated (4 - length (p ∷ ps)) p) in
    let more = length_repeated (4 - length (p ∷ ps)) p in
    omega (arith, e, h, is, fills, more)

-- an open line stays, and so does nothing
pub line_is : (ps : List Point) (closed : Bool) (count : ℕ) → (closed ≡ false) ⊎ (count ≤ 0) → count ≡ saturated (length ps) → count ≡ saturated (length (completed closed ps))
line_is ps false count h e = e
line_is [] true count h e = e
line_is (p ∷ ps) true count (inl c) e = absurd cc
line_is (p ∷ ps) true count (inr h) e = absurd (omega (arith, e, h))

-- ---- a shape

joined_length : {A : Type 0} (f : A → List Point) (xs : List A) → length (joined (map f xs)) ≡ sum_by (λ x. length (f x)) xs
joined_length f [] = refl
joined_length f (x ∷ xs) = length-append (f x) (joined (map f xs)) ∙ ap (λ n. length (f x) + n) (joined_length f xs) ∙ sym (sum_by-cons (λ y. length (f y)) x xs)

given_length : {A : Type 0} (f : A → List Point) (xs : List A) → length (joined (some_of (λ x. Some (f x)) xs)) ≡ sum_by (λ x. length (f x)) xs
given_length f [] = refl
given_length f (x ∷ xs) = length-append (f x) (joined (some_of (λ y. Some (f y)) xs)) ∙ ap (λ n. length (f x) + n) (given_length f xs) ∙ sym (sum_by-cons (λ y. length (f y)) x xs)

areas_length : {A : Type 0} (f : A → List Point) (xss : List (List A)) → length (joined (joined (some_of (area_by (λ x. Some (f x))) xss))) ≡ sum_by (λ xs. sum_by (λ x. length (f x)) xs) xss
areas_length f [] = refl
areas_length f ([] ∷ xss) = let none = sum_by-cons (λ xs. sum_by (λ x. length (f x)) xs) [] xss in areas_length f xss ∙ omega (arith, none)
areas_length f ((x ∷ xs) ∷ xss) =
    let rings = some_of (λ y. Some (f y)) (x ∷ xs) in
    let more = joined (some_of (area_by (λ y. Some (f y))) xss) in
    ap length (joined_append rings more) ∙ length-append (joined rings) (joined more)
    ∙ ap₂ (λ m n. m + n) (given_length f (x ∷ xs)) (areas_length f xss) ∙ sym (sum_by-cons (λ ys. sum_by (λ y. length (f y)) ys) (x ∷ xs) xss)

of_lines : (xs : List (List Point)) → option_points (unless_empty g.Lines xs) ≡ joined xs
of_lines [] = refl
of_lines (x ∷ xs) = points_at.lines (x ∷ xs)

of_areas : (xss : List (List (List Point))) → option_points (unless_empty g.Areas xss) ≡ joined (joined xss)
of_areas [] = refl
of_areas (xs ∷ xss) = points_at.areas (xs ∷ xss)

module _ (t : Contents) where
  abbrev lies : Point → Point
  lies = place t.transform

  abbrev drawn : Bool → List ℤ → List Point
  drawn closed refs = decoded_line (placed_arcs t.transform t.arcs) closed refs

  abbrev kept : Bool → List ℤ → Option (List Point)
  kept closed refs = Some (drawn closed refs)

  abbrev shown : TopoShape → Option Shape
  shown s = decoded_shape lies (placed_arcs t.transform t.arcs) s

  abbrev points : Option Shape → ℕ
  points o = length (option_points o)

  pub point_length : (p : Point) → shape_length t (g.Point p) ≡ 1
  point_length p = ap points (prune-point lies kept p) ∙ ap length (points_at.point (lies p))

  pub points_length : (ps : List Point) → shape_length t (g.MultiPoint ps) ≡ length ps
  points_length ps = ap points (prune-points lies kept ps) ∙ ap length (points_at.points (map lies ps)) ∙ length-map ps lies

  pub one_length : (refs : List ℤ) → shape_length t (g.Line refs) ≡ line_length t false refs
  one_length refs = ap points (prune-line lies kept refs) ∙ ap length (points_at.line (drawn false refs))

  pub lines_length : (ls : List (List ℤ)) → shape_length t (g.Lines ls) ≡ sum_by (line_length t false) ls
  lines_length ls = ap points (prune-lines lies kept ls) ∙ ap length (of_lines (some_of (kept false) ls)) ∙ given_length (drawn false) ls

  pub area_length : (rs : List (List ℤ)) → shape_length t (g.Area rs) ≡ sum_by (line_length t true) rs
  area_length [] = ap points (prune-area lies kept [])
  area_length (r ∷ rs) = ap points (prune-area lies kept (r ∷ rs)) ∙ ap length (points_at.area (some_of (kept true) (r ∷ rs))) ∙ given_length (drawn true) (r ∷ rs)

  pub polygons_length : (rss : List (List (List ℤ))) → shape_length t (g.Areas rss) ≡ sum_by (λ rs. sum_by (line_length t true) rs) rss
  polygons_length rss = ap points (prune-areas lies kept rss) ∙ ap length (of_areas (some_of (area_by (kept true)) rss)) ∙ areas_length (drawn true) rss

  members_length : (ss : List TopoShape) → length (joined (map shape_points (some_of shown ss))) ≡ sum_by (shape_length t) ss
  members_length [] = refl
  members_length (s ∷ ss) = go (shown s) ∙ ap (λ n. shape_length t s + n) (members_length ss) ∙ sym (sum_by-cons (shape_length t) s ss)
    where
      go : (o : Option Shape) → length (joined (map shape_points (with_some o (some_of shown ss)))) ≡ points o + length (joined (map shape_points (some_of shown ss)))
      go None = omega arith
      go (Some d) = length-append (shape_points d) (joined (map shape_points (some_of shown ss)))

  pub group_length : (ss : List TopoShape) → shape_length t (g.Group ss) ≡ sum_by (shape_length t) ss
  group_length ss = ap points (prune-group lies kept ss) ∙ ap length (points_at.group (some_of shown ss)) ∙ members_length ss

  -- a shape of this kind
  pub of_kind : (s k : TopoShape) (n m : ℕ) → s ≡ k → shape_length t k ≡ n → m ≡ saturated n → m ≡ saturated (shape_length t s)
  of_kind s k n m is at e = e ∙ ap saturated (sym (ap (shape_length t) is ∙ at))

  -- ---- features

  pub features_length : (fs : List TopoFeature) → length (features_points (map (decoded_feature lies (placed_arcs t.transform t.arcs)) fs)) ≡ sum_by (feature_length t) fs
  features_length [] = refl
  features_length (f ∷ fs) =
      let made = map (decoded_feature lies (placed_arcs t.transform t.arcs)) fs in
      length-append (option_points (then_some shown f.shape)) (features_points made)
      ∙ ap (λ n. feature_length t f + n) (features_length fs) ∙ sym (sum_by-cons (feature_length t) f fs)
