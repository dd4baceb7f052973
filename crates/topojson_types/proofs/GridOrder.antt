-- What numbers of a grid stand for is in their order, or in the other.
use Rattle.std.proofs.Common.{◌≡◌, ◌⊎◌, inl, inr, ℕ, zero, suc, ◌≤◌, lit≤, Bool, true, false, if◌then◌else◌, ℤ, pos, negsuc, ◌+ℤ◌, ◌*ℤ◌, ◌≤ℤ◌, unsigned_abs, List, [], ◌∷◌, map, Option, None, Some, refl, sym, subst, ap, ◌∙◌, arith}
use Rattle.std.proofs.Math.IntN.{neg_ℤ, *ℤ_comm, zero-*ℤ, suc_ℤ-*ℤ, pred_ℤ-*ℤ}
use Rattle.std.proofs.lemmas.Int.{by_lt_z, ints, clamps}
use Rattle.std.proofs.lemmas.Bool.Decides.{nat_tests}
use Rattle.std.specs.Int.{int_min, int_max}
use Rattle.std.specs.List.{AllByRecursion, fold}
use Rattle.std.specs.Option.{is_some}
use Rattle.owned_values.proofs.Elements.{all_weaker}
use Rattle.decimal_text.specs.Rounding.{nearest}
use Rattle.geometry.specs.Lists.{joined}
use Rattle.geometry.specs.Points.{Point, IsWithin, IsPosition}
use Rattle.geometry.specs.Units.{fine_units, position_limit}
use Rattle.topojson_types.specs.declared.transform.Transform.{Transform}
use Rattle.topojson_types.specs.Bounds.{Corners, bounds, box}
use Rattle.topojson_types.specs.Topologies.{Contents}
use Rattle.topojson_types.specs.Transforms.{grid_limit, is_within, place, placed, place_on, PlacesAll}
use Rattle.topojson_types.specs.TransformNumbers.{or_zero, stands_for, to_units, transform_value}
use Rattle.topojson_types.specs.Validity.{IsPlace, IsTopology, objects_places}
use Rattle.topojson_types.specs.Widening.{widened, widened_by}
use Rattle.topojson_types.proofs.Boxes.{cells_of, cells_there, found}
use Rattle.topojson_types.proofs.Grids.{is_within-both}

times_more : (n : ℕ) (a b : ℤ) → a ≤ℤ b → (pos n *ℤ a) ≤ℤ (pos n *ℤ b)
times_more zero a b h = omega (arith, ints, zero-*ℤ a, zero-*ℤ b)
times_more (suc n) a b h = omega (arith, ints, suc_ℤ-*ℤ (pos n) a, suc_ℤ-*ℤ (pos n) b, times_more n a b h, h)

times_less : (n : ℕ) (a b : ℤ) → a ≤ℤ b → (negsuc n *ℤ b) ≤ℤ (negsuc n *ℤ a)
times_less zero a b h = omega (arith, ints, pred_ℤ-*ℤ (pos zero) a, pred_ℤ-*ℤ (pos zero) b, zero-*ℤ a, zero-*ℤ b, h)
times_less (suc n) a b h = omega (arith, ints, pred_ℤ-*ℤ (negsuc n) a, pred_ℤ-*ℤ (negsuc n) b, times_less n a b h, h)

nearest_rises : (m n : ℕ) → m ≤ n → nearest m fine_units ≤ nearest n fine_units
nearest_rises m n h = omega (arith, h)

units_above : (n : ℕ) → to_units (pos n) ≡ pos (nearest n fine_units)
unfolding to_units
units_above n = grind (arith, ints)

units_under : (n : ℕ) → to_units (negsuc n) ≡ neg_ℤ (pos (nearest (suc n) fine_units))
unfolding to_units
units_under n = grind (arith, ints)

rises : (m n : ℤ) → m ≤ℤ n → to_units m ≤ℤ to_units n
rises (pos m) (pos n) h = rw (units_above m, units_above n) (omega (arith, ints, nearest_rises m n (omega (arith, ints, h))))
rises (pos m) (negsuc n) h = absurd (omega (arith, ints, h))
rises (negsuc m) (pos n) h = rw (units_under m, units_above n) (omega (arith, ints))
rises (negsuc m) (negsuc n) h = rw (units_under m, units_under n) (omega (arith, ints, nearest_rises (suc n) (suc m) (omega (arith, ints, h))))

-- ---- a number of the grid

abbrev InOrder : (ℤ → ℤ) → Type 0
InOrder f = ((a b : ℤ) → a ≤ℤ b → f a ≤ℤ f b) ⊎ ((a b : ℤ) → a ≤ℤ b → f b ≤ℤ f a)

in_order_by : (scale translate : ℤ) → InOrder (λ k. to_units ((k *ℤ scale) +ℤ translate))
in_order_by (pos n) translate = inl (λ a b h. rises _ _ (omega (arith, ints, *ℤ_comm a (pos n), *ℤ_comm b (pos n), times_more n a b h)))
in_order_by (negsuc n) translate = inr (λ a b h. rises _ _ (omega (arith, ints, *ℤ_comm a (negsuc n), *ℤ_comm b (negsuc n), times_less n a b h)))

in_order : (scale translate : List ℕ) → InOrder (stands_for scale translate)
unfolding stands_for
in_order scale translate = in_order_by (or_zero (transform_value scale)) (or_zero (transform_value translate))

-- ---- the least and the greatest of numbers in order

module _ (f : ℤ → ℤ) (order : InOrder f) where
  sorted : (a b c : ℤ) → a ≤ℤ b → b ≤ℤ c → ((f a ≤ℤ f b) × (f b ≤ℤ f c)) ⊎ ((f b ≤ℤ f a) × (f c ≤ℤ f b))
  sorted a b c h k = elim order [
    | inl up ↦ inl (up a b h, up b c k)
    | inr down ↦ inr (down a b h, down b c k)
  ]

  abbrev Widens : ℤ → ℤ → ℤ → Type 0
  Widens lo hi y =
      (int_min (int_min (f lo) (f hi)) (f y) ≡ int_min (f (int_min lo y)) (f (int_max hi y)))
      × (int_max (int_max (f lo) (f hi)) (f y) ≡ int_max (f (int_min lo y)) (f (int_max hi y)))

  widens : (lo hi y : ℤ) → lo ≤ℤ hi → Widens lo hi y
  widens lo hi y h =
      by_lt_z y lo
      (λ under.
      let one : int_min lo y ≡ y = omega (arith, ints, clamps, under) in
      let two : int_max hi y ≡ hi = omega (arith, ints, clamps, under, h) in
      elim (sorted y lo hi (omega (arith, ints, under)) h) [
        | inl s ↦ rw (one, two) (omega (arith, ints, clamps, s.0, s.1), omega (arith, ints, clamps, s.0, s.1))
        | inr s ↦ rw (one, two) (omega (arith, ints, clamps, s.0, s.1), omega (arith, ints, clamps, s.0, s.1))
      ])
      (λ above. by_lt_z hi y
      (λ over.
      let one : int_min lo y ≡ lo = omega (arith, ints, clamps, above) in
      let two : int_max hi y ≡ y = omega (arith, ints, clamps, over) in
      elim (sorted lo hi y h (omega (arith, ints, over))) [
        | inl s ↦ rw (one, two) (omega (arith, ints, clamps, s.0, s.1), omega (arith, ints, clamps, s.0, s.1))
        | inr s ↦ rw (one, two) (omega (arith, ints, clamps, s.0, s.1), omega (arith, ints, clamps, s.0, s.1))
      ])
      (λ within.
      let one : int_min lo y ≡ lo = omega (arith, ints, clamps, above) in
      let two : int_max hi y ≡ hi = omega (arith, ints, clamps, within) in
      elim (sorted lo y hi above within) [
        | inl s ↦ rw (one, two) (omega (arith, ints, clamps, s.0, s.1), omega (arith, ints, clamps, s.0, s.1))
        | inr s ↦ rw (one, two) (omega (arith, ints, clamps, s.0, s.1), omega (arith, ints, clamps, s.0, s.1))
      ]))

  -- over what some of each cell of a list is, where the other way is what it lies at
  module _ (part lies : Point → ℤ) (at : Point → Point) (same : (c : Point) → lies (at c) ≡ f (part c)) where
    abbrev Least : ℤ → ℤ → ℤ → ℤ → List Point → Type 0
    Least lo hi p q cs =
        (fold int_min p (map lies (map at cs)) ≡ int_min (f (fold int_min lo (map part cs))) (f (fold int_max hi (map part cs))))
        × (fold int_max q (map lies (map at cs)) ≡ int_max (f (fold int_min lo (map part cs))) (f (fold int_max hi (map part cs))))

    ends_lie : (lo hi p q : ℤ) (cs : List Point) → lo ≤ℤ hi → p ≡ int_min (f lo) (f hi) → q ≡ int_max (f lo) (f hi) → Least lo hi p q cs
    ends_lie lo hi p q [] h e g = (e, g)
    ends_lie lo hi p q (c ∷ cs) h e g =
        let w = widens lo hi (part c) h in
        ends_lie (int_min lo (part c)) (int_max hi (part c)) (int_min p (lies (at c))) (int_max q (lies (at c))) cs (omega (arith, ints, clamps, h)) (rw (same c, e) w.0) (rw (same c, g) w.1)

    all_lie : (c : Point) (cs : List Point) → Least (part c) (part c) (lies (at c)) (lies (at c)) cs
    all_lie c cs = ends_lie (part c) (part c) (lies (at c)) (lies (at c)) cs (omega (arith, ints)) (rw (same c) (omega (arith, ints, clamps))) (rw (same c) (omega (arith, ints, clamps)))

-- ---- where the corners of the grid lie at positions, each of its cells does

within_ends : (f : ℤ → ℤ) (order : InOrder f) (bound limit : ℕ) (k : ℤ) → unsigned_abs k ≤ bound
    → unsigned_abs (f (neg_ℤ (pos bound))) ≤ limit → unsigned_abs (f (pos bound)) ≤ limit → unsigned_abs (f k) ≤ limit
within_ends f order bound limit k h least greatest =
    elim (sorted f order (neg_ℤ (pos bound)) k (pos bound) (omega (arith, ints, h)) (omega (arith, ints, h))) [
      | inl s ↦ omega (arith, ints, s.0, s.1, least, greatest)
      | inr s ↦ omega (arith, ints, s.0, s.1, least, greatest)
    ]

abbrev pub least_corner : Point
least_corner = record { x = neg_ℤ (pos grid_limit); y = neg_ℤ (pos grid_limit) }

abbrev pub greatest_corner : Point
greatest_corner = record { x = pos grid_limit; y = pos grid_limit }

all_between : (t : Transform) → IsPosition (place_on t least_corner) → IsPosition (place_on t greatest_corner) → PlacesAll t
unfolding place_on
all_between t least greatest c h = (
  within_ends (stands_for t.scale.0 t.translate.0) (in_order t.scale.0 t.translate.0) grid_limit position_limit c.x h.0 least.0 greatest.0,
  within_ends (stands_for t.scale.1 t.translate.1) (in_order t.scale.1 t.translate.1) grid_limit position_limit c.y h.1 least.1 greatest.1,
)

is_some_if : (b : Bool) (p : Point) → is_some (if b then Some p else None) ≡ b
is_some_if true p = refl
is_some_if false p = refl

lies : (t : Transform) (c : Point) → is_some (placed (Some t) c) ≡ is_within position_limit (place_on t c)
unfolding placed
lies t c = is_some_if (is_within position_limit (place_on t c)) (place_on t c)

both_within : (bound : ℕ) (p : Point) → is_within bound p ≡ true → IsWithin bound p
unfolding is_within
both_within bound p h = (grind (arith, nat_tests, h), grind (arith, nat_tests, h))

module _ (t : Transform) (least greatest : Option Point) (first : least ≡ placed (Some t) least_corner) (second : greatest ≡ placed (Some t) greatest_corner) where
  pub all_by_corners : is_some least ≡ true → is_some greatest ≡ true → PlacesAll t
  all_by_corners h k =
      all_between t
      (both_within position_limit (place_on t least_corner) (sym (ap is_some first ∙ lies t least_corner) ∙ h))
      (both_within position_limit (place_on t greatest_corner) (sym (ap is_some second ∙ lies t greatest_corner) ∙ k))

  pub corners_by_all : PlacesAll t → (is_some least ≡ true) × (is_some greatest ≡ true)
  corners_by_all all =
      let low = all least_corner (lit≤ tt, lit≤ tt) in
      let high = all greatest_corner (lit≤ tt, lit≤ tt) in (
        ap is_some first ∙ (lies t least_corner ∙ is_within-both position_limit (place_on t least_corner) low.0 low.1),
        ap is_some second ∙ (lies t greatest_corner ∙ is_within-both position_limit (place_on t greatest_corner) high.0 high.1),
      )

-- ---- the box of where cells lie, by the box of the cells

-- the box of two places
abbrev placed_box : Option Transform → Option Corners → Option Corners
placed_box transform None = None
placed_box transform (Some b) = Some (widened (Some (place transform b.0, place transform b.0)) (place transform b.1))

axis_x : Option Transform → ℤ → ℤ
axis_x None = λ k. k
axis_x (Some t) = stands_for t.scale.0 t.translate.0

axis_y : Option Transform → ℤ → ℤ
axis_y None = λ k. k
axis_y (Some t) = stands_for t.scale.1 t.translate.1

order_x : (transform : Option Transform) → InOrder (axis_x transform)
unfolding axis_x
order_x None = inl (λ a b h. h)
order_x (Some t) = in_order t.scale.0 t.translate.0

order_y : (transform : Option Transform) → InOrder (axis_y transform)
unfolding axis_y
order_y None = inl (λ a b h. h)
order_y (Some t) = in_order t.scale.1 t.translate.1

lies_x : (transform : Option Transform) (c : Point) → (place transform c).x ≡ axis_x transform c.x
unfolding place_on axis_x
lies_x None c = refl
lies_x (Some t) c = refl

lies_y : (transform : Option Transform) (c : Point) → (place transform c).y ≡ axis_y transform c.y
unfolding place_on axis_y
lies_y None c = refl
lies_y (Some t) c = refl

box_of_places : (transform : Option Transform) (cs : List Point) → box (map (place transform) cs) ≡ placed_box transform (box cs)
box_of_places transform [] = refl
box_of_places transform (c ∷ cs) =
    let x = all_lie (axis_x transform) (order_x transform) (λ c. c.x) (λ c. c.x) (place transform) (lies_x transform) c cs in
    let y = all_lie (axis_y transform) (order_y transform) (λ c. c.y) (λ c. c.y) (place transform) (lies_y transform) c cs in
    let lo : Point = record { x = fold int_min c.x (map (λ c. c.x) cs); y = fold int_min c.y (map (λ c. c.y) cs) } in
    let hi : Point = record { x = fold int_max c.x (map (λ c. c.x) cs); y = fold int_max c.y (map (λ c. c.y) cs) } in
    rw (x.0, x.1, y.0, y.1, ← lies_x transform lo, ← lies_x transform hi, ← lies_y transform lo, ← lies_y transform hi) refl

-- ---- its corners may stand where the cells do

either : (P : ℤ → Type 0) (a b : ℤ) → P a → P b → P (int_min a b) × P (int_max a b)
either P a b h k =
    by_lt_z a b
    (λ under. (subst P (omega (arith, ints, clamps, under)) h, subst P (omega (arith, ints, clamps, under)) k))
    (λ above. (subst P (omega (arith, ints, clamps, above)) k, subst P (omega (arith, ints, clamps, above)) h))

either_of_all : (P : ℤ → Type 0) (part : Point → ℤ) (lo hi : ℤ) (cs : List Point) → P lo → P hi → AllByRecursion (λ c. P (part c)) cs
    → P (fold int_min lo (map part cs)) × P (fold int_max hi (map part cs))
either_of_all P part lo hi [] h k all = (h, k)
either_of_all P part lo hi (c ∷ cs) h k all =
    either_of_all P part (int_min lo (part c)) (int_max hi (part c)) cs (either P lo (part c) h all.0).0 (either P hi (part c) k all.0).1 all.1

stands_x : Option Transform → ℤ → Type 0
stands_x None k = unsigned_abs k ≤ position_limit
stands_x (Some t) k = (unsigned_abs k ≤ grid_limit) × (unsigned_abs (stands_for t.scale.0 t.translate.0 k) ≤ position_limit)

stands_y : Option Transform → ℤ → Type 0
stands_y None k = unsigned_abs k ≤ position_limit
stands_y (Some t) k = (unsigned_abs k ≤ grid_limit) × (unsigned_abs (stands_for t.scale.1 t.translate.1 k) ≤ position_limit)

by_axes : (transform : Option Transform) (c : Point) → IsPlace transform c → stands_x transform c.x × stands_y transform c.y
unfolding place_on stands_x stands_y
by_axes None c h = h
by_axes (Some t) c h = ((h.0.0, h.1.0), (h.0.1, h.1.1))

both_axes : (transform : Option Transform) (c : Point) → stands_x transform c.x → stands_y transform c.y → IsPlace transform c
unfolding place_on stands_x stands_y
both_axes None c h k = (h, k)
both_axes (Some t) c h k = ((h.0, k.0), (h.1, k.1))

-- both corners, if there are any
abbrev Stand : Option Transform → Option Corners → Type 0
Stand transform None = Unit {0}
Stand transform (Some b) = IsPlace transform b.0 × IsPlace transform b.1

corners_of : (transform : Option Transform) (c : Point) (cs : List Point) (b : Corners) → box (c ∷ cs) ≡ Some b → AllByRecursion (IsPlace transform) (c ∷ cs) → IsPlace transform b.0 × IsPlace transform b.1
corners_of transform c cs b is all =
    let at = by_axes transform c all.0 in
    let x = either_of_all (stands_x transform) (λ c. c.x) c.x c.x cs at.0 at.0 (all_weaker (IsPlace transform) (λ c. stands_x transform c.x) (λ c h. (by_axes transform c h).0) cs all.1) in
    let y = either_of_all (stands_y transform) (λ c. c.y) c.y c.y cs at.1 at.1 (all_weaker (IsPlace transform) (λ c. stands_y transform c.y) (λ c h. (by_axes transform c h).1) cs all.1) in
    let lo : Point = record { x = fold int_min c.x (map (λ c. c.x) cs); y = fold int_min c.y (map (λ c. c.y) cs) } in
    let hi : Point = record { x = fold int_max c.x (map (λ c. c.x) cs); y = fold int_max c.y (map (λ c. c.y) cs) } in
    subst (Stand transform) is (both_axes transform lo x.0 y.0, both_axes transform hi x.1 y.1)

corners_stand : (transform : Option Transform) (cs : List Point) (b : Corners) → box cs ≡ Some b → AllByRecursion (IsPlace transform) cs → IsPlace transform b.0 × IsPlace transform b.1
corners_stand transform [] b is all = absurd cc
corners_stand transform (c ∷ cs) b is all = corners_of transform c cs b is all

-- ---- of a topology

module _ (t : Contents) (is : IsTopology t) (arcs all : Option Corners) (e : arcs ≡ widened_by None (joined t.arcs)) (f : all ≡ widened_by arcs (objects_places t.objects)) where
  by_box : bounds t ≡ placed_box t.transform all
  unfolding bounds
  by_box = box_of_places t.transform (cells_of t) ∙ ap (placed_box t.transform) (sym (found t arcs all e f))

  pub no_bounds : all ≡ None → None ≡ bounds t
  no_bounds none = sym (by_box ∙ ap (placed_box t.transform) none)

  module _ (b : Corners) (some : all ≡ Some b) where
    pub corners_there : IsPlace t.transform b.0 × IsPlace t.transform b.1
    corners_there = corners_stand t.transform (cells_of t) b (sym (found t arcs all e f) ∙ some) (cells_there t is)

    pub bounds_by : bounds t ≡ Some (widened (Some (place t.transform b.0, place t.transform b.0)) (place t.transform b.1))
    bounds_by = by_box ∙ ap (placed_box t.transform) some
