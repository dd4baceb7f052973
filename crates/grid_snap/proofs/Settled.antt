-- Cells, and the positions that they lie at.
use Rattle.std.proofs.Common.{◌≡◌, ℕ, ◌+◌, ◌*◌, ◌≤◌, ℤ, pos, ◌+ℤ◌, ◌-ℤ◌, ◌≤ℤ◌, unsigned_abs, Bool, true, ◌&&◌, refl, sym, ap, subst, ◌∙◌, ◌/◌, arith, to_z, w64}
use Rattle.std.proofs.lemmas.Bool.{and_parts}
use Rattle.std.proofs.lemmas.Int.{ints}
use Rattle.decimal_text.specs.Rounding.{nearest}
use Rattle.geometry.specs.Points.{Point}
use Rattle.geometry.specs.Units.{input_limit}
use Rattle.grid_snap.specs.declared.axis.Axis.{Axis}
use Rattle.grid_snap.specs.Axes.{offset, is_on, number, coordinate, Axes, covers, cell, back, IsAxis, IsGrid, IsNumbered, count_limit, reach}
use Rattle.grid_snap.specs.Laws.{SnappedSettle, CellsAreBack, CoveredAreWithin}
use Rattle.grid_snap.proofs.Spacing.{nearest_whole, nearest_within, scaled_within}

-- ---- one direction

pub record IsOn (a : Axis) (x : ℤ) : Type 0 where
  pub following : a.first ≤ℤ x
  pub near : offset a x ≤ a.last * a.step

pub on_facts : (a : Axis) (x : ℤ) → is_on a x ≡ true → IsOn a x
on_facts a x h = unfold is_on in grind arith

pub on_from : (a : Axis) (x : ℤ) → IsOn a x → is_on a x ≡ true
on_from a x h = unfold is_on in grind arith

offset_at : (x : ℤ) (n : ℕ) → unsigned_abs ((x +ℤ pos n) -ℤ x) ≡ n
offset_at x n = omega (arith, ints)

near_at : (x : ℤ) (n m : ℕ) → n ≤ m → unsigned_abs ((x +ℤ pos n) -ℤ x) ≤ m
near_at x n m h = omega (arith, ints)

after_at : (x : ℤ) (n : ℕ) → x ≤ℤ (x +ℤ pos n)
after_at x n = omega (arith, ints)

at_on : (a : Axis) (k : ℕ) → k ≤ a.last → is_on a (coordinate a (pos k)) ≡ true
at_on a k h = grind (arith, on_from, after_at, near_at, scaled_within)

at_number : (a : Axis) (k : ℕ) → 1 ≤ a.step → number a (coordinate a (pos k)) ≡ k
at_number a k h = unfold number in ap (λ d. nearest d a.step) (offset_at a.first (k * a.step)) ∙ nearest_whole k a.step h

pub number_within : (a : Axis) (x : ℤ) → IsAxis a → is_on a x ≡ true → number a x ≤ a.last
number_within a x axis on = unfold number in nearest_within (offset a x) a.step a.last axis.apart (on_facts a x on).near

-- the number as it is computed of a distance
pub number_of_offset : (a : Axis) (x : ℤ) (d : ℕ) → d ≡ offset a x → (2 * d + a.step) / (2 * a.step) ≡ number a x
number_of_offset a x d e = unfold number in ap (λ m. nearest m a.step) e

pub offset_within : (a : Axis) (x : ℤ) → IsAxis a → is_on a x ≡ true → offset a x ≤ 2 * input_limit + count_limit
offset_within a x axis on = let e : offset a x ≤ a.last * a.step = (on_facts a x on).near in omega (arith, e, axis.length)

pub offset_is : (a : Axis) (x : ℤ) → is_on a x ≡ true → x -ℤ a.first ≡ pos (offset a x)
offset_is a x on = let e : a.first ≤ℤ x = (on_facts a x on).following in omega (arith, ints, e)

-- twice the distance of the coordinate of a number, as it is computed
pub twice_offset : (a : Axis) (x : ℤ) (k d : ℕ) → coordinate a (pos k) ≡ x → d ≡ offset a x → 2 * d ≡ k * (2 * a.step)
twice_offset a x k d there e =
    let f : offset a x ≡ k * a.step = ap (offset a) (sym there) ∙ offset_at a.first (k * a.step) in
    omega (arith, e, f)

cast_number : (n m : ℕ) → n ≡ m → m ≤ count_limit → to_z w64 n ≡ pos m
cast_number n m e h = omega (arith, ints, e, h)

numbered : (a : Axis) (k : ℕ) → k ≤ a.last → IsNumbered a (pos k)
numbered a k h = (omega (arith, ints), omega (arith, ints))

-- the number of a covered coordinate, as it is cast
pub cast_covered : (a : Axis) (x : ℤ) (n : ℕ) → IsAxis a → is_on a x ≡ true → n ≡ number a x → to_z w64 n ≡ pos (number a x)
cast_covered a x n axis on e = let k : number a x ≤ a.last = number_within a x axis on in cast_number n (number a x) e (omega (arith, k, axis.few))

pub cast_numbered : (a : Axis) (x : ℤ) (n : ℕ) → IsAxis a → is_on a x ≡ true → n ≡ number a x → IsNumbered a (to_z w64 n)
cast_numbered a x n axis on e = subst (IsNumbered a) (sym (cast_covered a x n axis on e)) (numbered a (number a x) (number_within a x axis on))

between : (first x : ℤ) (length bound far : ℕ) → first ≤ℤ x → unsigned_abs (x -ℤ first) ≤ length → unsigned_abs first ≤ bound → bound ≤ far
    → unsigned_abs (first +ℤ pos length) ≤ far → unsigned_abs x ≤ far
between first x length bound far a b c d e = omega (arith, ints, a, b, c, d, e)

pub on_within : (a : Axis) (x : ℤ) → IsAxis a → is_on a x ≡ true → unsigned_abs x ≤ reach
on_within a x axis on = grind (arith, on_facts a x on, between a.first x (a.last * a.step) input_limit reach)

-- ---- both

pub covered_parts : (g : Axes) (p : Point) → covers g p ≡ true → (is_on g.x p.x ≡ true) × (is_on g.y p.y ≡ true)
covered_parts g p h = and_parts (is_on g.x p.x) (is_on g.y p.y) h

both_true : {a b : Bool} → a ≡ true → b ≡ true → (a && b) ≡ true
both_true p q = rw (p, q) refl

abbrev point_of : ℤ → ℤ → Point
point_of x y = record { x = x; y = y }

two : {a b c d : ℤ} → a ≡ c → b ≡ d → point_of a b ≡ point_of c d
two {b = b} {c = c} p q = ap (λ x. point_of x b) p ∙ ap (point_of c) q

pub settled : SnappedSettle
settled g p grid h = grind (arith, covered_parts, number_within, two, at_number, numbered, both_true, at_on)

record Natural (a : Axis) (k : ℤ) : Type 0 where
  pub value : ℕ
  pub is : k ≡ pos value
  pub within : value ≤ a.last

natural : (a : Axis) (k : ℤ) → IsNumbered a k → Natural a k
natural a k h = grind arith

cells_at : (g : Axes) (m n : ℕ) → IsGrid g → m ≤ g.x.last → n ≤ g.y.last
    → (covers g (back g (point_of (pos m) (pos n))) ≡ true) × (cell g (back g (point_of (pos m) (pos n))) ≡ point_of (pos m) (pos n))
cells_at g m n grid h k = grind (arith, both_true, at_on, two, at_number)

pub cells_back : CellsAreBack
cells_back g c grid h =
    let i : Natural g.x c.x = natural g.x c.x h.0 in
    let j : Natural g.y c.y = natural g.y c.y h.1 in
    let P : Point → Type 0 = λ d. (covers g (back g d) ≡ true) × (cell g (back g d) ≡ d) in
    subst P (two (sym i.is) (sym j.is)) (cells_at g i.value j.value grid i.within j.within)

pub covered_within : CoveredAreWithin
covered_within g p grid h = grind (arith, covered_parts, on_within)
