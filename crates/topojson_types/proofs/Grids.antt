-- Cells of a grid, and the cells of arcs that stand as differences.
use Rattle.std.proofs.Common.{◌≡◌, ℕ, ◌+◌, ◌<◌, ◌≤◌, Bool, true, false, ◌&&◌, List, [], ◌∷◌, ◌++◌, length, get_or, drop, refl, sym, ap, ◌∙◌, arith, ◌+ℤ◌, unsigned_abs, leb, append_assoc, append-nil}
use Rattle.std.proofs.lemmas.Bool.Decides.{nat_tests}
use Rattle.std.proofs.lemmas.List.{at_drop_more, at_drop_all}
use Rattle.std.proofs.lemmas.List.Folds.{list_all-append}
use Rattle.std.specs.List.{list_all}
use Rattle.std.proofs.lemmas.Bool.{and_right}
use Rattle.geometry.specs.Points.{Point}
use Rattle.topojson_types.specs.Transforms.{is_within, grid_limit, moved, sums_from, sums, origin}

-- ---- tests

pub is_within-both : (bound : ℕ) (p : Point) → unsigned_abs p.x ≤ bound → unsigned_abs p.y ≤ bound → is_within bound p ≡ true
unfolding is_within
is_within-both bound p h k = grind arith

-- a cell moved by a difference, of which the first or the second number is out of bounds, or neither
pub out_x : (bound : ℕ) (p d : Point) (size : ℕ) → size ≡ unsigned_abs (p.x +ℤ d.x) → bound < size → is_within bound (moved p d) ≡ false
unfolding is_within
out_x bound p d size e h = let e : leb (unsigned_abs (moved p d).x) bound ≡ false = grind (arith, nat_tests) in rw e refl

pub out_y : (bound : ℕ) (p d : Point) (size : ℕ) → size ≡ unsigned_abs (p.y +ℤ d.y) → bound < size → is_within bound (moved p d) ≡ false
unfolding is_within
out_y bound p d size e h = let e : leb (unsigned_abs (moved p d).y) bound ≡ false = grind (arith, nat_tests) in rw e (and_right _ false refl)

-- ---- sums

-- the cells so far are all within the grid, and with what the other differences give they are the arc's
pub record SoFar (differences : List Point) (i : ℕ) (cells : List Point) (before : Point) : Type 0 where
  pub within : list_all (is_within grid_limit) cells ≡ true
  pub whole : cells ++ sums_from before (drop i differences) ≡ sums differences

pub starts : (differences : List Point) → SoFar differences 0 [] origin
unfolding sums_from
starts differences = record { within = refl; whole = refl }

next : (ds : List Point) (before : Point) (i : ℕ) (d : Point) → i < length ds → d ≡ get_or ds i d
    → sums_from before (drop i ds) ≡ moved before d ∷ sums_from (moved before d) (drop (i + 1) ds)
unfolding sums_from
next ds before i d h is = grind (arith, at_drop_more (sums_from before) ds i d h)

pub turns : (differences : List Point) (i : ℕ) (cells before_cells : List Point) (before d c : Point) → i < length differences → d ≡ get_or differences i d
    → SoFar differences i before_cells before → c ≡ moved before d → is_within grid_limit (moved before d) ≡ true
    → cells ≡ before_cells ++ c ∷ [] → SoFar differences (i + 1) cells c
turns ds i cells was before d c h is so e inside pushed =
    rw (pushed, e) (record {
      within = list_all-append (is_within grid_limit) was (moved before d ∷ []) ∙ both so.within inside;
      whole = append_assoc was (moved before d ∷ []) _ ∙ ap (λ zs. was ++ zs) (sym (next ds before i d h is)) ∙ so.whole;
    })
  where
    both : {a b : Bool} → a ≡ true → b ≡ true → (a && (b && true)) ≡ true
    both p q = rw (p, q) refl

pub breaks : (differences : List Point) (i : ℕ) (cells : List Point) (before d : Point) → i < length differences → d ≡ get_or differences i d
    → SoFar differences i cells before → is_within grid_limit (moved before d) ≡ false → list_all (is_within grid_limit) (sums differences) ≡ false
breaks ds i cells before d h is so outside =
    ap (list_all (is_within grid_limit)) (sym so.whole ∙ ap (λ zs. cells ++ zs) (next ds before i d h is))
    ∙ list_all-append (is_within grid_limit) cells _ ∙ fails (list_all (is_within grid_limit) cells) _ outside
  where
    fails : (a : Bool) {b : Bool} (c : Bool) → b ≡ false → (a && (b && c)) ≡ false
    fails a c q = rw q (and_right a false refl)

pub ends : (differences : List Point) (i : ℕ) (cells : List Point) (before : Point) → length differences ≤ i → SoFar differences i cells before → cells ≡ sums differences
unfolding sums_from
ends ds i cells before h so = grind (arith, append-nil cells, at_drop_all (sums_from before) ds i h)
