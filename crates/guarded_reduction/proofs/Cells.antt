-- Lists of places by cells.
use Rattle.std.proofs.Common.{◌≡◌, ◌≢◌, ℕ, ℤ, ◌+◌, ◌-◌, ◌/◌, ◌^◌, ◌<◌, ◌≤◌, ◌≤ℤ◌, Bool, true, false, List, [], ◌∷◌, ◌++◌, length, slice_index, slice_set, length-append, get_or-set_same, get_or-set_other, length-set, ◌&&◌, unsigned_abs, ◌-ℤ◌, refl, ap, sym, subst, ◌∙◌, ◌⊎◌, inl, inr, arith}
use Rattle.std.specs.Vec.{with_item}
use Rattle.std.proofs.Math.Nat.{div-mul-le_self}
use Rattle.std.proofs.lemmas.Bool.{cases_Bool, cases_eq, cases_lt}
use Rattle.std.proofs.lemmas.List.{get_or_append_left, get_or_push}
use Rattle.std.proofs.lemmas.Nat.{le-div, pow_pos}
use Rattle.geometry.specs.Points.{Point}
use Rattle.guarded_reduction.specs.declared.index.cell_lists.CellLists.{CellLists}
use Rattle.guarded_reduction.specs.declared.index.cell_search.CellRange.{CellRange}
use Rattle.planar_predicates.specs.declared.extent.Extent.{Extent}
use Rattle.guarded_reduction.specs.Cells.{AreCells, AreCellsOf, AreChained, IsOn, NoneMeetsInRow, NoneMeetsInRows, NoneMeetsOn, cell_along, least, list_at, list_of}
use Rattle.guarded_reduction.specs.Indexes.{NoneMeets, is_left_at, point_at}
use Rattle.guarded_reduction.specs.Tests.{Reaches, Test}
use Rattle.guarded_reduction.proofs.Indexes.{left_before}

-- ---- cells

div_mono : (a b d : ℕ) → 0 < d → a ≤ b → a / d ≤ b / d
div_mono a b d p h = le-div (a / d) b d p (omega (arith, div-mul-le_self a d, h))

abbrev from_least : ℤ → ℕ
from_least x = unsigned_abs (x -ℤ least)

from_least_mono : (x y : ℤ) → least ≤ℤ x → x ≤ℤ y → from_least x ≤ from_least y
from_least_mono x y l h = grind arith

-- cells are numbered as the numbers in them
pub cell_mono : (bits : ℕ) (x y : ℤ) → least ≤ℤ x → x ≤ℤ y → cell_along bits x ≤ cell_along bits y
unfolding cell_along
cell_mono bits x y l h = div_mono (from_least x / 2) (from_least y / 2) (2 ^ bits) (pow_pos bits) (div_mono (from_least x) (from_least y) 2 (omega arith) (from_least_mono x y l h))

-- ---- lists that are made

-- the next place is put on its list, or has only a next place
module _ (bits mask : ℕ) (ps : List Point) (bs : List Bool) (firsts nexts more : List ℕ) (n list number : ℕ) (c : AreChained bits mask ps bs firsts nexts n) (on : list ≡ list_at bits mask (point_at ps n)) (within : list < length firsts)
    (is : number ≡ n + 1) (pushed : more ≡ nexts ++ slice_index firsts list ∷ []) where
  abbrev first_of : ℕ → ℕ
  first_of l = slice_index (slice_set firsts list number) l

  here_first : (l : ℕ) → l ≡ list → first_of l ≡ n + 1
  here_first l e = ap first_of e ∙ get_or-set_same firsts list number 0 within ∙ is

  other_first : (l : ℕ) → l ≢ list → first_of l ≡ slice_index firsts l
  other_first l e = get_or-set_other firsts list l number 0 e

  old_next : (z : ℕ) → z < n → slice_index more z ≡ slice_index nexts z
  old_next z h = ap (λ (xs : List ℕ). slice_index xs z) pushed ∙ get_or_append_left nexts (slice_index firsts list ∷ []) 0 z (omega (arith, h, c.many))

  new_next : (z : ℕ) → z ≡ n → slice_index more z ≡ slice_index firsts list
  new_next z e = ap (λ (xs : List ℕ). slice_index xs z) pushed ∙ get_or_push nexts (slice_index firsts list) 0 z (c.many ∙ sym e)

  list_here : (z : ℕ) → z ≡ n → list_at bits mask (point_at ps z) ≡ list
  list_here z e = ap (λ (y : ℕ). list_at bits mask (point_at ps y)) e ∙ sym on

  as_many : length more ≡ n + 1
  as_many = ap length pushed ∙ length-append nexts (slice_index firsts list ∷ []) ∙ omega (arith, c.many)

  on_later : (l k : ℕ) → IsOn bits mask ps n l k → IsOn bits mask ps (n + 1) l k
  on_later l k o = record { within = omega (arith, o.within); list_is = o.list_is }

  firsts_at : (z : ℕ) → z < n + 1 → is_left_at bs z ≡ true → (list_at bits mask (point_at ps z) ≡ list) ⊎ (list_at bits mask (point_at ps z) ≢ list) → z < first_of (list_at bits mask (point_at ps z))
  firsts_at z h s (inl e) = omega (arith, h, here_first _ e)
  firsts_at z h s (inr e) = on_old (cases_eq z n)
    where
      on_old : (z ≡ n) ⊎ (z ≢ n) → z < first_of (list_at bits mask (point_at ps z))
      on_old (inl q) = absurd (e (list_here z q))
      on_old (inr q) = let l : z < n = omega (arith, h, q) in let k = c.first z l s in omega (arith, k, other_first _ e)

  nexts_at : (y z : ℕ) → y < z → z < n + 1 → is_left_at bs y ≡ true → list_at bits mask (point_at ps y) ≡ list_at bits mask (point_at ps z) → (z ≡ n) ⊎ (z ≢ n) → y < slice_index more z
  nexts_at y z l h s e (inl q) =
      let k = c.first y (omega (arith, l, q)) s in
      let there : slice_index firsts (list_at bits mask (point_at ps y)) ≡ slice_index firsts list = ap (slice_index firsts) (e ∙ list_here z q) in
      omega (arith, k, there, new_next z q)
  nexts_at y z l h s e (inr q) = let w : z < n = omega (arith, h, q) in let k = c.next y z l w s e in omega (arith, k, old_next z w)

  on_firsts : (l : ℕ) → 0 < first_of l → (l ≡ list) ⊎ (l ≢ list) → IsOn bits mask ps (n + 1) l (first_of l)
  on_firsts l h (inl e) =
      let k = here_first l e in
      record { within = omega (arith, k); list_is = ap (λ (m : ℕ). list_at bits mask (point_at ps m)) (omega (arith, k)) ∙ list_here n refl ∙ sym e }
  on_firsts l h (inr e) =
      let k = other_first l e in
      subst (IsOn bits mask ps (n + 1) l) (sym k) (on_later l (slice_index firsts l) (c.on_first l (omega (arith, h, k))))

  on_nexts : (z : ℕ) → z < n + 1 → 0 < slice_index more z → (z ≡ n) ⊎ (z ≢ n) → IsOn bits mask ps z (list_at bits mask (point_at ps z)) (slice_index more z)
  on_nexts z h p (inl q) =
      let k = new_next z q in
      let o = c.on_first list (omega (arith, p, k)) in
      record { within = omega (arith, k, o.within, q); list_is = ap (λ (m : ℕ). list_at bits mask (point_at ps (m - 1))) k ∙ o.list_is ∙ sym (list_here z q) }
  on_nexts z h p (inr q) =
      let w : z < n = omega (arith, h, q) in
      let k = old_next z w in
      subst (IsOn bits mask ps z (list_at bits mask (point_at ps z))) (sym k) (c.on_next z w (omega (arith, p, k)))

  pub chained_more : AreChained bits mask ps bs (slice_set firsts list number) more (n + 1)
  chained_more = record {
    many = as_many;
    first = λ z h s. firsts_at z h s (cases_eq _ list);
    next = λ y z l h s e. nexts_at y z l h s e (cases_eq z n);
    on_first = λ l h. on_firsts l h (cases_eq l list);
    on_next = λ z h p. on_nexts z h p (cases_eq z n);
  }

  -- a place that is gone is not the one
  pub chained_past : is_left_at bs n ≡ false → AreChained bits mask ps bs firsts more (n + 1)
  chained_past gone = record {
    many = as_many;
    first = λ z h s. at z h s (cases_eq z n);
    next = λ y z l h s e. nexts_at y z l h s e (cases_eq z n);
    on_first = λ l h. on_later l (slice_index firsts l) (c.on_first l h);
    on_next = λ z h p. on_nexts z h p (cases_eq z n);
  }
    where
      at : (z : ℕ) → z < n + 1 → is_left_at bs z ≡ true → (z ≡ n) ⊎ (z ≢ n) → z < slice_index firsts (list_at bits mask (point_at ps z))
      at z h s (inl q) = absurd (grind (arith, gone, s, q))
      at z h s (inr q) = c.first z (omega (arith, h, q)) s

-- a place goes: those that are left then were left before
pub cells_without : (x : CellLists) (k : ℕ) → AreCells x → k < length x.positions.items → AreCells (record { positions = x.positions; present = with_item x.present k false; grid = x.grid })
cells_without x k a h = record {
  present = length-set x.present.items k false ∙ a.present;
  grid = record {
    bits = a.grid.bits;
    mask = a.grid.mask;
    chained = record {
      many = a.grid.chained.many;
      first = λ z w s. a.grid.chained.first z w (was_left z s);
      next = λ y z l w s e. a.grid.chained.next y z l w (was_left y s) e;
      on_first = a.grid.chained.on_first;
      on_next = a.grid.chained.on_next;
    };
  };
}
  where
    was_left : (z : ℕ) → is_left_at (slice_set x.present.items k false) z ≡ true → is_left_at x.present.items z ≡ true
    was_left z s = (left_before x.present.items k z (omega (arith, h, a.present)) s).1

-- ---- lists that are gone through

-- a list's places all come before its first number
pub walk_begins : (x : CellLists) (test : Test) (list number : ℕ) → AreCells x → number ≡ slice_index x.grid.firsts.items list → NoneMeetsOn x test list number
walk_begins x test list number a e = record { fails = λ z f w l s. let k = a.grid.chained.first z w s in absurd (omega (arith, f, k, e, ap (slice_index x.grid.firsts.items) l)) }

pub first_is_on : (x : CellLists) (list number : ℕ) → AreCells x → number ≡ slice_index x.grid.firsts.items list → 0 < number → IsOn x.grid.bits x.grid.mask x.positions.items (length x.positions.items) list number
first_is_on x list number a e h = subst (IsOn x.grid.bits x.grid.mask x.positions.items (length x.positions.items) list) (sym e) (a.grid.chained.on_first list (omega (arith, h, e)))

-- one place more doesn't meet the test
pub walk_on : (x : CellLists) (test : Test) (list number place next : ℕ) → AreCells x → 0 < number → place ≡ number - 1 → IsOn x.grid.bits x.grid.mask x.positions.items (length x.positions.items) list number → NoneMeetsOn x test list number →
    (is_left_at x.present.items place && test place (point_at x.positions.items place)) ≡ false → next ≡ slice_index x.grid.nexts.items place → NoneMeetsOn x test list next
walk_on x test list number place next a p e o none fails is = record { fails = λ z f w l s. on z f w l s (cases_lt z number) }
  where
    there : place < length x.positions.items
    there = omega (arith, e, p, o.within)

    here : list_at x.grid.bits x.grid.mask (point_at x.positions.items place) ≡ list
    here = ap (λ (m : ℕ). list_at x.grid.bits x.grid.mask (point_at x.positions.items m)) e ∙ o.list_is

    on : (z : ℕ) → next ≤ z → z < length x.positions.items → list_at x.grid.bits x.grid.mask (point_at x.positions.items z) ≡ list → is_left_at x.present.items z ≡ true → (z < number) ⊎ (number ≤ z) →
        test z (point_at x.positions.items z) ≡ false
    on z f w l s (inr h) = none.fails z h w l s
    on z f w l s (inl h) = at (cases_eq z place)
      where
        at : (z ≡ place) ⊎ (z ≢ place) → test z (point_at x.positions.items z) ≡ false
        at (inl q) = grind (arith, fails, s, q)
        at (inr q) = let k = a.grid.chained.next z place (omega (arith, h, e, q)) there s (l ∙ sym here) in absurd (omega (arith, k, f, is))

-- the next one of the list
pub next_is_on : (x : CellLists) (list number place next : ℕ) → AreCells x → 0 < number → place ≡ number - 1 → IsOn x.grid.bits x.grid.mask x.positions.items (length x.positions.items) list number → next ≡ slice_index x.grid.nexts.items place → 0 < next →
    (next < number) × IsOn x.grid.bits x.grid.mask x.positions.items (length x.positions.items) list next
next_is_on x list number place next a p e o is h =
    let there : place < length x.positions.items = omega (arith, e, p, o.within) in
    let list_of_place : ℕ → ℕ = λ m. list_at x.grid.bits x.grid.mask (point_at x.positions.items m) in
    let k = a.grid.chained.on_next place there (omega (arith, h, is)) in (
      omega (arith, k.within, is, e, p),
      record { within = omega (arith, k.within, is, there); list_is = ap (λ (m : ℕ). list_of_place (m - 1)) is ∙ k.list_is ∙ ap list_of_place e ∙ o.list_is },
    )

-- ---- rows of cells

pub row_begins : (x : CellLists) (test : Test) (row low high : ℕ) → high ≤ low → NoneMeetsInRow x test row low high
row_begins x test row low high h = record { fails = λ z w s r l k. absurd (omega (arith, h, l, k)) }

listed_at : (bits mask : ℕ) (p : Point) (column row list : ℕ) → list ≡ list_of mask column row → cell_along bits p.x ≡ column → cell_along bits p.y ≡ row → list_at bits mask p ≡ list
unfolding list_at
listed_at bits mask p column row list e h k = ap (λ (c : ℕ). list_of mask c (cell_along bits p.y)) h ∙ ap (list_of mask column) k ∙ sym e

-- one cell more
pub row_on : (x : CellLists) (test : Test) (row low column list : ℕ) → list ≡ list_of x.grid.mask column row → NoneMeetsOn x test list 0 → NoneMeetsInRow x test row low column → NoneMeetsInRow x test row low (column + 1)
row_on x test row low column list e on none = record { fails = λ z w s r l k. at z w s r l k (cases_eq (cell_along x.grid.bits (point_at x.positions.items z).x) column) }
  where
    at : (z : ℕ) → z < length x.positions.items → is_left_at x.present.items z ≡ true → cell_along x.grid.bits (point_at x.positions.items z).y ≡ row → low ≤ cell_along x.grid.bits (point_at x.positions.items z).x →
        cell_along x.grid.bits (point_at x.positions.items z).x < column + 1 → (cell_along x.grid.bits (point_at x.positions.items z).x ≡ column) ⊎ (cell_along x.grid.bits (point_at x.positions.items z).x ≢ column) → test z (point_at x.positions.items z) ≡ false
    at z w s r l k (inl q) = on.fails z (omega arith) w (listed_at x.grid.bits x.grid.mask (point_at x.positions.items z) column row list e q r) s
    at z w s r l k (inr q) = none.fails z w s r l (omega (arith, k, q))

pub row_until : (x : CellLists) (test : Test) (row low column high : ℕ) → high ≤ column → NoneMeetsInRow x test row low column → NoneMeetsInRow x test row low high
row_until x test row low column high h none = record { fails = λ z w s r l k. none.fails z w s r l (omega (arith, h, k)) }

pub rows_begin : (x : CellLists) (test : Test) (low high low_row high_row : ℕ) → high_row ≤ low_row → NoneMeetsInRows x test low high low_row high_row
rows_begin x test low high low_row high_row h = record { fails = λ row l k. absurd (omega (arith, h, l, k)) }

-- one row more
pub rows_on : (x : CellLists) (test : Test) (low high low_row row : ℕ) → NoneMeetsInRow x test row low high → NoneMeetsInRows x test low high low_row row → NoneMeetsInRows x test low high low_row (row + 1)
rows_on x test low high low_row row on none = record { fails = λ r l k. at r l k (cases_eq r row) }
  where
    at : (r : ℕ) → low_row ≤ r → r < row + 1 → (r ≡ row) ⊎ (r ≢ row) → NoneMeetsInRow x test r low high
    at r l k (inl q) = subst (λ (m : ℕ). NoneMeetsInRow x test m low high) (sym q) on
    at r l k (inr q) = none.fails r l (omega (arith, k, q))

-- what lies in a box lies in its cells
pub all_within : (x : CellLists) (test : Test) (e : Extent) (c : CellRange) (row : ℕ) → AreCellsOf x.grid.bits e c → c.high_row ≤ row → Reaches e test → NoneMeetsInRows x test c.low c.high c.low_row row → NoneMeets x.positions.items x.present.items test
all_within x test e c row cells last r none = record { fails = λ z w s. on z w s (cases_Bool (test z (point_at x.positions.items z))) }
  where
    on : (z : ℕ) → z < length x.positions.items → is_left_at x.present.items z ≡ true → (test z (point_at x.positions.items z) ≡ true) ⊎ (test z (point_at x.positions.items z) ≡ false) → test z (point_at x.positions.items z) ≡ false
    on z w s (inr n) = n
    on z w s (inl t) =
        let p = point_at x.positions.items z in
        let h = r.holds z p t in
        let top = cells.above p.y h.low_y h.high_y in
        (none.fails (cell_along x.grid.bits p.y) (cells.below p.y h.low_y) (omega (arith, top, last))).fails z w s refl (cells.left p.x h.low_x) (cells.right p.x h.low_x h.high_x)
