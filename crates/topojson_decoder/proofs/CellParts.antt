-- Positions and cells by their pairs of numbers.
use Rattle.std.proofs.Common.{◌≡◌, ℕ, ◌≤◌, Bool, true, false, List, [], ◌∷◌, length, Option, Some, None, Result, Ok, Err, if◌then◌else◌, refl, sym, ap, ◌∙◌, arith}
use Rattle.std.specs.Prelude.{ℤ, nat_lt, not, unsigned_abs, IfSome}
use Rattle.std.proofs.lemmas.Bool.Decides.{nat_tests}
use Rattle.decimal_text.specs.declared.num_text.Scaled.{Scaled}
use Rattle.decimal_text.specs.declared.num_text.Range.{Range as OutOfRange}
use Rattle.decimal_text.specs.Scaling.{scaled_of}
use Rattle.json_value.specs.declared.json.Json.{Json}
use Rattle.json_value.specs.Kinds.{array_of, number_of}
use Rattle.geojson_types.specs.declared.counts.Counts.{Counts}
use Rattle.geojson_types.specs.Counting.{count_extra, count_rounded}
use Rattle.geometry.specs.Points.{Point, IsWithin}
use Rattle.geometry.specs.Units.{unit_places, position_limit}
use Rattle.topojson_types.specs.declared.transform.Transform.{Transform}
use Rattle.topojson_types.specs.Transforms.{moved, grid_limit, is_within, origin, place_on, PlacesAll}
use Rattle.topojson_meaning.specs.declared.fault.TopoFault.{TopoFault}
use Rattle.topojson_meaning.specs.declared.fault.TopoFault.TheVariants.{WrongKind, GridNumber}
use Rattle.topojson_meaning.specs.Arcs as arcs
use Rattle.topojson_meaning.specs.Members.{elements}
use Rattle.topojson_meaning.specs.Reader.{Reader, ◌>>=◌, and_then, give, pure, or_fail}
use Rattle.unit_scanning.specs.declared.units.Units.{Units}
use Rattle.json_cursor.specs.Arrays.{array_by, list_by}
use Rattle.topojson_decoder.specs.declared.numbers.Scale.TheVariants as scale
use Rattle.topojson_decoder.specs.declared.pairs.Pair.{Pair}
use Rattle.topojson_decoder.specs.Numbers.{in_range}
use Rattle.topojson_decoder.specs.Pairs.{both, pair}
use Rattle.topojson_decoder.specs.Cells.{position_of, cell_of, whole}

-- ---- positions

with_units : (r q : Result Scaled OutOfRange) (m : Bool) (c : Counts)
    → (arcs.units_in r >>= λ x. arcs.units_in q >>= λ y. λ d. Ok (record { x = x; y = y }, count_extra m d)) c ≡ position_of (record { x = in_range r; y = in_range q; more = m }) c
with_units (Err e) q m c = refl
with_units (Ok s) (Err e) m c = refl
with_units (Ok s) (Ok t) m c = refl

-- what is read of two values by their number texts
abbrev two_by : {B : Type 0} → (List ℕ → List ℕ → Reader B) → Option (List ℕ) → Option (List ℕ) → Reader B
two_by read o p = pure (or_fail WrongKind o) >>= λ s. pure (or_fail WrongKind p) >>= λ t. read s t

abbrev two_pair : ℕ → ℕ → Bool → Option (List ℕ) → Option (List ℕ) → Reader Pair
two_pair places limit m o p =
    (pure (or_fail WrongKind o) >>= λ s. give (in_range (scaled_of places limit s))) >>= λ x.
    (pure (or_fail WrongKind p) >>= λ t. give (in_range (scaled_of places limit t))) >>= λ y. give (record { x = x; y = y; more = m })

-- one alone is of the wrong kind, whatever it is
lone_pair : {B : Type 0} (end : Pair → Reader B) (places limit : ℕ) (o : Option (List ℕ)) (c : Counts)
    → Err WrongKind ≡ and_then end (((pure (or_fail WrongKind o) >>= λ s. give (in_range (scaled_of places limit s))) >>= λ x d. Err WrongKind) c)
lone_pair end places limit None c = refl
lone_pair end places limit (Some t) c = refl

two_positions : (o p : Option (List ℕ)) (m : Bool) (c : Counts)
    → two_by (λ s t. arcs.units s >>= λ x. arcs.units t >>= λ y. λ d. Ok (record { x = x; y = y }, count_extra m d)) o p c ≡ and_then position_of (two_pair unit_places position_limit m o p c)
unfolding arcs.units
two_positions None p m c = refl
two_positions (Some s) None m c = refl
two_positions (Some s) (Some t) m c = with_units (scaled_of unit_places position_limit s) (scaled_of unit_places position_limit t) m c

position_by : (o : Option (List Json)) (c : Counts) → (pure (or_fail WrongKind o) >>= arcs.elements_position) c ≡ and_then position_of (list_by WrongKind (both scale.Units) o c)
unfolding arcs.elements_position arcs.number_text
position_by None c = refl
position_by (Some []) c = refl
position_by (Some (v ∷ [])) c = lone_pair position_of unit_places position_limit (number_of v) c
position_by (Some (v ∷ w ∷ more)) c = two_positions (number_of v) (number_of w) (nat_lt 0 (length more)) c

pub position_is : (v : Json) (c : Counts) → arcs.position v c ≡ and_then position_of (pair scale.Units v c)
unfolding arcs.position elements array_by
position_is v c = position_by (array_of v) c

-- ---- cells

whole_by : (exact : Bool) (value : ℤ) → (if exact then Ok value else Err GridNumber) ≡ or_fail GridNumber (if exact then Some value else None)
whole_by true value = refl
whole_by false value = refl

grid_number_by : (r : Result Scaled OutOfRange) → arcs.whole_in_grid r ≡ or_fail GridNumber (whole (in_range r))
grid_number_by (Err e) = refl
grid_number_by (Ok s) = whole_by s.exact s.value

module _ (t : Transform) (bound : ℕ) (before : Point) where
  with_wholes : (r q : Result Scaled OutOfRange) (m : Bool) (c : Counts)
      → (pure (arcs.whole_in_grid r) >>= λ x. pure (arcs.whole_in_grid q) >>= λ y. pure (arcs.grid_cell t (moved before (record { x = x; y = y }))) >>= λ cell. λ d. Ok (cell, count_extra m d)) c
      ≡ cell_of t before (record { x = in_range r; y = in_range q; more = m }) c
  with_wholes r q m c = rw (grid_number_by r, grid_number_by q) refl

  two_cells : (o p : Option (List ℕ)) (m : Bool) (c : Counts)
      → two_by (λ s u. pure (arcs.grid_number bound s) >>= λ x. pure (arcs.grid_number bound u) >>= λ y. pure (arcs.grid_cell t (moved before (record { x = x; y = y }))) >>= λ cell. λ d. Ok (cell, count_extra m d)) o p c
      ≡ and_then (cell_of t before) (two_pair 0 bound m o p c)
  unfolding arcs.grid_number
  two_cells None p m c = refl
  two_cells (Some s) None m c = refl
  two_cells (Some s) (Some u) m c = with_wholes (scaled_of 0 bound s) (scaled_of 0 bound u) m c

  cell_by : (o : Option (List Json)) (c : Counts) → (pure (or_fail WrongKind o) >>= arcs.elements_cell t bound before) c ≡ and_then (cell_of t before) (list_by WrongKind (both (scale.Whole bound)) o c)
  unfolding arcs.elements_cell arcs.number_text
  cell_by None c = refl
  cell_by (Some []) c = refl
  cell_by (Some (v ∷ [])) c = lone_pair (cell_of t before) 0 bound (number_of v) c
  cell_by (Some (v ∷ w ∷ more)) c = two_cells (number_of v) (number_of w) (nat_lt 0 (length more)) c

  pub cell_is : (v : Json) (c : Counts) → arcs.cell t bound before v c ≡ and_then (cell_of t before) (pair (scale.Whole bound) v c)
  unfolding arcs.cell elements array_by
  cell_is v c = cell_by (array_of v) c

-- ---- cells of a grid whose cells all lie at positions

within_by : (bound : ℕ) (p : Point) → is_within bound p ≡ true → IsWithin bound p
unfolding is_within
within_by bound p h = (grind (arith, nat_tests, h), grind (arith, nat_tests, h))

is_within_by : (bound : ℕ) (p : Point) → IsWithin bound p → is_within bound p ≡ true
unfolding is_within
is_within_by bound p h = grind (arith, h.0, h.1)

pub cell_if_all : (t : Transform) (c : Point) → PlacesAll t → is_within grid_limit c ≡ true → arcs.grid_cell t c ≡ Ok c
unfolding arcs.grid_cell
cell_if_all t c all h = let lies : is_within position_limit (place_on t c) ≡ true = is_within_by position_limit (place_on t c) (all c (within_by grid_limit c h)) in rw (h, lies) refl

pub known_by : (t : Transform) (c : Point) (o : Option Point) → PlacesAll t → IfSome o (λ found. (found ≡ c) × (is_within grid_limit c ≡ true)) → IfSome o (λ found. arcs.grid_cell t c ≡ Ok found)
known_by t c None all h = tt
known_by t c (Some found) all h = cell_if_all t c all h.1 ∙ ap Ok (sym h.0)

-- ---- places

same : (o : Option (List Json)) (c : Counts) → (pure (or_fail WrongKind o) >>= λ vs. arcs.elements_position vs) c ≡ (pure (or_fail WrongKind o) >>= λ vs. arcs.elements_position vs) c
same o c = refl

same_cell : (t : Transform) (o : Option (List Json)) (c : Counts) → (pure (or_fail WrongKind o) >>= λ vs. arcs.elements_cell t grid_limit origin vs) c ≡ (pure (or_fail WrongKind o) >>= λ vs. arcs.elements_cell t grid_limit origin vs) c
same_cell t o c = refl

pub place_is_position : (v : Json) (c : Counts) → arcs.place None v c ≡ arcs.position v c
unfolding arcs.place arcs.position arcs.elements_place elements
place_is_position v c = same (array_of v) c

pub place_is_cell : (t : Transform) (v : Json) (c : Counts) → arcs.place (Some t) v c ≡ arcs.cell t grid_limit origin v c
unfolding arcs.place arcs.cell arcs.elements_place elements
place_is_cell t v c = same_cell t (array_of v) c

-- ---- what becomes of a pair

module _ (p : Pair) (c : Counts) where
  module _ (u v : Units) (first : p.x ≡ Some u) (second : p.y ≡ Some v) where
    pub in_position : position_of p c ≡ Ok (record { x = u.value; y = v.value }, count_extra p.more (count_rounded (not v.exact) (count_rounded (not u.exact) c)))
    in_position = rw (first, second) refl

  module _ (t : Transform) (before : Point) where
    pub no_x : whole p.x ≡ None → cell_of t before p c ≡ Err GridNumber
    no_x h = rw h refl

    module _ (x : ℤ) (first : whole p.x ≡ Some x) where
      pub no_y : whole p.y ≡ None → cell_of t before p c ≡ Err GridNumber
      no_y h = rw (first, h) refl

      module _ (y : ℤ) (second : whole p.y ≡ Some y) where
        pub off_grid : (e : TopoFault) → arcs.grid_cell t (moved before (record { x = x; y = y })) ≡ Err e → cell_of t before p c ≡ Err e
        off_grid e h = rw (first, second, h) refl

        pub on_grid : (found : Point) → arcs.grid_cell t (moved before (record { x = x; y = y })) ≡ Ok found → cell_of t before p c ≡ Ok (found, count_extra p.more c)
        on_grid found h = rw (first, second, h) refl

if_whole : (exact : Bool) (value x : ℤ) → (if exact then Some value else None) ≡ Some x → value ≡ x
if_whole true value x h = cc
if_whole false value x h = absurd cc

pub whole_within : (o : Option Units) (limit : ℕ) (x : ℤ) → IfSome o (λ u. unsigned_abs u.value ≤ limit) → whole o ≡ Some x → unsigned_abs x ≤ limit
whole_within None limit x h k = absurd cc
whole_within (Some u) limit x h k = let same = if_whole u.exact u.value x k in rw same at h
