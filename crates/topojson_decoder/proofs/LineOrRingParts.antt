-- Lines and rings as what is made of their indexes one after another.
use Rattle.std.proofs.Common.{◌≡◌, ℕ, ◌<◌, ◌≤◌, Bool, true, false, if◌then◌else◌, arith, List, [], ◌∷◌, length, Option, Some, None, Result, Ok, Err, refl, ap, ◌∙◌}
use Rattle.std.specs.Prelude.{ℤ, nat_lt, not}
use Rattle.std.proofs.lemmas.Bool.Decides.{nat_tests}
use Rattle.decimal_text.specs.declared.num_text.Scaled.{Scaled}
use Rattle.decimal_text.specs.declared.num_text.Range.{Range as OutOfRange}
use Rattle.decimal_text.specs.Scaling.{scaled_of}
use Rattle.json_value.specs.declared.json.Json.{Json}
use Rattle.json_value.specs.Kinds.{array_of, number_of}
use Rattle.geojson_types.specs.declared.counts.Counts.{Counts}
use Rattle.geometry.specs.Joins.{number_of as arc_number}
use Rattle.geometry.specs.Points.{Point}
use Rattle.geometry.specs.Rings.{both_same}
use Rattle.unit_scanning.specs.declared.units.Units.{Units}
use Rattle.topojson_meaning.specs.declared.fault.TopoFault.{TopoFault}
use Rattle.topojson_meaning.specs.declared.fault.TopoFault.TheVariants.{WrongKind, IndexRange, OpenRing}
use Rattle.topojson_meaning.specs.Arcs.{number_text}
use Rattle.topojson_meaning.specs.Lines as lines
use Rattle.topojson_meaning.specs.Reader.{Reader, ◌>>=◌, and_then, give, fail, pure, or_fail, if_some}
use Rattle.json_cursor.specs.Arrays.{array_by, list_by, some_array_by, some_of, always}
use Rattle.json_cursor.specs.Folds.{fold}
use Rattle.json_cursor.proofs.ArrayParts.{same_some_array, made_at_end}
use Rattle.topojson_decoder.specs.declared.numbers.Scale.TheVariants as scale
use Rattle.topojson_decoder.specs.Numbers.{in_range, number}
use Rattle.topojson_decoder.specs.LinesAndRings.{index_of, Joint, next_index, after_index, IndexesSoFar, with_index, line_or_ring, is_open, as_line_or_ring}
use Rattle.topojson_decoder.proofs.Running.{run_to_end}

pub is_false : (b : Bool) → not b ≡ true → b ≡ false
is_false true h = absurd cc
is_false false h = refl

pub is_true : (b : Bool) → not b ≡ false → b ≡ true
is_true true h = refl
is_true false h = absurd cc

-- ---- one index

module _ (count : ℕ) where
  by_exact : (exact : Bool) (value : ℤ) (c : Counts) → ((if exact then give value else fail WrongKind) >>= λ i. lines.in_range count i) c ≡ (if exact then lines.in_range count value else fail WrongKind) c
  by_exact true value c = refl
  by_exact false value c = refl

  by_scaled : (r : Result Scaled OutOfRange) (c : Counts) → (lines.whole_in r >>= λ i. lines.in_range count i) c ≡ index_of count (in_range r) c
  by_scaled (Err e) c = refl
  by_scaled (Ok s) c = by_exact s.exact s.value c

  by_text : (o : Option (List ℕ)) (c : Counts) → (pure (or_fail WrongKind o) >>= λ t. lines.whole_in (scaled_of 0 lines.index_limit t) >>= λ i. lines.in_range count i) c
      ≡ and_then (index_of count) ((pure (or_fail WrongKind o) >>= λ t. give (in_range (scaled_of 0 lines.index_limit t))) c)
  by_text None c = refl
  by_text (Some t) c = by_scaled (scaled_of 0 lines.index_limit t) c

  pub index_is : (v : Json) (c : Counts) → lines.index count v c ≡ and_then (index_of count) (number (scale.Whole lines.index_limit) v c)
  unfolding lines.index number_text
  index_is v c = by_text (number_of v) c

  module _ (u : Units) (c : Counts) where
    pub not_whole : u.exact ≡ false → index_of count (Some u) c ≡ Err WrongKind
    not_whole h = rw h refl

    pub past_arcs : u.exact ≡ true → count ≤ arc_number u.value → index_of count (Some u) c ≡ Err IndexRange
    past_arcs h k = let past : nat_lt (arc_number u.value) count ≡ false = grind (arith, nat_tests) in rw (h, past) refl

    pub names_arc : u.exact ≡ true → arc_number u.value < count → index_of count (Some u) c ≡ Ok (u.value, c)
    names_arc h k = let one : nat_lt (arc_number u.value) count ≡ true = grind (arith, nat_tests) in rw (h, one) refl

-- ---- indexes one after another

-- the indexes that values are, by what the first is read by
abbrev indexes_from : Joint → List Json → Reader (List ℤ)
indexes_from (arcs, None) vs = lines.indexes arcs vs
indexes_from (arcs, Some before) vs = lines.indexes_after arcs before vs

no_indexes : (s : Joint) (c : Counts) → indexes_from s [] c ≡ Ok ([], c)
unfolding lines.indexes lines.indexes_after
no_indexes (arcs, None) c = refl
no_indexes (arcs, Some before) c = refl

in_turn : {A B D : Type 0} (f : A → Reader B) (g : B → Reader D) (r : Result (A × Counts) TopoFault) → and_then (λ x. f x >>= g) r ≡ and_then g (and_then f r)
in_turn f g (Ok x) = refl
in_turn f g (Err e) = refl

one_index : (s : Joint) (v : Json) (vs : List Json) (c : Counts) → indexes_from s (v ∷ vs) c ≡ (next_index s v >>= λ x. indexes_from (after_index s x) vs >>= λ xs. give (x ∷ xs)) c
unfolding lines.indexes lines.indexes_after
one_index (arcs, None) v vs c = in_turn (λ i. give i) (λ x. lines.indexes_after arcs x vs >>= λ xs. give (x ∷ xs)) (lines.index (length arcs) v c)
one_index (arcs, Some before) v vs c = in_turn (lines.joined_to arcs before) (λ x. lines.indexes_after arcs x vs >>= λ xs. give (x ∷ xs)) (lines.index (length arcs) v c)

-- ---- arrays that are to have elements

elements_by : (o : Option (List Json)) (c : Counts) → lines.elements_in o c ≡ list_by WrongKind some_of o c
elements_by None c = refl
elements_by (Some []) c = refl
elements_by (Some (v ∷ vs)) c = refl

-- the elements of an array, an empty one of which is counted
pub some_are : {B : Type 0} (read : List Json → Reader (Option B)) (v : Json) (c : Counts) → (lines.some_elements v >>= if_some read) c ≡ some_array_by WrongKind read v c
unfolding lines.some_elements array_by
some_are read v c = ap (and_then (if_some read)) (elements_by (array_of v) c)

-- ---- lines and rings

abbrev pub no_index : List (List Point) → IndexesSoFar
no_index arcs = ((arcs, None), [])

abbrev pub line_or_ring_of : Bool → List (List Point) → IndexesSoFar → Reader (Option (List ℤ))
line_or_ring_of closed arcs s = as_line_or_ring closed arcs s.1

module _ (arcs : List (List Point)) where
  closing : (same : Bool) (refs : List ℤ) (c : Counts) → (if same then give (Some refs) else fail OpenRing) c ≡ (if not same then fail OpenRing else give (Some refs)) c
  closing true refs c = refl
  closing false refs c = refl

  as_ring_is : (r : Result (List ℤ × Counts) TopoFault) → and_then (lines.as_ring arcs) r ≡ and_then (as_line_or_ring true arcs) r
  as_ring_is (Ok x) = closing (both_same (lines.line_end arcs x.0) (lines.line_start arcs x.0)) x.0 x.1
  as_ring_is (Err e) = refl

  -- the line or ring with these elements
  abbrev line_or_ring_in : Bool → List Json → Reader (Option (List ℤ))
  line_or_ring_in true vs = lines.ring_in arcs vs
  line_or_ring_in false vs = lines.line_in arcs vs

  line_or_ring_by : (closed : Bool) (v : Json) (c : Counts) → line_or_ring closed arcs v c ≡ some_array_by WrongKind (line_or_ring_in closed) v c
  unfolding lines.line lines.ring
  line_or_ring_by true v c = some_are (lines.ring_in arcs) v c
  line_or_ring_by false v c = some_are (lines.line_in arcs) v c

  in_line_or_ring : (closed : Bool) (vs : List Json) (c : Counts) → line_or_ring_in closed vs c ≡ and_then (as_line_or_ring closed arcs) (lines.indexes arcs vs c)
  unfolding lines.line_in lines.ring_in
  in_line_or_ring true vs c = as_ring_is (lines.indexes arcs vs c)
  in_line_or_ring false vs c = refl

  made_of : (closed : Bool) (vs : List Json) (c : Counts) → line_or_ring_in closed vs c ≡ and_then (line_or_ring_of closed arcs) (fold with_index (no_index arcs) vs c)
  made_of closed vs c = in_line_or_ring closed vs c ∙ run_to_end next_index after_index indexes_from no_indexes one_index (as_line_or_ring closed arcs) (arcs, None) vs c

  pub line_or_ring_is : (closed : Bool) (v : Json) (c : Counts) → line_or_ring closed arcs v c ≡ and_then (if_some (line_or_ring_of closed arcs)) (some_array_by WrongKind (always (fold with_index (no_index arcs))) v c)
  line_or_ring_is closed v c =
      line_or_ring_by closed v c
      ∙ same_some_array WrongKind (line_or_ring_in closed) (λ vs d. and_then (line_or_ring_of closed arcs) (fold with_index (no_index arcs) vs d)) (made_of closed) v c
      ∙ made_at_end WrongKind (fold with_index (no_index arcs)) (line_or_ring_of closed arcs) v c

  module _ (closed : Bool) (s : IndexesSoFar) (c : Counts) where
    pub has_gap : is_open closed arcs s.1 ≡ true → if_some (line_or_ring_of closed arcs) (Some s) c ≡ Err OpenRing
    has_gap h = rw h refl

    pub has_none : is_open closed arcs s.1 ≡ false → if_some (line_or_ring_of closed arcs) (Some s) c ≡ Ok (Some s.1, c)
    has_none h = rw h refl
