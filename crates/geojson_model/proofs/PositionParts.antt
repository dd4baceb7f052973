-- A position by its elements.
use Rattle.std.proofs.Common.{◌≡◌, ◌≢◌, ℕ, ◌-◌, ◌<◌, ◌≤◌, Bool, true, false, not, List, [], ◌∷◌, length, Option, Some, None, Result, Ok, Err, refl, sym, ap, subst, ◌∙◌, arith}
use Rattle.std.specs.Prelude.{ℤ, ◌&&◌, nat_lt}
use Rattle.std.proofs.lemmas.Bool.Decides.{nat_tests}
use Rattle.std.specs.Borrow.{Bor}
use Rattle.json_value.specs.declared.json.Json.{Json}
use Rattle.json_value.specs.declared.json.Json.TheVariants as j
use Rattle.json_value.proofs.KindsOf.{array_of-array, number_of-number}
use Rattle.json_value.specs.declared.json.Json.TheOpen.{Json-F}
use Rattle.json_value.specs.declared.json.Json.TheViews.{out-Json}
use Rattle.json_value.specs.Kinds.{array_of, number_in, number_of}
use Rattle.json_value.specs.Reading.{Parse, skip, list_after, list_at, value_at}
use Rattle.std.specs.Str.{is_utf8}
use Rattle.unit_scanning.specs.declared.units.Units.{Units}
use Rattle.unit_scanning.specs.Numbers.{IsUnits}
use Rattle.json_reading.specs.declared.fault.Fault.{Fault}
use Rattle.json_reading.specs.Gives.{Fails}
use Rattle.decimal_text.specs.declared.num_text.Scaled.{Scaled}
use Rattle.decimal_text.specs.declared.num_text.Range.{Range as OutOfRange}
use Rattle.decimal_text.specs.Scaling.{scaled_of}
use Rattle.geometry.specs.Points.{Point}
use Rattle.geometry.specs.Units.{input_limit, unit_places}
use Rattle.geojson_types.specs.declared.counts.Counts.{Counts}
use Rattle.geojson_types.specs.Counting.{count_rounded, count_extra}
use Rattle.geojson_meaning.specs.declared.fault.GeoFaultKind.{GeoFaultKind}
use Rattle.geojson_meaning.specs.declared.fault.GeoFaultKind.TheVariants.{WrongKind, ShortPosition, Range, Inexact}
use Rattle.geojson_meaning.specs.Coordinates.{coordinate, elements_position, array_position, position}
use Rattle.json_cursor.specs.declared.stop.Stop.{Stop}
use Rattle.json_cursor.specs.declared.stop.Stop.TheVariants as stop
use Rattle.json_cursor.specs.Kinds.{kind_in, kind_of}
use Rattle.json_cursor.specs.declared.kinds.Kind.TheVariants.{Number}
use Rattle.json_cursor.specs.Answers.{Reads, Stops, Answers, stop_of}
use Rattle.unit_scanning.specs.Pairs.{ArePlainPair, ArePlainUnits}
use Rattle.geojson_model.specs.Positions.{ArePair, second_position}
use Rattle.json_cursor.proofs.Steps.{made, unmade, made_reads, made_stops, part_stops, found_stops}
use Rattle.json_cursor.proofs.Lists.{no_element, ends, goes_on, breaks, first_stops, some_listed}

-- ---- a coordinate

no_number_in : (x : Json-F Json) → kind_in x ≢ Number → number_in x ≡ None
no_number_in (Json-F.Number t) h = absurd (h refl)
no_number_in x h = refl

other_kind : (v : Json) → kind_of v ≢ Number → number_of v ≡ None
other_kind v h = unfold number_of in no_number_in (out-Json v) h

module _ (exact : Bool) (v : Json) (c : Counts) where
  pub no_number : number_of v ≡ None → coordinate exact v c ≡ Err WrongKind
  unfolding coordinate
  no_number h = rw h refl

  pub of_other_kind : kind_of v ≢ Number → coordinate exact v c ≡ Err WrongKind
  of_other_kind h = no_number (other_kind v h)

  module _ (t : List ℕ) (number : number_of v ≡ Some t) where
    pub past_range : (e : OutOfRange) → scaled_of unit_places input_limit t ≡ Err e → coordinate exact v c ≡ Err Range
    unfolding coordinate
    past_range e h = rw (number, h) refl

    module _ (s : Scaled) (scaled : scaled_of unit_places input_limit t ≡ Ok s) where
      pub rounded_refused : (exact && not s.exact) ≡ true → coordinate exact v c ≡ Err Inexact
      unfolding coordinate
      rounded_refused h = rw (number, scaled, h) refl

      pub in_range : (exact && not s.exact) ≡ false → coordinate exact v c ≡ Ok (s.value, count_rounded (not s.exact) c)
      unfolding coordinate
      in_range h = rw (number, scaled, h) refl

-- ---- the second element and those after it, in some turns

module _ (exact : Bool) (x : ℤ) (item : Parse Json) (n : ℕ) (bs : List ℕ) (some : 0 < n) (c : Counts) where
  second_law : (v : Json) (vs : List Json) (e : GeoFaultKind) → coordinate exact v c ≡ Err e → second_position exact x (v ∷ vs) c ≡ Err e
  second_law v vs e h = rw h refl

  pub second_stops : (s : Stop GeoFaultKind) → Stops (coordinate exact) (item (skip bs)) c s → Stops (second_position exact x) (list_at 93 item n bs) c s
  second_stops s h = first_stops item n bs some (second_position exact x) (coordinate exact) c second_law s h

  module _ (y : ℤ) (after : List ℕ) (new : Counts) (r : Reads (coordinate exact) (item (skip bs)) y after c new) where
    pub second_ends : (end : List ℕ) → skip after ≡ 93 ∷ end → Reads (second_position exact x) (list_at 93 item n bs) (record { x = x; y = y }) end c new
    second_ends end h = record { value = r.value ∷ []; prefix_is = ends item n bs some r.value after r.prefix_is end h; means = rw r.means refl }

    pub second_breaks : ((more : Parse (List Json)) (v : Json) → list_after 93 more v (skip after) ≡ None) → list_at 93 item n bs ≡ None
    second_breaks h = breaks item n bs some r.value after r.prefix_is (h (list_at 93 item (n - 1)) r.value)

    module _ (more : List ℕ) (comma : skip after ≡ 44 ∷ more) where
      by_further : (ws : List Json) (w : Json) (us : List Json) → ws ≡ w ∷ us → second_position exact x (r.value ∷ ws) c ≡ Ok (record { x = x; y = y }, count_extra true new)
      by_further ws w us is =
          let long : nat_lt 0 (length (w ∷ us)) ≡ true = grind (arith, nat_tests) in
          rw (is, r.means, long) refl

      pub second_goes_on : (ws : List Json) (end : List ℕ) → list_at 93 item (n - 1) more ≡ Some (ws, end) → Reads (second_position exact x) (list_at 93 item n bs) (record { x = x; y = y }) end c (count_extra true new)
      second_goes_on ws end h =
          let f = some_listed item (n - 1) more ws end h in
          record {
            value = r.value ∷ ws;
            prefix_is = goes_on item n bs some r.value after r.prefix_is more comma ∙ ap (made (λ xs. r.value ∷ xs)) h;
            means = by_further ws f.0 f.1.0 f.1.1;
          }

      pub second_text_stops : (fault : Fault) → Fails fault (list_at 93 item (n - 1) more) → Stops (second_position exact x) (list_at 93 item n bs) c (stop_of fault)
      second_text_stops fault h = part_stops (second_position exact x) (list_at 93 item (n - 1) more) (list_at 93 item n bs) c fault
          (λ none. goes_on item n bs some r.value after r.prefix_is more comma ∙ ap (made (λ xs. r.value ∷ xs)) none) h

-- ---- the elements of a position, in some turns

module _ (exact : Bool) (item : Parse Json) (n : ℕ) (bs : List ℕ) (some : 0 < n) (c : Counts) where
  pub lone_element : (v : Json) (after end : List ℕ) → item (skip bs) ≡ Some (v, after) → skip after ≡ 93 ∷ end → Stops (elements_position exact) (list_at 93 item n bs) c (stop.Fault ShortPosition)
  unfolding elements_position
  lone_element v after end found h = found_stops (elements_position exact) (list_at 93 item n bs) c (v ∷ []) end ShortPosition (ends item n bs some v after found end h) refl

  pub element_breaks : (v : Json) (after : List ℕ) → item (skip bs) ≡ Some (v, after) → ((more : Parse (List Json)) (w : Json) → list_after 93 more w (skip after) ≡ None) → list_at 93 item n bs ≡ None
  element_breaks v after found h = breaks item n bs some v after found (h (list_at 93 item (n - 1)) v)

  pub no_first : item (skip bs) ≡ None → list_at 93 item n bs ≡ None
  no_first h = no_element item n bs some h

  pub first_text_stops : (fault : Fault) → Fails fault (item (skip bs)) → Stops (elements_position exact) (list_at 93 item n bs) c (stop_of fault)
  first_text_stops fault h = part_stops (elements_position exact) (item (skip bs)) (list_at 93 item n bs) c fault no_first h

  -- the fault of the first, where a second stands after it
  wrong_first : (v : Json) (ws : List Json) (w : Json) (us : List Json) (e : GeoFaultKind) → ws ≡ w ∷ us → coordinate exact v c ≡ Err e → elements_position exact (v ∷ ws) c ≡ Err e
  unfolding elements_position
  wrong_first v ws w us e is h = rw (is, h) refl

  pub first_fault : (v : Json) (after more : List ℕ) (e : GeoFaultKind) → item (skip bs) ≡ Some (v, after) → skip after ≡ 44 ∷ more → coordinate exact v c ≡ Err e → Stops (elements_position exact) (list_at 93 item n bs) c (stop.Fault e)
  first_fault v after more e found comma h ws rest is =
      let u = unmade (λ xs. v ∷ xs) (list_at 93 item (n - 1) more) ws rest (sym (goes_on item n bs some v after found more comma) ∙ is) in
      let f = some_listed item (n - 1) more u.0 rest u.1.0 in
      ap (λ z. elements_position exact z c) u.1.1 ∙ wrong_first v u.0 f.0 f.1.0 e f.1.1 h

  module _ (x : ℤ) (after : List ℕ) (mid : Counts) (r : Reads (coordinate exact) (item (skip bs)) x after c mid) where
    then_second : (ws : List Json) → elements_position exact (r.value ∷ ws) c ≡ second_position exact x ws mid
    unfolding elements_position
    then_second [] = refl
    then_second (w ∷ us) = rw r.means refl

    module _ (more : List ℕ) (comma : skip after ≡ 44 ∷ more) where
      is_made : list_at 93 item n bs ≡ made (λ xs. r.value ∷ xs) (list_at 93 item (n - 1) more)
      is_made = goes_on item n bs some r.value after r.prefix_is more comma

      pub position_reads : (p : Point) (rest : List ℕ) (new : Counts) → Reads (second_position exact x) (list_at 93 item (n - 1) more) p rest mid new → Reads (elements_position exact) (list_at 93 item n bs) p rest c new
      position_reads p rest new h = made_reads (λ xs. r.value ∷ xs) (elements_position exact) (second_position exact x) (list_at 93 item n bs) (list_at 93 item (n - 1) more) is_made c mid (λ ws end k. then_second ws) p rest new h

      pub position_stops : (s : Stop GeoFaultKind) → Stops (second_position exact x) (list_at 93 item (n - 1) more) mid s → Stops (elements_position exact) (list_at 93 item n bs) c s
      position_stops s h = made_stops (λ xs. r.value ∷ xs) (elements_position exact) (second_position exact x) (list_at 93 item n bs) (list_at 93 item (n - 1) more) is_made c mid (λ ws end k. then_second ws) s h

      pub by_second : (new : Counts) (answer : Result (Point × Bor (List ℕ)) (Stop GeoFaultKind)) → Answers (λ p. p) (second_position exact x) (list_at 93 item (n - 1) more) mid new answer
          → Answers (λ p. p) (elements_position exact) (list_at 93 item n bs) c new answer
      by_second new (Ok p) h = position_reads p.0 p.1.now new h
      by_second new (Err s) h = position_stops s h

-- ---- two numbers that are read at once

-- a number that isn't refused is a coordinate
number_reads : (exact : Bool) (d : ℕ) (bytes : List ℕ) (u : Units) (rest : List ℕ) (c : Counts) → IsUnits bytes u.value u.exact rest → (exact && not u.exact) ≡ false → Reads (coordinate exact) (value_at is_utf8 d bytes) u.value rest c (count_rounded (not u.exact) c)
number_reads exact d bytes u rest c n h = record {
  value = j.Number n.text;
  prefix_is = n.prefix is_utf8 d;
  means = in_range exact (j.Number n.text) c n.text (number_of-number n.text) (record { value = u.value; exact = u.exact }) n.scaled h;
}

module _ (exact : Bool) (d n : ℕ) (bs : List ℕ) (many : 2 ≤ n) (c : Counts) (x y : Units) (after : List ℕ) (p : ArePair bs x y after) (x_kept : (exact && not x.exact) ≡ false) (y_kept : (exact && not y.exact) ≡ false) where
  some : 0 < n
  some = omega arith

  more : 0 < n - 1
  more = omega arith

  less : n - 1 - 1 ≡ n - 2
  less = omega arith

  first : Reads (coordinate exact) (value_at is_utf8 d (skip bs)) x.value p.after c (count_rounded (not x.exact) c)
  first = number_reads exact d (skip bs) x p.after c p.first x_kept

  abbrev pub counted : Counts
  counted = count_rounded (not y.exact) (count_rounded (not x.exact) c)

  second : Reads (coordinate exact) (value_at is_utf8 d (skip p.more)) y.value after (count_rounded (not x.exact) c) counted
  second = number_reads exact d (skip p.more) y after (count_rounded (not x.exact) c) p.second y_kept

  pub pair_ends : (end : List ℕ) → skip after ≡ 93 ∷ end → Reads (elements_position exact) (list_at 93 (value_at is_utf8 d) n bs) (record { x = x.value; y = y.value }) end c counted
  pair_ends end h =
      position_reads exact (value_at is_utf8 d) n bs some c x.value p.after (count_rounded (not x.exact) c) first p.more p.comma (record { x = x.value; y = y.value }) end counted
      (second_ends exact x.value (value_at is_utf8 d) (n - 1) p.more more (count_rounded (not x.exact) c) y.value after counted second end h)

  pub pair_breaks : ((next : Parse (List Json)) (v : Json) → list_after 93 next v (skip after) ≡ None) → list_at 93 (value_at is_utf8 d) n bs ≡ None
  pair_breaks h =
      position_stops exact (value_at is_utf8 d) n bs some c x.value p.after (count_rounded (not x.exact) c) first p.more p.comma stop.NoValue
      (second_breaks exact x.value (value_at is_utf8 d) (n - 1) p.more more (count_rounded (not x.exact) c) y.value after counted second h)

  module _ (others : List ℕ) (comma : skip after ≡ 44 ∷ others) where
    pub pair_goes_on : (ws : List Json) (end : List ℕ) → list_at 93 (value_at is_utf8 d) (n - 2) others ≡ Some (ws, end)
        → Reads (elements_position exact) (list_at 93 (value_at is_utf8 d) n bs) (record { x = x.value; y = y.value }) end c (count_extra true counted)
    pair_goes_on ws end h =
        position_reads exact (value_at is_utf8 d) n bs some c x.value p.after (count_rounded (not x.exact) c) first p.more p.comma (record { x = x.value; y = y.value }) end (count_extra true counted)
        (second_goes_on exact x.value (value_at is_utf8 d) (n - 1) p.more more (count_rounded (not x.exact) c) y.value after counted second others comma ws end
        (ap (λ m. list_at 93 (value_at is_utf8 d) m others) less ∙ h))

    pub pair_text_stops : (fault : Fault) → Fails fault (list_at 93 (value_at is_utf8 d) (n - 2) others) → Stops (elements_position exact) (list_at 93 (value_at is_utf8 d) n bs) c (stop_of fault)
    pair_text_stops fault h =
        position_stops exact (value_at is_utf8 d) n bs some c x.value p.after (count_rounded (not x.exact) c) first p.more p.comma (stop_of fault)
        (second_text_stops exact x.value (value_at is_utf8 d) (n - 1) p.more more (count_rounded (not x.exact) c) y.value after counted second others comma fault
        (subst (λ m. Fails fault (list_at 93 (value_at is_utf8 d) m others)) (sym less) h))

-- ---- the value of a position

module _ (exact : Bool) (c : Counts) (prefix : Option (Json × List ℕ)) where
  pub not_an_array : ((v : Json) (rest : List ℕ) → prefix ≡ Some (v, rest) → array_of v ≡ None) → Stops (position exact) prefix c (stop.Fault WrongKind)
  unfolding position
  not_an_array h v rest is = ap (λ o. array_position exact o c) (h v rest is)

  pub no_elements : (rest : List ℕ) → prefix ≡ Some (j.Array [], rest) → Stops (position exact) prefix c (stop.Fault ShortPosition)
  unfolding position elements_position
  no_elements rest is = found_stops (position exact) prefix c (j.Array []) rest ShortPosition is (ap (λ o. array_position exact o c) (array_of-array []))

  array_law : (vs : List Json) → position exact (j.Array vs) c ≡ elements_position exact vs c
  unfolding position
  array_law vs = ap (λ o. array_position exact o c) (array_of-array vs)

  pub by_elements : (elements : Option (List Json × List ℕ)) → prefix ≡ made j.Array elements → (new : Counts) (answer : Result (Point × Bor (List ℕ)) (Stop GeoFaultKind))
      → Answers (λ p. p) (elements_position exact) elements c new answer → Answers (λ p. p) (position exact) prefix c new answer
  by_elements elements is new (Ok x) h = made_reads j.Array (position exact) (elements_position exact) prefix elements is c c (λ vs end k. array_law vs) x.0 x.1.now new h
  by_elements elements is new (Err s) h = made_stops j.Array (position exact) (elements_position exact) prefix elements is c c (λ vs end k. array_law vs) s h

-- ---- two numbers that are read as most are written

-- as they are read however they are written
pair_of : (bs : List ℕ) (x y : ℤ) (more : Bool) (rest : List ℕ) (p : ArePlainPair ArePlainUnits bs x y more rest) → ArePair bs (record { value = x; exact = true }) (record { value = y; exact = true }) p.following
pair_of bs x y more rest p = record { after = p.after; first = p.first; more = p.further; comma = p.comma; second = p.second }

never_refused : (exact : Bool) → (exact && not true) ≡ false
never_refused true = refl
never_refused false = refl

module _ (exact : Bool) (d n : ℕ) (bs : List ℕ) (many : 2 ≤ n) (c : Counts) (x y : ℤ) (rest : List ℕ) where
  pub plain_reads : ArePlainPair ArePlainUnits bs x y false rest → Reads (elements_position exact) (list_at 93 (value_at is_utf8 d) n bs) (record { x = x; y = y }) rest c c
  plain_reads p = pair_ends exact d n bs many c (record { value = x; exact = true }) (record { value = y; exact = true }) p.following (pair_of bs x y false rest p) (never_refused exact) (never_refused exact) rest p.mark

  module _ (p : ArePlainPair ArePlainUnits bs x y true rest) where
    pub plain_goes_on : (ws : List Json) (end : List ℕ) → list_at 93 (value_at is_utf8 d) (n - 2) rest ≡ Some (ws, end)
        → Reads (elements_position exact) (list_at 93 (value_at is_utf8 d) n bs) (record { x = x; y = y }) end c (count_extra true c)
    plain_goes_on ws end h = pair_goes_on exact d n bs many c (record { value = x; exact = true }) (record { value = y; exact = true }) p.following (pair_of bs x y true rest p) (never_refused exact) (never_refused exact) rest p.mark ws end h

    pub plain_text_stops : (fault : Fault) → Fails fault (list_at 93 (value_at is_utf8 d) (n - 2) rest) → Stops (elements_position exact) (list_at 93 (value_at is_utf8 d) n bs) c (stop_of fault)
    plain_text_stops fault h = pair_text_stops exact d n bs many c (record { value = x; exact = true }) (record { value = y; exact = true }) p.following (pair_of bs x y true rest p) (never_refused exact) (never_refused exact) rest p.mark fault h
