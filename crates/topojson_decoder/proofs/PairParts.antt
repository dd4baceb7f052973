-- Pairs of numbers by their elements.
use Rattle.std.proofs.Common.{◌≡◌, ◌≢◌, ℕ, zero, suc, ◌-◌, ◌<◌, ◌≤◌, true, false, eqb, List, [], ◌∷◌, length, Option, Some, None, Result, Ok, Err, refl, sym, ap, ◌∙◌, arith}
use Rattle.std.proofs.lemmas.Bool.{eqb-true}
use Rattle.std.specs.Prelude.{ℤ, Bool, nat_lt}
use Rattle.std.proofs.lemmas.Bool.Decides.{nat_tests}
use Rattle.std.specs.Borrow.{Bor}
use Rattle.json_value.specs.declared.json.Json.{Json}
use Rattle.json_value.specs.declared.json.Json.TheVariants as j
use Rattle.json_value.proofs.KindsOf.{array_of-array}
use Rattle.json_cursor.specs.Arrays.{array_by, prefix_value, list_by}
use Rattle.json_value.specs.Reading.{Parse, after_minus, after_number, after_some_digits, after_whole, after_word, list_after, list_at, number_at, skip, value_at, value_with}
use Rattle.json_reading.specs.declared.fault.Fault.{Fault}
use Rattle.json_reading.specs.Gives.{Fails}
use Rattle.geojson_types.specs.declared.counts.Counts.{Counts}
use Rattle.unit_scanning.specs.declared.units.Units.{Units}
use Rattle.topojson_meaning.specs.declared.fault.TopoFault.{TopoFault}
use Rattle.topojson_meaning.specs.declared.fault.TopoFault.TheVariants.{WrongKind}
use Rattle.json_cursor.specs.declared.stop.Stop.{Stop}
use Rattle.json_cursor.specs.declared.stop.Stop.TheVariants as stop
use Rattle.json_cursor.specs.Answers.{Reads, Stops, Answers, stop_of}
use Rattle.json_cursor.proofs.Steps.{made, made_reads, made_stops, part_stops, found_stops}
use Rattle.json_cursor.proofs.Openings.{is_filled}
use Rattle.json_cursor.proofs.Lists.{ends, goes_on, breaks, first_stops, some_listed}
use Rattle.topojson_decoder.specs.declared.numbers.Scale.{Scale}
use Rattle.topojson_decoder.specs.declared.pairs.Pair.{Pair}
use Rattle.unit_scanning.specs.Pairs.{ArePlainPair}
use Rattle.topojson_decoder.specs.Numbers.{IsPlainNumber, number}
use Rattle.topojson_decoder.specs.Pairs.{second, both, pair, plain_pair}

-- ---- the second element and those after it, in some turns

module _ (scale : Scale) (x : Option Units) (item : Parse Json) (n : ℕ) (bs : List ℕ) (some : 0 < n) (c : Counts) where
  second_law : (v : Json) (vs : List Json) (e : TopoFault) → number scale v c ≡ Err e → second scale x (v ∷ vs) c ≡ Err e
  second_law v vs e h = rw h refl

  pub second_stops : (s : Stop TopoFault) → Stops (number scale) (item (skip bs)) c s → Stops (second scale x) (list_at 93 item n bs) c s
  second_stops s h = first_stops item n bs some (second scale x) (number scale) c second_law s h

  module _ (y : Option Units) (after : List ℕ) (r : Reads (number scale) (item (skip bs)) y after c c) where
    pub second_ends : (end : List ℕ) → skip after ≡ 93 ∷ end → Reads (second scale x) (list_at 93 item n bs) (record { x = x; y = y; more = nat_lt 0 0 }) end c c
    second_ends end h = record { value = r.value ∷ []; prefix_is = ends item n bs some r.value after r.prefix_is end h; means = rw r.means refl }

    pub second_breaks : ((more : Parse (List Json)) (v : Json) → list_after 93 more v (skip after) ≡ None) → list_at 93 item n bs ≡ None
    second_breaks h = breaks item n bs some r.value after r.prefix_is (h (list_at 93 item (n - 1)) r.value)

    module _ (more : List ℕ) (comma : skip after ≡ 44 ∷ more) where
      by_further : (ws : List Json) (w : Json) (us : List Json) → ws ≡ w ∷ us → second scale x (r.value ∷ ws) c ≡ Ok (record { x = x; y = y; more = true }, c)
      by_further ws w us is =
          let long : nat_lt 0 (length (w ∷ us)) ≡ true = grind (arith, nat_tests) in
          rw (is, r.means, long) refl

      pub second_goes_on : (ws : List Json) (end : List ℕ) → list_at 93 item (n - 1) more ≡ Some (ws, end) → Reads (second scale x) (list_at 93 item n bs) (record { x = x; y = y; more = true }) end c c
      second_goes_on ws end h =
          let f = some_listed item (n - 1) more ws end h in
          record {
            value = r.value ∷ ws;
            prefix_is = goes_on item n bs some r.value after r.prefix_is more comma ∙ ap (made (λ xs. r.value ∷ xs)) h;
            means = by_further ws f.0 f.1.0 f.1.1;
          }

      pub second_text_stops : (fault : Fault) → Fails fault (list_at 93 item (n - 1) more) → Stops (second scale x) (list_at 93 item n bs) c (stop_of fault)
      second_text_stops fault h = part_stops (second scale x) (list_at 93 item (n - 1) more) (list_at 93 item n bs) c fault
          (λ none. goes_on item n bs some r.value after r.prefix_is more comma ∙ ap (made (λ xs. r.value ∷ xs)) none) h

-- ---- both elements, in some turns

module _ (scale : Scale) (item : Parse Json) (n : ℕ) (bs : List ℕ) (some : 0 < n) (c : Counts) where
  first_law : (v : Json) (vs : List Json) (e : TopoFault) → number scale v c ≡ Err e → both scale (v ∷ vs) c ≡ Err e
  first_law v vs e h = rw h refl

  pub first_number_stops : (s : Stop TopoFault) → Stops (number scale) (item (skip bs)) c s → Stops (both scale) (list_at 93 item n bs) c s
  first_number_stops s h = first_stops item n bs some (both scale) (number scale) c first_law s h

  module _ (x : Option Units) (after : List ℕ) (r : Reads (number scale) (item (skip bs)) x after c c) where
    pub lone_number : (end : List ℕ) → skip after ≡ 93 ∷ end → Stops (both scale) (list_at 93 item n bs) c (stop.Fault WrongKind)
    lone_number end h = found_stops (both scale) (list_at 93 item n bs) c (r.value ∷ []) end WrongKind (ends item n bs some r.value after r.prefix_is end h) (rw r.means refl)

    pub number_breaks : ((more : Parse (List Json)) (w : Json) → list_after 93 more w (skip after) ≡ None) → list_at 93 item n bs ≡ None
    number_breaks h = breaks item n bs some r.value after r.prefix_is (h (list_at 93 item (n - 1)) r.value)

    then_second : (ws : List Json) → both scale (r.value ∷ ws) c ≡ second scale x ws c
    then_second ws = rw r.means refl

    module _ (more : List ℕ) (comma : skip after ≡ 44 ∷ more) where
      is_made : list_at 93 item n bs ≡ made (λ xs. r.value ∷ xs) (list_at 93 item (n - 1) more)
      is_made = goes_on item n bs some r.value after r.prefix_is more comma

      second_reads : (p : Pair) (end : List ℕ) → Reads (second scale x) (list_at 93 item (n - 1) more) p end c c → Reads (both scale) (list_at 93 item n bs) p end c c
      second_reads p end h = made_reads (λ xs. r.value ∷ xs) (both scale) (second scale x) (list_at 93 item n bs) (list_at 93 item (n - 1) more) is_made c c (λ ws end k. then_second ws) p end c h

      pub by_second : (answer : Result (Pair × Bor (List ℕ)) (Stop TopoFault)) → Answers (λ p. p) (second scale x) (list_at 93 item (n - 1) more) c c answer
          → Answers (λ p. p) (both scale) (list_at 93 item n bs) c c answer
      by_second (Ok p) h = second_reads p.0 p.1.now h
      by_second (Err s) h = made_stops (λ xs. r.value ∷ xs) (both scale) (second scale x) (list_at 93 item n bs) (list_at 93 item (n - 1) more) is_made c c (λ ws end k. then_second ws) s h

-- ---- numbers of another kind

pub plain_pair_of : (some other : List ℕ → ℤ → List ℕ → Type 0) → ((bs : List ℕ) (value : ℤ) (rest : List ℕ) → some bs value rest → other bs value rest)
    → (bytes : List ℕ) (x y : ℤ) (more : Bool) (rest : List ℕ) → ArePlainPair some bytes x y more rest → ArePlainPair other bytes x y more rest
plain_pair_of some other law bytes x y more rest p = record {
  after = p.after;
  first = law _ x p.after p.first;
  further = p.further;
  comma = p.comma;
  following = p.following;
  second = law _ y p.following p.second;
  mark = p.mark;
}

-- ---- both elements, written as most are

module _ (scale : Scale) (d n : ℕ) (bs : List ℕ) (long : 2 ≤ n) (c : Counts) (x y : ℤ) (rest : List ℕ) where
  some : 0 < n
  some = omega (arith, long)

  more : 0 < n - 1
  more = omega (arith, long)

  less : n - 1 - 1 ≡ n - 2
  less = omega (arith, long)

  abbrev plain : ℤ → Option Units
  plain value = Some (record { value = value; exact = true })

  plain_reads : (m : Bool) (p : ArePlainPair (IsPlainNumber scale) bs x y m rest) (q : Pair) (end : List ℕ) → Reads (second scale (plain x)) (list_at 93 (prefix_value d) (n - 1) p.further) q end c c → Reads (both scale) (list_at 93 (prefix_value d) n bs) q end c c
  plain_reads m p = second_reads scale (prefix_value d) n bs some c (plain x) p.after (p.first d c) p.further p.comma

  pub plain_ends : ArePlainPair (IsPlainNumber scale) bs x y false rest → Reads (both scale) (list_at 93 (prefix_value d) n bs) (plain_pair x y false) rest c c
  plain_ends p = plain_reads false p (plain_pair x y false) rest (second_ends scale (plain x) (prefix_value d) (n - 1) p.further more c (plain y) p.following (p.second d c) rest p.mark)

  pub plain_goes_on : ArePlainPair (IsPlainNumber scale) bs x y true rest → (ws : List Json) (end : List ℕ) → list_at 93 (prefix_value d) (n - 2) rest ≡ Some (ws, end)
      → Reads (both scale) (list_at 93 (prefix_value d) n bs) (plain_pair x y true) end c c
  plain_goes_on p ws end h =
      plain_reads true p (plain_pair x y true) end
      (second_goes_on scale (plain x) (prefix_value d) (n - 1) p.further more c (plain y) p.following (p.second d c) rest p.mark ws end (ap (λ m. list_at 93 (prefix_value d) m rest) less ∙ h))

-- ---- the bracket that opens the array of a pair

closing : (d : ℕ) (bs : List ℕ) → prefix_value d (93 ∷ bs) ≡ None
unfolding value_at value_with number_at after_number after_minus after_whole after_some_digits
closing zero bs = refl
closing (suc d) bs = refl

no_some : (o : Option (Json × List ℕ)) (x : Json × List ℕ) → o ≡ None → o ≡ Some x → ⊥
no_some o x h k = let wrong : None ≡ Some x = sym h ∙ k in absurd cc

-- a value doesn't begin with the bracket that closes an array
pub not_closed : (d : ℕ) (bs : List ℕ) (v : Json) (rest : List ℕ) → prefix_value d bs ≡ Some (v, rest) → None ≡ after_word (93 ∷ []) bs
unfolding after_word
not_closed d [] v rest e = refl
not_closed d (b ∷ bs) v rest e = by_test (eqb b 93) refl where
  by_test : (t : Bool) → eqb b 93 ≡ t → None ≡ after_word (93 ∷ []) (b ∷ bs)
  by_test false h = rw h refl
  by_test true h = absurd (no_some (prefix_value d (93 ∷ bs)) (v, rest) (closing d bs) (ap (λ z. prefix_value d (z ∷ bs)) (sym (eqb-true b 93 h)) ∙ e))

-- the elements of the array whose bracket stands before a pair
pub opened : (d : ℕ) (bytes inside : List ℕ) → Some inside ≡ after_word (91 ∷ []) bytes → d ≢ 0 → (scale : Scale) (x y : ℤ) (is_more : Bool) (rest : List ℕ) → ArePlainPair (IsPlainNumber scale) inside x y is_more rest
    → prefix_value d bytes ≡ made j.Array (list_at 93 (prefix_value (d - 1)) (length inside) inside)
opened d bytes inside opens depth_left scale x y is_more rest p =
    let first = p.first 0 (record { rounded = 0; extra = 0; empty = 0 }) in
    is_filled d bytes inside opens depth_left (not_closed 0 (skip inside) first.value p.after first.prefix_is)

-- ---- the array of a pair

pub empty_pair : (scale : Scale) (c : Counts) (prefix : Option (Json × List ℕ)) (rest : List ℕ) → prefix ≡ Some (j.Array [], rest) → Stops (pair scale) prefix c (stop.Fault WrongKind)
unfolding array_by
empty_pair scale c prefix rest is = found_stops (pair scale) prefix c (j.Array []) rest WrongKind is (ap (λ o. list_by WrongKind (both scale) o c) (array_of-array []))
