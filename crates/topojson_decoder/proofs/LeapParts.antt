-- Where an array or an object ends, by its brackets and strings.
use Rattle.std.proofs.Common.{◌≡◌, ℕ, zero, suc, ◌+◌, ◌-◌, ◌*◌, ◌%◌, ◌^◌, ◌<◌, ◌≤◌, Bool, true, false, not, if◌then◌else◌, ◌||◌, cond, eqb, List, [], ◌∷◌, ◌++◌, length, map, take, drop, get_or, Some, None, refl, sym, ap, subst, ◌∙◌, append_assoc, arith}
use Rattle.std.specs.Int.RustNames.{count_ones}
use Rattle.std.specs.List.{prefix_len}
use Rattle.std.specs.Prelude.{codes}
use Rattle.std.specs.Simd.Lanes.{mask_l}
use Rattle.std.specs.Str.{is_utf8}
use lib.Count.{count_trailing_zeros}
use Rattle.std.proofs.lemmas.Bool.{eqb-true}
use Rattle.std.proofs.lemmas.List.{length-take-le, take-map, take-take}
use Rattle.std.proofs.lemmas.Nat.{one_shl}
use Rattle.std.proofs.lemmas.Simd.{none_from_empty_mask, ones-mask_l_cons, run_in_chunk_fails, run_in_chunk_le, trailing_mask_l}
use Rattle.decimal_text.specs.Grammar.{is_digit, is_e, AllDigits, IsMinus, no_minus, one_minus, IsWhole, whole_zero, whole_digits, IsFraction, no_fraction, fraction, IsSign, no_sign, plus_sign, minus_sign, IsExponent, no_exponent, exponent, IsNumber, number_of}
use Rattle.json_value.specs.declared.json.Json.{Json}
use Rattle.json_value.specs.Grammar.{is_space, IsSpace, is_plain, hex_value, SpellsUnit, unit_of, SpellsChars, chars_end, chars_plain, chars_escape, chars_unit, chars_pair, Spells, SpellsMember, SpellsElements, SpellsMembers, spells_null, spells_true, spells_false, spells_text, spells_number, spells_empty_array, spells_array, spells_empty_object, spells_object, spells_member, elements_last, elements_more, members_last, members_more}
use Rattle.json_reading.proofs.Steps.{differs}
use Rattle.json_reading.proofs.ValuesRead.{value_takes}
use Rattle.topojson_decoder.specs.Leaping.{Ends, Level, at_depth, end_of, in_string, is_closing, is_mark, is_opening, is_quote, level, turned}
use Rattle.topojson_decoder.proofs.LeapMasks.{lowest}

-- a bracket that opens is first
abbrev starts_opening : List ℕ → Type 0
starts_opening [] = ⊥
starts_opening (b ∷ bs) = is_opening b ≡ true

-- ---- what leaves the depth as it is

abbrev Passes : Level → Level → List ℕ → Type 0
Passes l m t = (rest : List ℕ) → end_of l (t ++ rest) ≡ end_of m rest

abbrev Through : List ℕ → Type 0
Through t = (n : ℕ) → Passes (at_depth (suc n)) (at_depth (suc n)) t

abbrev InString : List ℕ → Type 0
InString t = (n : ℕ) → Passes (in_string (suc n)) (in_string (suc n)) t

both : (l m k : Level) (s t : List ℕ) → Passes l m s → Passes m k t → Passes l k (s ++ t)
both l m k s t p q rest = ap (λ z. end_of l z) (append_assoc s t rest) ∙ (p (t ++ rest) ∙ q rest)

through_both : (s t : List ℕ) → Through s → Through t → Through (s ++ t)
through_both s t p q n = both (at_depth (suc n)) (at_depth (suc n)) (at_depth (suc n)) s t (p n) (q n)

string_both : (s t : List ℕ) → InString s → InString t → InString (s ++ t)
string_both s t p q n = both (in_string (suc n)) (in_string (suc n)) (in_string (suc n)) s t (p n) (q n)

-- a byte that is no bracket and no quotation mark
pub record IsDull (b : ℕ) : Type 0 where
  pub opening : is_opening b ≡ false
  pub closing : is_closing b ≡ false
  pub quote : eqb b 34 ≡ false

dull_first : (b : ℕ) (t : List ℕ) → IsDull b → Through t → Through (b ∷ t)
unfolding end_of
dull_first b t h k n rest = rw (h.opening, h.closing, h.quote) (k n rest)

no_bytes : Through []
no_bytes n rest = refl

neither : (a b : Bool) → a ≡ false → b ≡ false → (a || b) ≡ false
neither a b h k = rw (h, k) refl

-- a byte that passes a test which none of those does
dull_by : (test : ℕ → Bool) → test 91 ≡ false → test 123 ≡ false → test 93 ≡ false → test 125 ≡ false → test 34 ≡ false → (b : ℕ) → test b ≡ true → IsDull b
dull_by test p q r s t b h = record {
  opening = neither _ _ (differs test b 91 p h) (differs test b 123 q h);
  closing = neither _ _ (differs test b 93 r h) (differs test b 125 s h);
  quote = differs test b 34 t h;
}

dull_digit : (b : ℕ) → is_digit b ≡ true → IsDull b
dull_digit = dull_by is_digit refl refl refl refl refl

dull_space : (b : ℕ) → is_space b ≡ true → IsDull b
dull_space = dull_by is_space refl refl refl refl refl

spaces : (w : List ℕ) → IsSpace w → Through w
spaces [] h = no_bytes
spaces (b ∷ w) (h, k) = dull_first b w (dull_space b h) (spaces w k)

comma : Through (44 ∷ [])
comma = dull_first 44 [] (record { opening = refl; closing = refl; quote = refl }) no_bytes

colon : Through (58 ∷ [])
colon = dull_first 58 [] (record { opening = refl; closing = refl; quote = refl }) no_bytes

-- ---- numbers

digits : (bs : List ℕ) → AllDigits bs → Through bs
digits [] h = no_bytes
digits (b ∷ bs) (h, k) = dull_first b bs (dull_digit b h) (digits bs k)

minus : (m : List ℕ) → IsMinus m → Through m
minus _ no_minus = no_bytes
minus _ one_minus = dull_first 45 [] (record { opening = refl; closing = refl; quote = refl }) no_bytes

whole : (w : List ℕ) → IsWhole w → Through w
whole _ whole_zero = dull_first 48 [] (record { opening = refl; closing = refl; quote = refl }) no_bytes
whole _ (whole_digits b bs h k more) = dull_first b bs (dull_digit b h) (digits bs more)

fractional : (f : List ℕ) → IsFraction f → Through f
fractional _ no_fraction = no_bytes
fractional _ (fraction b bs h more) = dull_first 46 (b ∷ bs) (record { opening = refl; closing = refl; quote = refl }) (dull_first b bs (dull_digit b h) (digits bs more))

sign : (s : List ℕ) → IsSign s → Through s
sign _ no_sign = no_bytes
sign _ plus_sign = dull_first 43 [] (record { opening = refl; closing = refl; quote = refl }) no_bytes
sign _ minus_sign = dull_first 45 [] (record { opening = refl; closing = refl; quote = refl }) no_bytes

exponential : (e : List ℕ) → IsExponent e → Through e
exponential _ no_exponent = no_bytes
exponential _ (exponent e s b bs h k d more) =
    dull_first e (s ++ b ∷ bs) (dull_by is_e refl refl refl refl refl e h) (through_both s (b ∷ bs) (sign s k) (dull_first b bs (dull_digit b d) (digits bs more)))

number : (t : List ℕ) → IsNumber t → Through t
number _ (number_of m w f e hm hw hf he) =
    through_both m (w ++ (f ++ e)) (minus m hm) (through_both w (f ++ e) (whole w hw) (through_both f e (fractional f hf) (exponential e he)))

-- ---- strings

in_plain : (b : ℕ) (t : List ℕ) → eqb b 34 ≡ false → eqb b 92 ≡ false → InString t → InString (b ∷ t)
unfolding end_of
in_plain b t h k m n rest = rw (h, k) (m n rest)

nothing_quoted : InString []
nothing_quoted n rest = refl

plain_first : (b : ℕ) (t : List ℕ) → is_plain b ≡ true → InString t → InString (b ∷ t)
plain_first b t h = in_plain b t (differs is_plain b 34 refl h) (differs is_plain b 92 refl h)

escaped_first : (e : ℕ) (t : List ℕ) → InString t → InString (92 ∷ e ∷ t)
unfolding end_of
escaped_first e t h n rest = h n rest

no_value : (a w q : ℕ) → hex_value q ≡ None → hex_value a ≡ Some w → eqb a q ≡ false
no_value a w q none h = by_test (eqb a q) refl where
  by_test : (t : Bool) → eqb a q ≡ t → t ≡ false
  by_test false e = refl
  by_test true e = let wrong : None ≡ Some w = sym none ∙ (ap hex_value (sym (eqb-true a q e)) ∙ h) in absurd cc

hex_first : (a w : ℕ) (t : List ℕ) → hex_value a ≡ Some w → InString t → InString (a ∷ t)
hex_first a w t h = in_plain a t (no_value a w 34 refl h) (no_value a w 92 refl h)

unit : (u : List ℕ) (n : ℕ) → SpellsUnit u n → InString u
unit _ _ (unit_of a b c d {w} {x} {y} {z} h k l m) =
    escaped_first 117 (a ∷ b ∷ c ∷ d ∷ []) (hex_first a w (b ∷ c ∷ d ∷ []) h (hex_first b x (c ∷ d ∷ []) k (hex_first c y (d ∷ []) l (hex_first d z [] m nothing_quoted))))

chars : (s t : List ℕ) → SpellsChars s t → InString s
chars _ _ chars_end = nothing_quoted
chars _ _ (chars_plain b {s} {t} h more) = plain_first b s h (chars s t more)
chars _ _ (chars_escape e c {s} {t} h more) = escaped_first e s (chars s t more)
chars _ _ (chars_unit u n s t h high low more) = string_both u s (unit u n h) (chars s t more)
chars _ _ (chars_pair u v high low s t h k hh hl more) = string_both u (v ++ s) (unit u high h) (string_both v s (unit v low k) (chars s t more))

quotes_open : (n : ℕ) → Passes (at_depth (suc n)) (in_string (suc n)) (34 ∷ [])
unfolding end_of
quotes_open n rest = refl

quotes_close : (n : ℕ) → Passes (in_string (suc n)) (at_depth (suc n)) (34 ∷ [])
unfolding end_of
quotes_close n rest = refl

string : (s t : List ℕ) → SpellsChars s t → Through (34 ∷ s ++ 34 ∷ [])
string s t h n =
    both (at_depth (suc n)) (in_string (suc n)) (at_depth (suc n)) (34 ∷ []) (s ++ 34 ∷ []) (quotes_open n)
    (both (in_string (suc n)) (in_string (suc n)) (at_depth (suc n)) s (34 ∷ []) (chars s t h n) (quotes_close n))

-- ---- brackets

opens_at : (b n : ℕ) → is_opening b ≡ true → Passes (at_depth n) (at_depth (suc n)) (b ∷ [])
unfolding end_of
opens_at b n h rest = rw h refl

closes_at : (b n : ℕ) → is_opening b ≡ false → is_closing b ≡ true → Passes (at_depth (suc (suc n))) (at_depth (suc n)) (b ∷ [])
unfolding end_of
closes_at b n h k rest = let less : suc (suc n) - 1 ≡ suc n = omega arith in rw (h, k, less) refl

within : (o c : ℕ) (t : List ℕ) → is_opening o ≡ true → is_opening c ≡ false → is_closing c ≡ true → Through t → Through (o ∷ t ++ c ∷ [])
within o c t h k m inner n =
    both (at_depth (suc n)) (at_depth (suc (suc n))) (at_depth (suc n)) (o ∷ []) (t ++ c ∷ []) (opens_at o (suc n) h)
    (both (at_depth (suc (suc n))) (at_depth (suc (suc n))) (at_depth (suc n)) t (c ∷ []) (inner (suc n)) (closes_at c n k m))

-- ---- values

spaced : (w t u : List ℕ) → IsSpace w → Through t → IsSpace u → Through (w ++ t ++ u)
spaced w t u hw h hu = through_both (w ++ t) u (through_both w t (spaces w hw) h) (spaces u hu)

more_after : (w t u ts : List ℕ) → IsSpace w → Through t → IsSpace u → Through ts → Through (w ++ t ++ u ++ 44 ∷ ts)
more_after w t u ts hw h hu more =
    through_both (w ++ t ++ u) (44 ∷ ts) (spaced w t u hw h hu) (through_both (44 ∷ []) ts comma more)

null : Through (codes "null")
unfolding end_of
null n rest = refl

yes : Through (codes "true")
unfolding end_of
yes n rest = refl

no : Through (codes "false")
unfolding end_of
no n rest = refl

mutual
  value : {d : ℕ} {t : List ℕ} {v : Json} → Spells d t v → Through t
  value spells_null = null
  value spells_true = yes
  value spells_false = no
  value (spells_text s {t} h) = string s t h
  value (spells_number {t = t} h) = number t h
  value (spells_empty_array w h) = within 91 93 w refl refl refl (spaces w h)
  value (spells_array t h) = within 91 93 t refl refl refl (elements h)
  value (spells_empty_object w h) = within 123 125 w refl refl refl (spaces w h)
  value (spells_object t h) = within 123 125 t refl refl refl (members h)

  member : {d : ℕ} {t : List ℕ} {m : List ℕ × Json} → SpellsMember d t m → Through t
  member (spells_member s w u t {name} {v} hs hw hu h) = subst Through (append_assoc (34 ∷ s) (34 ∷ []) (w ++ 58 ∷ (u ++ t)))
      (through_both (34 ∷ s ++ 34 ∷ []) (w ++ 58 ∷ (u ++ t)) (string s name hs) (through_both w (58 ∷ (u ++ t)) (spaces w hw) (through_both (58 ∷ []) (u ++ t) colon (through_both u t (spaces u hu) (value h)))))

  elements : {d : ℕ} {t : List ℕ} {vs : List Json} → SpellsElements d t vs → Through t
  elements (elements_last w t u hw h hu) = spaced w t u hw (value h) hu
  elements (elements_more w t u ts hw h hu more) = more_after w t u ts hw (value h) hu (elements more)

  members : {d : ℕ} {t : List ℕ} {ms : List (List ℕ × Json)} → SpellsMembers d t ms → Through t
  members (members_last w t u hw h hu) = spaced w t u hw (member h) hu
  members (members_more w t u ts hw h hu more) = more_after w t u ts hw (member h) hu (members more)

-- ---- a whole value

closes_last : (b : ℕ) (rest : List ℕ) → is_opening b ≡ false → is_closing b ≡ true → end_of (at_depth 1) (b ∷ rest) ≡ Some rest
unfolding end_of
closes_last b rest h k = rw (h, k) refl

found_within : (o c : ℕ) (t : List ℕ) → is_opening o ≡ true → is_opening c ≡ false → is_closing c ≡ true → Through t → (rest : List ℕ) → end_of (at_depth 0) ((o ∷ t ++ c ∷ []) ++ rest) ≡ Some rest
found_within o c t h k m inner rest =
    ap (λ z. end_of (at_depth 0) z) (append_assoc (o ∷ t) (c ∷ []) rest) ∙ (both (at_depth 0) (at_depth 1) (at_depth 1) (o ∷ []) t (opens_at o 0 h) (inner 0) (c ∷ rest) ∙ closes_last c rest k m)

starts_dull : (m w more : List ℕ) → IsMinus m → IsWhole w → starts_opening (m ++ (w ++ more)) → ⊥
starts_dull _ w more one_minus k h = cc
starts_dull _ _ more no_minus whole_zero h = cc
starts_dull _ _ more no_minus (whole_digits b bs d other all) h = let wrong = sym h ∙ (dull_digit b d).opening in cc

no_number : (t rest : List ℕ) → IsNumber t → starts_opening (t ++ rest) → ⊥
no_number _ rest (number_of m w f e hm hw hf he) h =
    starts_dull m w ((f ++ e) ++ rest) hm hw (rw (append_assoc m (w ++ (f ++ e)) rest, append_assoc w (f ++ e) rest) at h)

found : {d : ℕ} {t : List ℕ} {v : Json} → Spells d t v → (rest : List ℕ) → starts_opening (t ++ rest) → end_of (at_depth 0) (t ++ rest) ≡ Some rest
found spells_null rest h = absurd cc
found spells_true rest h = absurd cc
found spells_false rest h = absurd cc
found (spells_text s k) rest h = absurd cc
found (spells_number {t = t} k) rest h = absurd (no_number t rest k h)
found (spells_empty_array w k) rest h = found_within 91 93 w refl refl refl (spaces w k) rest
found (spells_array t k) rest h = found_within 91 93 t refl refl refl (elements k) rest
found (spells_empty_object w k) rest h = found_within 123 125 w refl refl refl (spaces w k) rest
found (spells_object t k) rest h = found_within 123 125 t refl refl refl (members k) rest

some_inside : {A : Type 0} (x y : A) → Some x ≡ Some y → x ≡ y
some_inside x y h = cc

ends_so : (b : ℕ) (inside rest : List ℕ) → is_opening b ≡ true → end_of (at_depth 1) inside ≡ Some rest → Ends (b ∷ inside) rest
ends_so b inside rest o h d v end prefix =
    let s = value_takes is_utf8 d (b ∷ inside) (v, end) prefix in
    some_inside end rest (sym (found s.1 end (subst starts_opening s.2 o)) ∙ (ap (λ z. end_of (at_depth 0) z) (sym s.2) ∙ (opens_at b 0 o inside ∙ h)))

pub ends : (b : ℕ) (bytes inside rest : List ℕ) → bytes ≡ b ∷ inside → is_opening b ≡ true → end_of (at_depth 1) inside ≡ Some rest → Ends bytes rest
ends b bytes inside rest is o h = subst (λ z. Ends z rest) (sym is) (ends_so b inside rest o h)

-- ---- byte after byte

some_open : (n : ℕ) → 0 < n → n ≡ suc (n - 1)
some_open n lt = omega (arith, lt)

module _ (b : ℕ) (rest more : List ℕ) (is : rest ≡ b ∷ more) where
  pub opens_more : (n m : ℕ) → m ≡ n + 1 → is_opening b ≡ true → end_of (at_depth n) rest ≡ end_of (at_depth m) more
  opens_more n m k h = rw is (opens_at b n h more ∙ ap (λ i. end_of (at_depth i) more) next) where
    next : suc n ≡ m
    next = omega (arith, k)

  pub closes_last_one : (n : ℕ) → n ≡ 1 → is_opening b ≡ false → is_closing b ≡ true → end_of (at_depth n) rest ≡ Some more
  closes_last_one n one h k = rw (is, one) (closes_last b more h k)

  pub closes_one : (n : ℕ) → 1 < n → is_opening b ≡ false → is_closing b ≡ true → end_of (at_depth n) rest ≡ end_of (at_depth (n - 1)) more
  closes_one n lt h k = rw (is, more_than_one) (closes_at b (n - 2) h k more ∙ ap (λ m. end_of (at_depth m) more) less) where
    more_than_one : n ≡ suc (suc (n - 2))
    more_than_one = omega (arith, lt)

    less : suc (n - 2) ≡ suc (suc (n - 2)) - 1
    less = omega arith

  pub passes : (n : ℕ) → 0 < n → is_opening b ≡ false → is_closing b ≡ false → end_of (at_depth n) rest ≡ end_of (level n (eqb b 34)) more
  unfolding end_of
  passes n lt h k = rw (is, some_open n lt, h, k) refl

  pub string_goes_on : (n : ℕ) → 0 < n → eqb b 92 ≡ false → end_of (in_string n) rest ≡ end_of (level n (not (eqb b 34))) more
  unfolding end_of
  string_goes_on n lt h = rw (is, some_open n lt, h) refl

  pub string_escapes : (n e : ℕ) (following : List ℕ) → 0 < n → b ≡ 92 → more ≡ e ∷ following → end_of (in_string n) rest ≡ end_of (in_string n) following
  unfolding end_of
  string_escapes n e following lt q k = rw (is, q, k, some_open n lt) refl

-- ---- many bytes at once

neither_of : (a b : Bool) → (a || b) ≡ false → (a ≡ false) × (b ≡ false)
neither_of false false h = (refl, refl)
neither_of false true h = absurd cc
neither_of true b h = absurd cc

unmarked_in_string : (t : Bool) → not t ≡ (if t then not true else true)
unmarked_in_string true = refl
unmarked_in_string false = refl

unmarked_outside : (t : Bool) → t ≡ (if t then not false else false)
unmarked_outside true = refl
unmarked_outside false = refl

-- what is no mark turns it if it is a quotation mark
unmarked_first : (b : ℕ) (q : Bool) (m : ℕ) (rest : List ℕ) → is_mark b ≡ false → end_of (level (suc m) q) (b ∷ rest) ≡ end_of (level (suc m) (if is_quote b then not q else q)) rest
unmarked_first b q m rest h = by_state q where
  escapes : (is_opening b || is_closing b ≡ false) × (eqb b 92 ≡ false)
  escapes = neither_of (is_opening b || is_closing b) (eqb b 92) h

  brackets : (is_opening b ≡ false) × (is_closing b ≡ false)
  brackets = neither_of (is_opening b) (is_closing b) escapes.0

  by_state : (q : Bool) → end_of (level (suc m) q) (b ∷ rest) ≡ end_of (level (suc m) (if is_quote b then not q else q)) rest
  by_state true = string_goes_on b (b ∷ rest) rest refl (suc m) (omega arith) escapes.1 ∙ ap (λ z. end_of (level (suc m) z) rest) (unmarked_in_string (eqb b 34))
  by_state false = passes b (b ∷ rest) rest refl (suc m) (omega arith) brackets.0 brackets.1 ∙ ap (λ z. end_of (level (suc m) z) rest) (unmarked_outside (eqb b 34))

turned_once : (q t : Bool) (n : ℕ) → turned (if t then not q else q) n ≡ turned q (cond t 1 0 + n)
turned_once q t n = grind arith

pub turned_more : (q t : Bool) (ms : List Bool) → turned (if t then not q else q) (count_ones (mask_l ms)) ≡ turned q (count_ones (mask_l (t ∷ ms)))
turned_more q t ms = turned_once q t (count_ones (mask_l ms)) ∙ ap (turned q) (sym (ones-mask_l_cons t ms))

pub none_turned : (q : Bool) → turned q (count_ones 0) ≡ q
unfolding count_ones
none_turned q = refl

-- so many bytes that are no marks
pub unmarked_many : (n : ℕ) (bytes : List ℕ) → n ≤ length bytes → ((k : ℕ) → k < n → is_mark (get_or bytes k 0) ≡ false) → (q : Bool) (m : ℕ) →
    end_of (level (suc m) q) bytes ≡ end_of (level (suc m) (turned q (count_ones (mask_l (map is_quote (take n bytes)))))) (drop n bytes)
unmarked_many zero bytes le none q m = ap (λ z. end_of (level (suc m) z) bytes) (sym (none_turned q))
unmarked_many (suc n) [] le none q m = absurd (omega (arith, le))
unmarked_many (suc n) (b ∷ bs) le none q m =
    unmarked_first b q m bs (none 0 (omega arith))
    ∙ unmarked_many n bs (omega (arith, le)) (λ k lt. none (suc k) (omega (arith, lt))) (if is_quote b then not q else q) m
    ∙ ap (λ z. end_of (level (suc m) z) (drop n bs)) (turned_more q (is_quote b) (map is_quote (take n bs)))

-- what is passed at each depth that isn't 0 is passed at this one
pub reached : (inside rest found : List ℕ) (n : ℕ) (q r s : Bool) → 0 < n → end_of (at_depth 1) inside ≡ end_of (level n q) rest → ((m : ℕ) → end_of (level (suc m) q) rest ≡ end_of (level (suc m) r) found) → r ≡ s → end_of (at_depth 1) inside ≡ end_of (level n s) found
reached inside rest found n q r s lt so_far h is = so_far ∙ at_depth_n ∙ ap (λ z. end_of (level n z) found) is where
  at_depth_n : end_of (level n q) rest ≡ end_of (level n r) found
  at_depth_n = rw (some_open n lt) (h (n - 1))

pub still : (n : ℕ) (q s : Bool) (more : List ℕ) → q ≡ s → end_of (level n s) more ≡ end_of (level n q) more
still n q s more is = ap (λ z. end_of (level n z) more) (sym is)

-- ---- sixteen bytes at once

module _ (rest : List ℕ) (enough : 16 ≤ length rest) (marks quotes : ℕ) (marked : marks ≡ mask_l (map is_mark (take 16 rest))) (quoted : quotes ≡ mask_l (map is_quote (take 16 rest))) where
  -- where no mark is among them
  pub all_passed : (q t : Bool) (more : List ℕ) → marks ≡ 0 → t ≡ turned q (count_ones quotes) → more ≡ drop 16 rest → (m : ℕ) → end_of (level (suc m) q) rest ≡ end_of (level (suc m) t) more
  all_passed q t more none is left m = rw (left, is, quoted) (unmarked_many 16 rest enough (λ k lt. none_from_empty_mask is_mark rest 0 16 0 (omega (arith, enough)) (sym marked ∙ none) k (omega arith) (omega (arith, lt))) q m)

  module _ (some : 0 < marks) (before : ℕ) (is : before ≡ count_trailing_zeros 64 marks) where
    counted : before ≡ prefix_len (λ x. not (is_mark x)) (take 16 rest)
    counted = is ∙ ap (count_trailing_zeros 64) marked ∙ trailing_mask_l is_mark 64 (take 16 rest) (omega (arith, length-take-le 16 rest enough)) (omega (arith, marked, some))

    within_sixteen : before ≤ 16
    within_sixteen = run_in_chunk_le is_mark rest 0 16 before 0 (omega (arith, enough)) counted

    pub few : before ≤ length rest
    few = omega (arith, within_sixteen, enough)

    quotes_before : quotes % (1 * 2 ^ before % 2 ^ 64) ≡ mask_l (map is_quote (take before rest))
    quotes_before =
        ap (λ z. quotes % z) (one_shl before 64 (omega (arith, within_sixteen)))
        ∙ ap (λ z. z % 2 ^ before) quoted
        ∙ lowest before (map is_quote (take 16 rest))
        ∙ ap mask_l (take-map is_quote before (take 16 rest) ∙ ap (map is_quote) (take-take before 16 rest within_sixteen))

    -- what comes before the first
    pub some_passed : (q t : Bool) (more : List ℕ) → t ≡ turned q (count_ones (quotes % (1 * 2 ^ before % 2 ^ 64))) → more ≡ drop before rest → (m : ℕ) → end_of (level (suc m) q) rest ≡ end_of (level (suc m) t) more
    some_passed q t more h left m = rw (left, h, quotes_before) (unmarked_many before rest few (λ k lt. run_in_chunk_fails is_mark rest 0 16 before 0 (omega (arith, enough)) counted k (omega arith) (omega (arith, lt))) q m)
