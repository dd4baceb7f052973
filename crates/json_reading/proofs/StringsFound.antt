-- A string is read, after its first quotation mark.
use Rattle.std.proofs.Common.{◌≡◌, ℕ, suc, ◌<◌, Bool, true, false, List, [], ◌∷◌, ◌++◌, length, Some, refl, ap, subst, append_assoc, length-append, arith}
use Rattle.std.specs.Prelude.{encode_utf8}
use Rattle.std.proofs.lemmas.Option.{option_and_then_some}
use Rattle.std.proofs.lemmas.Str.{encode_ascii}
use Rattle.owned_values.proofs.Tests.{chosen}
use Rattle.json_value.specs.Grammar.{is_plain, SpellsUnit, unit_of, is_high, is_low, paired, SpellsChars, chars_end, chars_plain, chars_escape, chars_unit, chars_pair}
use Rattle.json_value.specs.Reading.{Parse, after_word, plain_prefix, after_plain, hex_at, unit_at, low_at, unicode_at, escape_at, chars_after, chars_at, if_text, string_at}
use Rattle.json_reading.proofs.Steps.{pair_is, turn}
use Rattle.json_value.proofs.Letters.{letter_kind}

-- ---- escapes

-- four digits, wherever they stand
record UnitFound (u : List ℕ) (n : ℕ) (xs : List ℕ) : Type 0 where
  digits : List ℕ
  begins : u ++ xs ≡ 92 ∷ 117 ∷ digits
  found : unit_at digits ≡ Some (n, xs)

unit_found : {u : List ℕ} {n : ℕ} → SpellsUnit u n → (xs : List ℕ) → UnitFound u n xs
unfolding unit_at hex_at
unit_found (unit_of a b c d p q r s) xs = record { digits = a ∷ b ∷ c ∷ d ∷ xs; begins = refl; found = rw (p, q, r, s) refl }

-- an escape, wherever it stands
record EscapeFound (u : List ℕ) (c : ℕ) (xs : List ℕ) : Type 0 where
  following : List ℕ
  begins : u ++ xs ≡ 92 ∷ following
  found : escape_at following ≡ Some (c, xs)

single_found : {u : List ℕ} {n : ℕ} → SpellsUnit u n → is_high n ≡ false → is_low n ≡ false → (xs : List ℕ) → EscapeFound u n xs
single_found su high low xs = unfold escape_at unicode_at in grind (arith, unit_found su xs)

pair_found : {u v : List ℕ} {h l : ℕ} → SpellsUnit u h → SpellsUnit v l → is_high h ≡ true → is_low l ≡ true → (xs : List ℕ) → EscapeFound (u ++ v) (paired h l) xs
unfolding escape_at unicode_at low_at after_word
pair_found {u} {v} su sv high low xs = grind (arith, unit_found sv xs, unit_found su (v ++ xs), append_assoc u v xs)

not_empty : (u : List ℕ) (c : ℕ) → EscapeFound u c [] → 0 < length u
not_empty u c f = let l = ap length f.begins in omega (arith, l, length-append u [])

-- ---- strings

-- one more plain byte
plain_more : (more : Parse (List ℕ)) (b : ℕ) (run bs t rest : List ℕ) → chars_after more run bs ≡ Some (t, rest) → chars_after more (b ∷ run) bs ≡ Some (b ∷ t, rest)
plain_more more b run bs t rest h = unfold chars_after in grind (arith, chosen, pair_is, option_and_then_some)

plain_again : (n b : ℕ) (bs t rest : List ℕ) → is_plain b ≡ true → chars_at (suc n) bs ≡ Some (t, rest) → chars_at (suc n) (b ∷ bs) ≡ Some (b ∷ t, rest)
unfolding chars_at plain_prefix after_plain
plain_again n b bs t rest h e = rw h (plain_more (chars_at n) b (plain_prefix bs) (after_plain bs) t rest e)

any_again : (u s : List ℕ) (c n : ℕ) (t rest : List ℕ) → EscapeFound u c (s ++ (34 ∷ rest)) → chars_at n (s ++ (34 ∷ rest)) ≡ Some (t, rest) → chars_at (suc n) ((u ++ s) ++ (34 ∷ rest)) ≡ Some (encode_utf8 c ++ t, rest)
unfolding chars_at plain_prefix after_plain chars_after
any_again u s c n t rest f g = rw (append_assoc u s (34 ∷ rest), f.begins) (rw (f.found, g) refl)

end_again : (n : ℕ) (rest : List ℕ) → chars_at (suc n) (34 ∷ rest) ≡ Some ([], rest)
end_again n rest = unfold chars_at plain_prefix after_plain chars_after in refl

chars_again : {s t : List ℕ} → SpellsChars s t → (n : ℕ) (rest : List ℕ) → length s < n → chars_at n (s ++ (34 ∷ rest)) ≡ Some (t, rest)
unfolding escape_at
chars_again chars_end n rest h = let k = turn n 0 h in rw k.1 (end_again k.0 rest)
chars_again (chars_plain b {s} {t} p more) n rest h = grind (arith, chars_again more, turn n _ h, plain_again)
chars_again (chars_escape e c {s} {t} p more) n rest h =
    let k = turn n _ h in
    let again = any_again (92 ∷ e ∷ []) s c k.0 t rest (record { following = e ∷ (s ++ (34 ∷ rest)); begins = refl; found = rw ((letter_kind e c p).no_u, p) refl }) (chars_again more k.0 rest (omega arith)) in
    rw k.1 (rw (encode_ascii c (letter_kind e c p).ascii) at again)
chars_again (chars_unit u c s t su high low more) n rest h =
    let longer = not_empty u c (single_found su high low []) in
    let k = turn n (length (u ++ s)) h in
    rw k.1 (any_again u s c k.0 t rest (single_found su high low (s ++ (34 ∷ rest))) (chars_again more k.0 rest (omega (arith, length-append u s))))
chars_again (chars_pair u v high low s t su sv h l more) n rest lt =
    let longer = not_empty (u ++ v) (paired high low) (pair_found su sv h l []) in
    let k = turn n (length (u ++ (v ++ s))) lt in
    let again = any_again (u ++ v) s (paired high low) k.0 t rest (pair_found su sv h l (s ++ (34 ∷ rest))) (chars_again more k.0 rest (omega (arith, length-append u v, length-append v s, length-append u (v ++ s)))) in
    rw k.1 (subst (λ z. chars_at (suc k.0) (z ++ (34 ∷ rest)) ≡ Some (encode_utf8 (paired high low) ++ t, rest)) (append_assoc u v s) again)

pub string_again : (fits : List ℕ → Bool) (s t rest : List ℕ) → SpellsChars s t → fits t ≡ true → string_at fits (s ++ (34 ∷ rest)) ≡ Some (t, rest)
string_again fits s t rest h passes = unfold string_at if_text in grind (arith, chars_again, length-append)
