-- A value is read, whatever ends it.
use Rattle.std.proofs.Common.{◌≡◌, ℕ, suc, ◌<◌, Bool, true, false, List, [], ◌∷◌, ◌++◌, Some, None, refl, append_assoc, arith}
use Rattle.std.specs.Prelude.{codes}
use Rattle.json_value.specs.declared.json.Json.{Json}
use Rattle.json_value.specs.declared.json.Json.TheVariants as j
use Rattle.json_value.specs.Grammar.{IsSpace, SpellsChars, Spells, SpellsMember, SpellsElements, SpellsMembers, spells_null, spells_true, spells_false, spells_text, spells_number, spells_empty_array, spells_array, spells_empty_object, spells_object, spells_member, elements_last, elements_more, members_last, members_more}
use Rattle.json_value.specs.Reading.{Parse, skip, after_word, word_at, items_at, name_at, member_at, value_with, value_at}
use Rattle.json_value.proofs.Spelled.{following, after_space, before_space, within}
use Rattle.json_reading.proofs.Words.{skip-space}
use Rattle.json_reading.proofs.Ending.{Ends}
use Rattle.json_reading.proofs.SpellsList.{SpellsList, list_last, list_more, regroup}
use Rattle.json_reading.proofs.ListsFound.{Again, items_again, empty_again}
use Rattle.json_reading.proofs.NumbersFound.{skip_number, number_no_word, with_number}
use Rattle.json_reading.proofs.Opened.{value_at_is}
use Rattle.json_reading.proofs.StringsFound.{string_again}

-- a value begins with no white space
pub skip_value : {d : ℕ} {t : List ℕ} {v : Json} → Spells d t v → (rest : List ℕ) → skip (t ++ rest) ≡ t ++ rest
skip_value h rest = unfold skip in grind (arith, skip_number)

-- a value doesn't begin with the bracket that closes an array
not_closed : {d : ℕ} {t : List ℕ} {v : Json} → Spells d t v → (rest : List ℕ) → after_word (93 ∷ []) (t ++ rest) ≡ None
unfolding after_word
not_closed (spells_number n) rest = number_no_word n 93 [] rest refl
not_closed h rest = refl

skip_member : {d : ℕ} {t : List ℕ} {m : List ℕ × Json} → SpellsMember d t m → (rest : List ℕ) → skip (t ++ rest) ≡ t ++ rest
skip_member (spells_member s w u t h hw hu v) rest = unfold skip in refl

member_not_closed : {d : ℕ} {t : List ℕ} {m : List ℕ × Json} → SpellsMember d t m → (rest : List ℕ) → after_word (125 ∷ []) (t ++ rest) ≡ None
member_not_closed (spells_member s w u t h hw hu v) rest = unfold after_word in refl

module _ (fits : List ℕ → Bool) where
  module _ (items : Parse (List Json)) (members : Parse (List (List ℕ × Json))) (rest : List ℕ) where
    null_again : value_with fits items members (codes "null" ++ rest) ≡ Some (j.Null, rest)
    null_again = unfold value_with word_at after_word in refl

    true_again : value_with fits items members (codes "true" ++ rest) ≡ Some (j.Bool true, rest)
    true_again = unfold value_with word_at after_word in refl

    false_again : value_with fits items members (codes "false" ++ rest) ≡ Some (j.Bool false, rest)
    false_again = unfold value_with word_at after_word in refl

    text_again : (s t : List ℕ) → SpellsChars s t → fits t ≡ true → value_with fits items members (34 ∷ (s ++ (34 ∷ rest))) ≡ Some (j.Text t, rest)
    text_again s t h passes = unfold value_with in rw (string_again fits s t rest h passes) refl

  array_again : (d : ℕ) (bs rest : List ℕ) (vs : List Json) → items_at 93 (value_at fits d) bs ≡ Some (vs, rest) → value_at fits (suc d) (91 ∷ bs) ≡ Some (j.Array vs, rest)
  array_again d bs rest vs h = unfold value_at value_with in rw h refl

  object_again : (d : ℕ) (bs rest : List ℕ) (ms : List (List ℕ × Json)) → items_at 125 (member_at fits (value_at fits d)) bs ≡ Some (ms, rest) → value_at fits (suc d) (123 ∷ bs) ≡ Some (j.Object ms, rest)
  object_again d bs rest ms h = unfold value_at value_with in rw h refl

  name_again : (s name rest : List ℕ) → SpellsChars s name → fits name ≡ true → name_at fits (34 ∷ (s ++ (34 ∷ rest))) ≡ Some (name, rest)
  name_again s name rest h passes = unfold name_at after_word in string_again fits s name rest h passes

  member_again : (value : Parse Json) (s w u t name rest : List ℕ) (v : Json) → SpellsChars s name → fits name ≡ true → IsSpace w → IsSpace u → skip (t ++ rest) ≡ t ++ rest → value (t ++ rest) ≡ Some (v, rest)
      → member_at fits value (34 ∷ (s ++ (34 ∷ (w ++ (58 ∷ (u ++ (t ++ rest))))))) ≡ Some ((name, v), rest)
  unfolding member_at skip after_word
  member_again value s w u t name rest v h passes hw hu starts found = grind (arith, name_again, skip-space)

  -- Texts of which each string fits, and which may be cut at an ASCII byte: the UTF-8 texts, or any bytes.
  module _ (Fit : List ℕ → Type 0) (text : (s t : List ℕ) → SpellsChars s t → Fit s → fits t ≡ true) (split : (p r : List ℕ) (x : ℕ) → x < 128 → Fit (p ++ (x ∷ r)) → Fit p × Fit r) where
    mutual
      pub found : {d : ℕ} {t : List ℕ} {v : Json} → Spells d t v → Fit t → (rest : List ℕ) → Ends rest → value_at fits d (t ++ rest) ≡ Some (v, rest)
      found {d} spells_null f rest e = let h = value_at_is fits d in rw h.2 (null_again h.0 h.1 rest)
      found {d} spells_true f rest e = let h = value_at_is fits d in rw h.2 (true_again h.0 h.1 rest)
      found {d} spells_false f rest e = let h = value_at_is fits d in rw h.2 (false_again h.0 h.1 rest)
      found {d} (spells_text s {t} h) f rest e = let k = value_at_is fits d in
          rw (k.2, append_assoc) (text_again k.0 k.1 rest s t h (text s t h (within Fit split 34 34 s (omega arith) (omega arith) f)))
      found (spells_number {d} {t} n) f rest e = let k = value_at_is fits d in rw k.2 (with_number fits k.0 k.1 n rest e)
      found (spells_empty_array {d} w h) f rest e = array_again d ((w ++ 93 ∷ []) ++ rest) rest [] (empty_again Json 93 refl refl refl (value_at fits d) w rest h)
      found (spells_array {d} t {vs} s) f rest e =
          array_again d ((t ++ 93 ∷ []) ++ rest) rest vs (items_again Json 93 refl refl refl (value_at fits d) (elements s (within Fit split 91 93 t (omega arith) (omega arith) f)) rest)
      found (spells_empty_object {d} w h) f rest e = object_again d ((w ++ 125 ∷ []) ++ rest) rest [] (empty_again (List ℕ × Json) 125 refl refl refl (member_at fits (value_at fits d)) w rest h)
      found (spells_object {d} t {ms} s) f rest e =
          object_again d ((t ++ 125 ∷ []) ++ rest) rest ms (items_again (List ℕ × Json) 125 refl refl refl (member_at fits (value_at fits d)) (members s (within Fit split 123 125 t (omega arith) (omega arith) f)) rest)

      member_found : {d : ℕ} {t : List ℕ} {m : List ℕ × Json} → SpellsMember d t m → Fit t → (rest : List ℕ) → Ends rest → member_at fits (value_at fits d) (t ++ rest) ≡ Some (m, rest)
      member_found (spells_member {d} s w u t {name} {v} h hw hu sv) f rest e =
          let name_end = split s (w ++ 58 ∷ (u ++ t)) 34 (omega arith) (following Fit split 34 (s ++ 34 ∷ (w ++ 58 ∷ (u ++ t))) (omega arith) f) in
          let colon = after_space Fit split w (58 ∷ (u ++ t)) hw name_end.1 in
          let value = after_space Fit split u t hu (following Fit split 58 (u ++ t) (omega arith) colon) in
          rw (regroup s w u t rest) (member_again (value_at fits d) s w u t name rest v h (text s name h name_end.0) hw hu (skip_value sv rest) (found sv value rest e))

      elements : {d : ℕ} {ts : List ℕ} {vs : List Json} → SpellsElements d ts vs → Fit ts → SpellsList (Again 93 (value_at fits d)) ts vs
      elements (elements_last w t u hw s hu) f =
          let here = after_space Fit split w t hw (before_space Fit split (w ++ t) u hu f) in
          list_last w t u hw (record { starts = skip_value s; opens = not_closed s; found = found s here }) hu
      elements (elements_more w t u ts hw s hu more) f =
          let comma = split (w ++ t ++ u) ts 44 (omega arith) f in
          let here = after_space Fit split w t hw (before_space Fit split (w ++ t) u hu comma.0) in
          list_more w t u ts hw (record { starts = skip_value s; opens = not_closed s; found = found s here }) hu (elements more comma.1)

      members : {d : ℕ} {ts : List ℕ} {ms : List (List ℕ × Json)} → SpellsMembers d ts ms → Fit ts → SpellsList (Again 125 (member_at fits (value_at fits d))) ts ms
      members (members_last w t u hw s hu) f =
          let here = after_space Fit split w t hw (before_space Fit split (w ++ t) u hu f) in
          list_last w t u hw (record { starts = skip_member s; opens = member_not_closed s; found = member_found s here }) hu
      members (members_more w t u ts hw s hu more) f =
          let comma = split (w ++ t ++ u) ts 44 (omega arith) f in
          let here = after_space Fit split w t hw (before_space Fit split (w ++ t) u hu comma.0) in
          list_more w t u ts hw (record { starts = skip_member s; opens = member_not_closed s; found = member_found s here }) hu (members more comma.1)
