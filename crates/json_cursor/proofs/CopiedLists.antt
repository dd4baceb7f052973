-- A list, as the loop copies it.
use Rattle.std.proofs.Common.{◌≡◌, ℕ, ◌+◌, ◌-◌, ◌<◌, eqb, false, List, [], ◌∷◌, ◌++◌, map, length, Option, Some, None, refl, sym, ap, ◌∙◌, append_assoc, arith}
use Rattle.std.proofs.lemmas.Bool.{eq-eqb}
use Rattle.std.proofs.lemmas.List.{append-nil}
use Rattle.owned_values.specs.Commas.{with_commas, comma_separated}
use Rattle.json_value.specs.Reading.{Parse, skip, after_word, list_at, items_at}
use Rattle.json_reading.proofs.ListLoop.{at_comma, at_end}
use Rattle.json_reading.proofs.Opened.{is_closed, is_open}
use Rattle.json_reading.proofs.Steps.{no_comma}
use Rattle.json_reading.proofs.StringLoop.{with_prefix}
use Rattle.json_cursor.specs.Copying.{Copies}

module _ {A : Type 0} (close : ℕ) (item : Parse A) (written : A → List ℕ) where
  -- what is written for each, and a comma after it
  abbrev pub trailing : List A → List ℕ
  trailing [] = []
  trailing (x ∷ xs) = written x ++ (44 ∷ trailing xs)

  trailing_more : (xs : List A) (x : A) → trailing (xs ++ x ∷ []) ≡ trailing xs ++ (written x ++ 44 ∷ [])
  trailing_more [] x = refl
  trailing_more (y ∷ ys) x = ap (λ z. written y ++ (44 ∷ z)) (trailing_more ys x) ∙ sym (append_assoc (written y) (44 ∷ trailing ys) (written x ++ 44 ∷ []))

  after_comma : (xs : List A) (x : A) → with_commas false (map written (xs ++ x ∷ [])) ≡ 44 ∷ (trailing xs ++ written x)
  after_comma [] x = ap (λ z. 44 ∷ z) (append-nil (written x))
  after_comma (y ∷ ys) x = ap (λ z. 44 ∷ (written y ++ z)) (after_comma ys x) ∙ ap (λ z. 44 ∷ z) (sym (append_assoc (written y) (44 ∷ trailing ys) (written x)))

  separated : (xs : List A) (x : A) → comma_separated (map written (xs ++ x ∷ [])) ≡ trailing xs ++ written x
  separated [] x = append-nil (written x)
  separated (y ∷ ys) x = ap (λ z. written y ++ z) (after_comma ys x) ∙ sym (append_assoc (written y) (44 ∷ trailing ys) (written x))

  -- a list as it is written, with the byte that closes it
  abbrev pub list_text : List A → List ℕ
  list_text xs = comma_separated (map written xs) ++ close ∷ []

  -- the things that were copied so far, each with a comma after it, and how more of them go on
  pub record SoFar (n i : ℕ) (inside rest start now : List ℕ) : Type 0 where
    pub things : List A
    pub joins : with_prefix things (list_at close item (n - i) rest) ≡ list_at close item n inside
    pub text : now ≡ start ++ trailing things

  nothing_before : (read : Option (List A × List ℕ)) → with_prefix [] read ≡ read
  nothing_before None = refl
  nothing_before (Some x) = refl

  pub starts : (n : ℕ) (inside start : List ℕ) → SoFar n 0 inside inside start start
  starts n inside start = record { things = []; joins = (let all : n - 0 ≡ n = omega arith in ap (λ m. with_prefix [] (list_at close item m inside)) all) ∙ nothing_before (list_at close item n inside); text = sym (append-nil start) }

  module _ (n i : ℕ) (inside rest start now : List ℕ) (s : SoFar n i inside rest start now) (more_turns : i < n) (following mid : List ℕ) (c : Copies item written (skip rest) following now mid) (b : ℕ) (more next : List ℕ)
      (mark : skip following ≡ b ∷ more) (pushed : next ≡ mid ++ b ∷ []) where
    written_so : next ≡ (start ++ trailing s.things) ++ (written c.thing ++ b ∷ [])
    written_so = pushed ∙ ap (λ z. z ++ b ∷ []) (c.text ∙ ap (λ z. z ++ written c.thing) s.text) ∙ append_assoc (start ++ trailing s.things) (written c.thing) (b ∷ [])

    pub goes_on : b ≡ 44 → SoFar n (i + 1) inside more start next
    goes_on comma = record {
      things = s.things ++ c.thing ∷ [];
      joins = at_comma A close item s.things n i rest _ s.joins c.thing following more_turns c.found b more mark comma;
      text = written_so ∙ append_assoc start (trailing s.things) (written c.thing ++ b ∷ []) ∙ ap (λ z. start ++ (trailing s.things ++ (written c.thing ++ z ∷ []))) comma ∙ ap (λ z. start ++ z) (sym (trailing_more s.things c.thing));
    }

    pub ends : eqb close 44 ≡ false → b ≡ close → Copies (list_at close item n) list_text inside more start next
    ends other is = record {
      thing = s.things ++ c.thing ∷ [];
      found = at_end A close item s.things n i rest _ s.joins c.thing following more_turns c.found b more mark (no_comma b close other is) (eq-eqb b close is);
      text = written_so ∙ append_assoc start (trailing s.things) (written c.thing ++ b ∷ []) ∙ ap (λ z. start ++ (trailing s.things ++ (written c.thing ++ z ∷ []))) is
          ∙ ap (λ z. start ++ z) (sym (append_assoc (trailing s.things) (written c.thing) (close ∷ []))) ∙ ap (λ z. start ++ (z ++ close ∷ [])) (sym (separated s.things c.thing));
    }

  pub none_copied : (inside rest start next : List ℕ) → Some rest ≡ after_word (close ∷ []) (skip inside) → next ≡ start ++ close ∷ [] → Copies (items_at close item) list_text inside rest start next
  none_copied inside rest start next h pushed = record { thing = []; found = is_closed A close item inside rest h; text = pushed }

  pub some_copied : (inside rest start next : List ℕ) → None ≡ after_word (close ∷ []) (skip inside) → Copies (list_at close item (length inside)) list_text inside rest start next
      → Copies (items_at close item) list_text inside rest start next
  some_copied inside rest start next h c = record { thing = c.thing; found = is_open A close item inside h ∙ c.found; text = c.text }
