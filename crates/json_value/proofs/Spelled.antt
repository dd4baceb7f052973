-- What a value has where its parts have it, it has where bytes spell it.
use Rattle.std.proofs.Common.{◌≡◌, ℕ, ◌<◌, true, false, List, [], ◌∷◌, ◌++◌, subst, arith}
use Rattle.std.specs.List.{AllByRecursion}
use Rattle.std.proofs.lemmas.Bool.Decides.{nat_tests}
use Rattle.std.proofs.lemmas.List.{append-nil}
use Rattle.decimal_text.specs.Grammar.{IsNumber}
use Rattle.json_value.specs.declared.json.Json.{Json}
use Rattle.json_value.specs.Grammar.{is_space, IsSpace, SpellsChars, Spells, SpellsMember, SpellsElements, SpellsMembers, spells_null, spells_true, spells_false, spells_text, spells_number, spells_empty_array, spells_array, spells_empty_object, spells_object, spells_member, elements_last, elements_more, members_last, members_more}
use Rattle.json_value.proofs.Inherits.{Inherits}

space_ascii : (b : ℕ) → is_space b ≡ true → b < 128
space_ascii b h = grind (arith, nat_tests)

-- Bytes that may be cut at an ASCII byte: those of UTF-8 texts, or any bytes.
module _ (Fit : List ℕ → Type 0) (split : (p r : List ℕ) (x : ℕ) → x < 128 → Fit (p ++ (x ∷ r)) → Fit p × Fit r) where
  pub following : (x : ℕ) (r : List ℕ) → x < 128 → Fit (x ∷ r) → Fit r
  following x r small h = (split [] r x small h).1

  pub after_space : (w r : List ℕ) → IsSpace w → Fit (w ++ r) → Fit r
  after_space [] r h f = f
  after_space (b ∷ w) r h f = after_space w r h.1 (following b (w ++ r) (space_ascii b h.0) f)

  pub before_space : (r u : List ℕ) → IsSpace u → Fit (r ++ u) → Fit r
  before_space r [] h f = subst Fit (append-nil r) f
  before_space r (b ∷ u) h f = (split r u b (space_ascii b h.0) f).0

  -- the bytes within brackets or quotation marks
  pub within : (x y : ℕ) (r : List ℕ) → x < 128 → y < 128 → Fit (x ∷ r ++ y ∷ []) → Fit r
  within x y r small_x small_y f = (split r [] y small_y (following x (r ++ y ∷ []) small_x f)).0

  module _ {Number Text : List ℕ → Type 0} {X : ℕ → Json → Type 0} (is : Inherits Number Text X) (number_is : (t : List ℕ) → IsNumber t → Number t) (text_is : (s t : List ℕ) → SpellsChars s t → Fit s → Text t) where
    mutual
      pub spelled_has : {d : ℕ} {t : List ℕ} {v : Json} → Spells d t v → Fit t → X d v
      spelled_has {d} spells_null f = is.null d
      spelled_has {d} spells_true f = is.bool d true
      spelled_has {d} spells_false f = is.bool d false
      spelled_has {d} (spells_text s {t} h) f = is.text d t (text_is s t h (within 34 34 s (omega arith) (omega arith) f))
      spelled_has (spells_number {d} {t} n) f = is.number d t (number_is t n)
      spelled_has (spells_empty_array {d} w h) f = is.array d [] tt
      spelled_has (spells_array {d} t {vs} s) f = is.array d vs (elements_have s (within 91 93 t (omega arith) (omega arith) f))
      spelled_has (spells_empty_object {d} w h) f = is.object d [] tt
      spelled_has (spells_object {d} t {ms} s) f = is.object d ms (members_have s (within 123 125 t (omega arith) (omega arith) f))

      member_has : {d : ℕ} {t : List ℕ} {m : List ℕ × Json} → SpellsMember d t m → Fit t → Text m.0 × X d m.1
      member_has (spells_member s w u t {name} h hw hu v) f =
          let name_end = split s (w ++ 58 ∷ (u ++ t)) 34 (omega arith) (following 34 (s ++ 34 ∷ (w ++ 58 ∷ (u ++ t))) (omega arith) f) in
          let colon = after_space w (58 ∷ (u ++ t)) hw name_end.1 in
          (text_is s name h name_end.0, spelled_has v (after_space u t hu (following 58 (u ++ t) (omega arith) colon)))

      elements_have : {d : ℕ} {t : List ℕ} {vs : List Json} → SpellsElements d t vs → Fit t → AllByRecursion (X d) vs
      elements_have (elements_last w t u hw s hu) f = (spelled_has s (after_space w t hw (before_space (w ++ t) u hu f)), tt)
      elements_have (elements_more w t u ts hw s hu more) f =
          let comma = split (w ++ t ++ u) ts 44 (omega arith) f in
          (spelled_has s (after_space w t hw (before_space (w ++ t) u hu comma.0)), elements_have more comma.1)

      members_have : {d : ℕ} {t : List ℕ} {ms : List (List ℕ × Json)} → SpellsMembers d t ms → Fit t → AllByRecursion (λ m. Text m.0 × X d m.1) ms
      members_have (members_last w t u hw s hu) f = (member_has s (after_space w t hw (before_space (w ++ t) u hu f)), tt)
      members_have (members_more w t u ts hw s hu more) f =
          let comma = split (w ++ t ++ u) ts 44 (omega arith) f in
          (member_has s (after_space w t hw (before_space (w ++ t) u hu comma.0)), members_have more comma.1)
