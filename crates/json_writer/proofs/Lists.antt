-- The texts of arrays and objects as lists with commas.
use Rattle.std.proofs.Common.{◌≡◌, ℕ, suc, ◌+◌, ◌<◌, Bool, true, false, List, [], ◌∷◌, ◌++◌, length, get_or, drop, map, ap, sym, ◌∙◌, add-one, append_assoc, drop-cons, arith}
use Rattle.owned_values.specs.Commas.{comma_unless, with_commas}
use Rattle.std.specs.Prelude.{codes}
use Rattle.json_value.specs.declared.json.Json.{Json}
use Rattle.json_value.specs.declared.json.Json.TheVariants as j
use Rattle.json_value.specs.Text.{json_text, member_text}
use Rattle.json_value.proofs.Texts.{text-array, text-object, one_member, fused}

-- the text of the value that an item stands for
abbrev pub text_by : {A : Type 0} → (A → Json) → A → List ℕ
text_by value_of item = json_text (value_of item)

-- the text of a member whose value an item stands for
abbrev pub named_by : {A : Type 0} → (A → Json) → List ℕ × A → List ℕ
named_by value_of m = member_text (m.0, json_text (value_of m.1))

-- What is left to write in front of these elements of a list with commas: `text_of` is the text of an element, `closing` what follows the last.
abbrev pub list_left : {A : Type 0} → (A → List ℕ) → List ℕ → Bool → List A → List ℕ
list_left text_of closing is_first items = with_commas is_first (map text_of items) ++ closing

-- in front of an element: its comma, its text, and what is left after it
module _ {A : Type 0} (text_of : A → List ℕ) (closing : List ℕ) (is_first : Bool) (items : List A) (i : ℕ) where
  regrouped : (comma text following : List ℕ) → (comma ++ (text ++ following)) ++ closing ≡ (comma ++ text) ++ (following ++ closing)
  regrouped comma text following = simp append_assoc

  pub element-next : (item : A) → i < length items → item ≡ get_or items i item
      → list_left text_of closing is_first (drop i items) ≡ (comma_unless is_first ++ text_of item) ++ list_left text_of closing false (drop (i + 1) items)
  element-next item within is =
      let here : drop i items ≡ item ∷ drop (i + 1) items = rw add-one (drop-cons items i item within ∙ ap (λ z. z ∷ drop (suc i) items) (sym is)) in
      ap (list_left text_of closing is_first) here ∙ regrouped (comma_unless is_first) (text_of item) (with_commas false (map text_of (drop (i + 1) items)))

-- an array of the values of these items
pub array-text : {A : Type 0} (value_of : A → Json) (items : List A) → json_text (j.Array (map value_of items)) ≡ codes "[" ++ list_left (text_by value_of) (codes "]") true items
array-text value_of items = grind (arith, text-array, fused)

-- an object of these members
pub object-text : {A : Type 0} (value_of : A → Json) (members : List (List ℕ × A))
    → json_text (j.Object (map (λ m. (m.0, value_of m.1)) members)) ≡ codes "{" ++ list_left (named_by value_of) (codes "}") true members
object-text value_of members = grind (arith, text-object, fused, one_member)

-- an array of two numbers
two : (x y : List ℕ) → (codes "[" ++ (x ++ (codes "," ++ (y ++ [])))) ++ codes "]" ≡ codes "[" ++ (x ++ (codes "," ++ (y ++ codes "]")))
two x y = simp append_assoc

pub pair-text : (x y : List ℕ) → json_text (j.Array (j.Number x ∷ (j.Number y ∷ [])))
    ≡ codes "[" ++ (json_text (j.Number x) ++ (codes "," ++ (json_text (j.Number y) ++ codes "]")))
pair-text x y = text-array (j.Number x ∷ (j.Number y ∷ [])) ∙ two (json_text (j.Number x)) (json_text (j.Number y))
