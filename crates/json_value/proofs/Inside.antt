-- What is inside a value has no other numbers and texts.
use Rattle.std.proofs.Common.{◌≡◌, ℕ, List, [], ◌∷◌, Some, ap, sym, ◌∙◌, subst}
use Rattle.std.specs.Prelude.{flat_map, IsUtf8}
use Rattle.std.specs.List.{AllByRecursion}
use Rattle.decimal_text.specs.Grammar.{IsNumber}
use Rattle.json_value.specs.declared.json.Json.{Json, roll-Json}
use Rattle.json_value.specs.declared.json.Json.TheOpen.{Json-F}
use Rattle.json_value.specs.declared.json.Json.TheVariants as j
use Rattle.json_value.specs.declared.json.Json.TheViews.{out-Json, roll-out-Json}
use Rattle.json_value.specs.Kinds.{array_of, object_of}
use Rattle.json_value.specs.Numbers.{numbers_of, HasNumbers}
use Rattle.json_value.specs.WellFormed.{texts_of, HasTexts}
use Rattle.json_value.proofs.KindsOf.{array_of_is, object_of_is}
use Rattle.json_value.proofs.NumbersOf.{numbers-number, numbers-array, numbers-object}
use Rattle.json_value.proofs.TextsOf.{texts-text, texts-array, texts-object}
use Rattle.owned_values.proofs.Elements.{all_left, all_right}

parted : {A : Type 0} (X : List ℕ → Type 0) (f : A → List (List ℕ)) (xs : List A) → AllByRecursion X (flat_map f xs) → AllByRecursion (λ x. AllByRecursion X (f x)) xs
parted X f [] h = tt
parted X f (x ∷ xs) h = (all_left X (f x) (flat_map f xs) h, parted X f xs (all_right X (f x) (flat_map f xs) h))

-- ---- one level

number_is : (v : Json) (t : List ℕ) → out-Json v ≡ Json-F.Number t → v ≡ j.Number t
number_is v t e = sym (roll-out-Json v) ∙ (ap roll-Json e ∙ j.rolls-Number t)

text_is : (v : Json) (t : List ℕ) → out-Json v ≡ Json-F.Text t → v ≡ j.Text t
text_is v t e = sym (roll-out-Json v) ∙ (ap roll-Json e ∙ j.rolls-Text t)

pub object_inside : (v : Json) (ms : List (List ℕ × Json)) → out-Json v ≡ Json-F.Object ms → v ≡ j.Object ms
object_inside v ms e = sym (roll-out-Json v) ∙ (ap roll-Json e ∙ j.rolls-Object ms)

-- ---- numbers

-- the value of a member has numbers
abbrev pub HasNumbersMember : List ℕ × Json → Type 0
HasNumbersMember m = HasNumbers m.1

pub array_numbers : (v : Json) (vs : List Json) → array_of v ≡ Some vs → HasNumbers v → AllByRecursion HasNumbers vs
array_numbers v vs e h = parted IsNumber numbers_of vs (subst (AllByRecursion IsNumber) (ap numbers_of (array_of_is v vs e) ∙ numbers-array vs) h)

pub object_numbers : (v : Json) (ms : List (List ℕ × Json)) → object_of v ≡ Some ms → HasNumbers v → AllByRecursion HasNumbersMember ms
object_numbers v ms e h = parted IsNumber (λ m. numbers_of m.1) ms (subst (AllByRecursion IsNumber) (ap numbers_of (object_of_is v ms e) ∙ numbers-object ms) h)

pub number_inside : (v : Json) (t : List ℕ) → out-Json v ≡ Json-F.Number t → HasNumbers v → IsNumber t
number_inside v t e h = (subst (AllByRecursion IsNumber) (ap numbers_of (number_is v t e) ∙ numbers-number t) h).0

-- ---- texts

-- the name of a member is UTF-8, and so are the texts of its value
abbrev pub HasTextsMember : List ℕ × Json → Type 0
HasTextsMember m = IsUtf8 m.0 × HasTexts m.1

pub array_texts : (v : Json) (vs : List Json) → array_of v ≡ Some vs → HasTexts v → AllByRecursion HasTexts vs
array_texts v vs e h = parted (λ t. IsUtf8 t) texts_of vs (subst (AllByRecursion (λ t. IsUtf8 t)) (ap texts_of (array_of_is v vs e) ∙ texts-array vs) h)

pub object_texts : (v : Json) (ms : List (List ℕ × Json)) → object_of v ≡ Some ms → HasTexts v → AllByRecursion HasTextsMember ms
object_texts v ms e h = parted (λ t. IsUtf8 t) (λ m. m.0 ∷ texts_of m.1) ms (subst (AllByRecursion (λ t. IsUtf8 t)) (ap texts_of (object_of_is v ms e) ∙ texts-object ms) h)

pub text_inside : (v : Json) (t : List ℕ) → out-Json v ≡ Json-F.Text t → HasTexts v → IsUtf8 t
text_inside v t e h = (subst (AllByRecursion (λ z. IsUtf8 z)) (ap texts_of (text_is v t e) ∙ texts-text t) h).0
