-- What a value has where its parts have it: it nests no deeper than so, its numbers are numbers, its texts and names are UTF-8.
use Rattle.std.proofs.Common.{◌≡◌, ℕ, suc, ◌≤◌, Bool, true, List, [], ◌∷◌, map, arith}
use Rattle.std.specs.Prelude.{IsUtf8}
use Rattle.std.specs.List.{flat_map, AllByRecursion}
use Rattle.decimal_text.specs.Grammar.{IsNumber}
use Rattle.json_value.specs.declared.json.Json.{Json}
use Rattle.json_value.specs.declared.json.Json.TheVariants as j
use Rattle.json_value.specs.Depth.{depth, greatest}
use Rattle.json_value.specs.Numbers.{numbers_of, HasNumbers}
use Rattle.json_value.proofs.Depths.{depth-null, depth-bool, depth-number, depth-text, depth-array, depth-object}
use Rattle.json_value.proofs.NumbersOf.{all_flat, numbers-null, numbers-bool, numbers-number, numbers-text, numbers-array, numbers-object}
use Rattle.json_value.proofs.Utf8Parts.{AreUtf8, null_utf8, number_value_utf8, text_value_utf8, array_utf8, object_utf8, is_ascii, word}
use Rattle.json_value.specs.WellFormed.{texts_of}
use Rattle.json_value.proofs.ByKind.{by_kinds}
use Rattle.json_value.proofs.TextsOf.{texts-bool, texts-text, texts-array, texts-object}
use Rattle.owned_values.proofs.Elements.{all_map, all_weaker, all_left, all_right}

-- `X n v` is what is said of a value `v`, with how deep it may nest, `Number` what its numbers have to be, and `Text` its texts and names.
pub record Inherits (Number Text : List ℕ → Type 0) (X : ℕ → Json → Type 0) : Type 0 where
  pub word : (t : List ℕ) → is_ascii t ≡ true → Text t
  pub null : (n : ℕ) → X n j.Null
  pub bool : (n : ℕ) (b : Bool) → X n (j.Bool b)
  pub number : (n : ℕ) (t : List ℕ) → Number t → X n (j.Number t)
  pub text : (n : ℕ) (t : List ℕ) → Text t → X n (j.Text t)
  pub array : (n : ℕ) (vs : List Json) → AllByRecursion (X n) vs → X (suc n) (j.Array vs)
  pub object : (n : ℕ) (ms : List (List ℕ × Json)) → AllByRecursion (λ m. Text m.0 × X n m.1) ms → X (suc n) (j.Object ms)
  pub deeper : (n k : ℕ) (v : Json) → n ≤ k → X n v → X k v

-- an array of the values of these items
pub items_inherit : {A : Type 0} {Number Text : List ℕ → Type 0} {X : ℕ → Json → Type 0} → Inherits Number Text X → (n : ℕ) (Y : A → Type 0) (value : A → Json) → ((a : A) → Y a → X n (value a))
    → (xs : List A) → AllByRecursion Y xs → X (suc n) (j.Array (map value xs))
items_inherit {A} {Number} {Text} {X} is n Y value each xs h = is.array n (map value xs) (all_map (X n) value xs (all_weaker Y (λ a. X n (value a)) each xs h))

-- ---- each value

module _ {Number Text : List ℕ → Type 0} {X : ℕ → Json → Type 0} (is : Inherits Number Text X) where
  abbrev Claim : Json → Type 0
  Claim v = AllByRecursion Number (numbers_of v) → AllByRecursion Text (texts_of v) → X (depth v) v

  elements : (n : ℕ) (vs : List Json) → AllByRecursion Claim vs → AllByRecursion Number (flat_map numbers_of vs) → AllByRecursion Text (flat_map texts_of vs) → greatest (map depth vs) ≤ n → AllByRecursion (X n) vs
  elements n [] all h k le = tt
  elements n (v ∷ vs) all h k le = (
    is.deeper (depth v) n v (omega arith) (all.0 (all_left Number (numbers_of v) _ h) (all_left Text (texts_of v) _ k)),
    elements n vs all.1 (all_right Number (numbers_of v) _ h) (all_right Text (texts_of v) _ k) (omega arith),
  )

  members : (n : ℕ) (ms : List (List ℕ × Json)) → AllByRecursion (λ m. Claim m.1) ms → AllByRecursion Number (flat_map (λ m. numbers_of m.1) ms) → AllByRecursion Text (flat_map (λ m. m.0 ∷ texts_of m.1) ms)
      → greatest (map (λ m. depth m.1) ms) ≤ n → AllByRecursion (λ m. Text m.0 × X n m.1) ms
  members n [] all h k le = tt
  members n (m ∷ ms) all h k le =
      let texts = all_left Text (m.0 ∷ texts_of m.1) _ k in (
        (texts.0, is.deeper (depth m.1) n m.1 (omega arith) (all.0 (all_left Number (numbers_of m.1) _ h) texts.1)),
        members n ms all.1 (all_right Number (numbers_of m.1) _ h) (all_right Text (m.0 ∷ texts_of m.1) _ k) (omega arith),
      )

  -- of the numbers and texts that have it
  pub inherited : (v : Json) → AllByRecursion Number (numbers_of v) → AllByRecursion Text (texts_of v) → X (depth v) v
  inherited = by_kinds Claim (record {
    null = λ h k. rw depth-null (is.null 0);
    bool = λ b h k. rw (depth-bool b) (is.bool 0 b);
    number = λ t h k. let p = rw (numbers-number t) at h in rw (depth-number t) (is.number 0 t p.0);
    text = λ t h k. let p = rw (texts-text t) at k in rw (depth-text t) (is.text 0 t p.0);
    array = λ vs all h k. rw (depth-array vs) (is.array _ vs (elements (greatest (map depth vs)) vs all (rw (numbers-array vs) at h) (rw (texts-array vs) at k) (omega arith)));
    object = λ ms all h k. rw (depth-object ms) (is.object _ ms (members (greatest (map (λ m. depth m.1) ms)) ms all (rw (numbers-object ms) at h) (rw (texts-object ms) at k) (omega arith)));
  })

-- ---- how deep it nests

greatest_below : {A : Type 0} (f : A → ℕ) (n : ℕ) (xs : List A) → AllByRecursion (λ x. f x ≤ n) xs → greatest (map f xs) ≤ n
greatest_below f n [] h = omega arith
greatest_below f n (x ∷ xs) h = let p = greatest_below f n xs h.1 in let q = h.0 in omega arith

pub none_deeper : {A : Type 0} (f : A → ℕ) (n : ℕ) (xs : List A) → greatest (map f xs) ≤ n → AllByRecursion (λ x. f x ≤ n) xs
none_deeper f n [] h = tt
none_deeper f n (x ∷ xs) h = (omega arith, none_deeper f n xs (omega arith))

pub depth_inherits : Inherits (λ t. Unit {0}) (λ t. Unit {0}) (λ n v. depth v ≤ n)
depth_inherits = record {
  word = λ t h. tt;
  null = λ n. rw depth-null (omega arith);
  bool = λ n b. rw (depth-bool b) (omega arith);
  number = λ n t h. rw (depth-number t) (omega arith);
  text = λ n t h. rw (depth-text t) (omega arith);
  array = λ n vs h. rw (depth-array vs) (omega (arith, greatest_below depth n vs h));
  object = λ n ms h. rw (depth-object ms) (omega (arith, greatest_below (λ (m : List ℕ × Json). depth m.1) n ms (all_weaker (λ m. Unit {0} × (depth m.1 ≤ n)) (λ m. depth m.1 ≤ n) (λ m k. k.1) ms h)));
  deeper = λ n k v le h. omega arith;
}

-- ---- its numbers, and its texts and names

pub numbers_inherit : Inherits IsNumber (λ t. Unit {0}) (λ n v. HasNumbers v)
numbers_inherit = record {
  word = λ t h. tt;
  null = λ n. rw numbers-null tt;
  bool = λ n b. rw (numbers-bool b) tt;
  number = λ n t h. rw (numbers-number t) (h, tt);
  text = λ n t h. rw (numbers-text t) tt;
  array = λ n vs h. rw (numbers-array vs) (all_flat IsNumber numbers_of vs h);
  object = λ n ms h. rw (numbers-object ms) (all_flat IsNumber (λ m. numbers_of m.1) ms (all_weaker (λ m. Unit {0} × HasNumbers m.1) (λ m. HasNumbers m.1) (λ m k. k.1) ms h));
  deeper = λ n k v le h. h;
}

pub utf8_inherits : Inherits (λ t. IsUtf8 t) (λ t. IsUtf8 t) (λ n v. AreUtf8 v)
utf8_inherits = record {
  word = word;
  null = λ n. null_utf8;
  bool = λ n b. record { numbers = rw (numbers-bool b) tt; texts = rw (texts-bool b) tt };
  number = λ n t h. number_value_utf8 t h;
  text = λ n t h. text_value_utf8 t h;
  array = λ n vs h. array_utf8 vs h;
  object = λ n ms h. object_utf8 ms h;
  deeper = λ n k v le h. h;
}
