-- Which values are read as themselves: one lemma a variant, from what holds of their parts.
use Rattle.std.proofs.Common.{ℕ, ◌-◌, ◌<◌, ◌≤◌, Bool, List, [], ◌∷◌, map, arith}
use Rattle.std.specs.Prelude.{IsUtf8}
use Rattle.std.specs.List.{AllByRecursion}
use Rattle.decimal_text.specs.Grammar.{IsNumber}
use Rattle.json_value.specs.declared.json.Json.{Json}
use Rattle.json_value.specs.declared.json.Json.TheVariants as j
use Rattle.json_value.specs.Depth.{depth, greatest}
use Rattle.json_value.specs.Numbers.{numbers_of, HasNumbers}
use Rattle.json_value.specs.WellFormed.{texts_of, HasTexts}
use Rattle.json_value.proofs.Depths.{depth-null, depth-bool, depth-number, depth-text, depth-array, depth-object}
use Rattle.json_value.proofs.NumbersOf.{all_flat, numbers-null, numbers-bool, numbers-number, numbers-text, numbers-array, numbers-object}
use Rattle.json_value.proofs.TextsOf.{texts-null, texts-bool, texts-number, texts-text, texts-array, texts-object}
use Rattle.owned_values.proofs.Elements.{all_weaker}
use Rattle.decimal_json.specs.Readable.{IsReadable, IsReadableMember}

-- each is UTF-8
abbrev Each : List (List ℕ) → Type 0
Each ts = AllByRecursion (λ t. IsUtf8 t) ts

pub null_readable : (d : ℕ) → IsReadable d j.Null
null_readable d = record { formed = record { numbers = rw numbers-null tt; texts = rw texts-null tt }; nests = rw depth-null (omega arith) }

pub bool_readable : (d : ℕ) (b : Bool) → IsReadable d (j.Bool b)
bool_readable d b = record { formed = record { numbers = rw (numbers-bool b) tt; texts = rw (texts-bool b) tt }; nests = rw (depth-bool b) (omega arith) }

pub number_readable : (d : ℕ) (t : List ℕ) → IsNumber t → IsReadable d (j.Number t)
number_readable d t h = record { formed = record { numbers = rw (numbers-number t) (h, tt); texts = rw (texts-number t) tt }; nests = rw (depth-number t) (omega arith) }

pub text_readable : (d : ℕ) (t : List ℕ) → IsUtf8 t → IsReadable d (j.Text t)
text_readable d t h = record { formed = record { numbers = rw (numbers-text t) tt; texts = rw (texts-text t) (h, tt) }; nests = rw (depth-text t) (omega arith) }

within : {A : Type 0} (f : A → ℕ) (d : ℕ) (xs : List A) → AllByRecursion (λ x. f x ≤ d) xs → greatest (map f xs) ≤ d
within f d [] h = omega arith
within f d (x ∷ xs) h = omega (arith, h.0, within f d xs h.1)

module _ (d : ℕ) (some : 0 < d) where
  pub array_readable : (vs : List Json) → AllByRecursion (IsReadable (d - 1)) vs → IsReadable d (j.Array vs)
  array_readable vs h = record {
    formed = record {
      numbers = rw (numbers-array vs) (all_flat IsNumber numbers_of vs (all_weaker (IsReadable (d - 1)) HasNumbers (λ v k. k.formed.numbers) vs h));
      texts = rw (texts-array vs) (all_flat (λ t. IsUtf8 t) texts_of vs (all_weaker (IsReadable (d - 1)) HasTexts (λ v k. k.formed.texts) vs h));
    };
    nests = rw (depth-array vs) (omega (arith, some, within depth (d - 1) vs (all_weaker (IsReadable (d - 1)) (λ v. depth v ≤ d - 1) (λ v k. k.nests) vs h)));
  }

  pub object_readable : (ms : List (List ℕ × Json)) → AllByRecursion (IsReadableMember (d - 1)) ms → IsReadable d (j.Object ms)
  object_readable ms h = record {
    formed = record {
      numbers = rw (numbers-object ms) (all_flat IsNumber (λ m. numbers_of m.1) ms (all_weaker (IsReadableMember (d - 1)) (λ m. HasNumbers m.1) (λ m k. k.1.formed.numbers) ms h));
      texts = rw (texts-object ms) (all_flat (λ t. IsUtf8 t) (λ m. m.0 ∷ texts_of m.1) ms (all_weaker (IsReadableMember (d - 1)) (λ m. Each (m.0 ∷ texts_of m.1)) (λ m k. (k.0, k.1.formed.texts)) ms h));
    };
    nests = rw (depth-object ms) (omega (arith, some, within (λ m. depth m.1) (d - 1) ms (all_weaker (IsReadableMember (d - 1)) (λ m. depth m.1 ≤ d - 1) (λ m k. k.1.nests) ms h)));
  }
