-- Numbers and texts as JSON values, and null in their place.
use Rattle.std.specs.Prelude.{ℕ, List, decimal, Option, None, Some}
use Rattle.json_value.specs.declared.json.Json.{Json}
use Rattle.json_value.specs.declared.json.Json.TheVariants as j

-- a whole number in decimal digits
abbrev pub number : ℕ → Json
number n = j.Number (decimal n)

abbrev pub number_or_null : Option ℕ → Json
number_or_null None = j.Null
number_or_null (Some n) = number n

abbrev pub text_or_null : Option (List ℕ) → Json
text_or_null None = j.Null
text_or_null (Some text) = j.Text text
