-- Arrays at the front of bytes, step by step.
use Rattle.std.specs.Prelude.{◌≡◌, ℕ, List, [], ◌∷◌, ◌++◌, length, Option, Some, None, Ok}
use Rattle.std.specs.Str.{is_utf8}
use Rattle.json_value.specs.declared.json.Json.{Json}
use Rattle.json_value.specs.declared.json.Json.TheVariants as j
use Rattle.json_value.specs.Kinds.{array_of}
use Rattle.json_value.specs.Reading.{Parse, ◌>>=◌, skip, list_after, list_at, value_at}
use Rattle.json_value.specs.Readers.{Counting, and_then, give, fail, gather, if_some}
use Rattle.geojson_types.specs.declared.counts.Counts.{Counts}
use Rattle.geojson_types.specs.Counting.{count_empty}
use Rattle.json_cursor.specs.declared.marks.Mark.{Mark}
use Rattle.json_cursor.specs.declared.marks.Mark.TheVariants as mark
use Rattle.json_cursor.specs.declared.marks.Opening.{Opening}
use Rattle.json_cursor.specs.declared.marks.Opening.TheVariants as opening

-- what stands at the front, where arrays and objects may nest so deep, and what follows it
abbrev pub prefix_value : ℕ → Parse Json
prefix_value d = value_at is_utf8 d

-- one element or more after the bracket of an array, up to the one that closes it (93), in so many turns
abbrev pub prefix_elements : ℕ → ℕ → Parse (List Json)
prefix_elements d turns = list_at 93 (value_at is_utf8 d) turns

-- what stands there, in so many turns, are the last of these elements
abbrev pub AreLast : ℕ → ℕ → List ℕ → ℕ → List ℕ → Type 0
AreLast d turns inside n left = (before : List Json) × (prefix_elements d turns inside ≡ (prefix_elements d n left >>= λ xs. Some (before ++ xs.0, xs.1)))

-- after white space stands a comma (44), the bracket that closes (93), or what ends no element
abbrev pub Marks : List ℕ → Mark → List ℕ → Type 0
Marks bytes mark.Comma rest = skip bytes ≡ 44 ∷ rest
Marks bytes mark.Close rest = skip bytes ≡ 93 ∷ rest
Marks bytes mark.Neither rest = (more : Parse (List Json)) (v : Json) → list_after 93 more v (skip bytes) ≡ None

-- At the front stands no array, or no value, or an empty array, or elements after a bracket.
abbrev pub Opens : ℕ → List ℕ → Opening → List ℕ → Type 0
Opens d bytes opening.NoArray rest = (v : Json) (end : List ℕ) → prefix_value d bytes ≡ Some (v, end) → array_of v ≡ None
Opens d bytes opening.TooDeep rest = prefix_value d bytes ≡ None
Opens d bytes opening.Empty rest = prefix_value d bytes ≡ Some (j.Array [], rest)
Opens d bytes (opening.Filled below) inside = prefix_value d bytes ≡ (prefix_elements below (length inside) inside >>= λ xs. Some (j.Array xs.0, xs.1))

-- ---- arrays by what is read of their elements

-- what is no array has this fault
abbrev pub list_by : {C E B : Type 0} → E → (List Json → Counting C E B) → Option (List Json) → Counting C E B
list_by wrong read None = fail wrong
list_by wrong read (Some vs) = read vs

unfoldable pub array_by : {C E B : Type 0} → E → (List Json → Counting C E B) → Json → Counting C E B
array_by wrong read v = list_by wrong read (array_of v)

-- no elements are counted, and give nothing
abbrev pub some_of : {E : Type 0} → List Json → Counting Counts E (Option (List Json))
some_of [] = λ c. Ok (None, count_empty c)
some_of (v ∷ vs) = give (Some (v ∷ vs))

-- what is read of an array that is to have elements: an empty one is counted, and gives nothing
abbrev pub some_array_by : {E B : Type 0} → E → (List Json → Counting Counts E (Option B)) → Json → Counting Counts E (Option B)
some_array_by wrong read v = λ c. and_then (if_some read) (array_by wrong some_of v c)

-- of these nothing is left where the first ones are none
abbrev pub led : {B : Type 0} → List B → List B → Option (List B)
led [] ys = None
led (x ∷ xs) ys = Some (x ∷ xs ++ ys)

-- the first leads the others, which are read where it is left out too
abbrev pub led_by : {C E B : Type 0} → (Json → Counting C E (List B)) → List Json → Counting C E (Option (List B))
led_by read [] = give None
led_by read (v ∷ vs) = λ c. and_then (λ xs. λ d. and_then (λ ys. give (led xs ys)) (gather read vs d)) (read v c)

-- what is read of the elements, whatever it is
abbrev pub always : {C E B : Type 0} → (List Json → Counting C E B) → List Json → Counting C E (Option B)
always read vs = λ c. and_then (λ x. give (Some x)) (read vs c)
