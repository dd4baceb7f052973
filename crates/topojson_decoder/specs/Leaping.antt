-- How brackets and strings nest, and what they say of where an array or an object ends.
use Rattle.std.specs.Prelude.{◌≡◌, ℕ, zero, suc, ◌-◌, ◌%◌, Bool, true, false, not, if◌then◌else◌, ◌||◌, ◌==◌, List, [], ◌∷◌, Option, Some, None}
use Rattle.json_value.specs.declared.json.Json.{Json}
use Rattle.json_cursor.specs.Arrays.{prefix_value}

-- how deep a byte stands in arrays and objects, whether in a string, and whether after a reverse solidus there
pub record Level : Type 0 where
  pub depth : ℕ
  pub quoted : Bool
  pub escaped : Bool

-- so deep, and in no string
abbrev pub at_depth : ℕ → Level
at_depth n = record { depth = n; quoted = false; escaped = false }

-- so deep, and in a string
abbrev pub in_string : ℕ → Level
in_string n = record { depth = n; quoted = true; escaped = false }

-- so deep, and in a string or not
abbrev pub level : ℕ → Bool → Level
level n q = record { depth = n; quoted = q; escaped = false }

-- "[" and "{"
abbrev pub is_opening : ℕ → Bool
is_opening b = b == 91 || b == 123

-- "]" and "}"
abbrev pub is_closing : ℕ → Bool
is_closing b = b == 93 || b == 125

-- a bracket, or the reverse solidus
abbrev pub is_mark : ℕ → Bool
is_mark b = (is_opening b || is_closing b) || b == 92

-- the quotation mark
abbrev pub is_quote : ℕ → Bool
is_quote b = b == 34

-- whether what follows so many quotation marks is in a string
abbrev pub turned : Bool → ℕ → Bool
turned q n = if n % 2 == 1 then not q else q

-- of each byte, whether what follows it is in no string, where each of these marks turns that
abbrev pub outsides : Bool → List Bool → List Bool
outsides o [] = []
outsides o (m ∷ ms) = (if m then not o else o) ∷ outsides (if m then not o else o) ms

-- one byte more of a string: the reverse solidus is 92, the quotation mark 34
abbrev pub step_in_string : Level → ℕ → Level
step_in_string l b = if l.escaped then record { depth = l.depth; quoted = l.quoted; escaped = false } else record { depth = l.depth; quoted = not (b == 34); escaped = b == 92 }

-- one byte more
abbrev pub step : Level → ℕ → Level
step l b =
    if l.quoted then step_in_string l b
    else (if is_opening b then record { depth = suc l.depth; quoted = l.quoted; escaped = l.escaped }
    else (if is_closing b then record { depth = l.depth - 1; quoted = l.quoted; escaped = l.escaped }
    else record { depth = l.depth; quoted = b == 34; escaped = l.escaped }))

abbrev pub is_zero : ℕ → Bool
is_zero zero = true
is_zero (suc n) = false

-- what follows the byte after which nothing is open any more
unfoldable pub end_of : Level → List ℕ → Option (List ℕ)
end_of l [] = None
end_of l (b ∷ bs) = if is_zero (step l b).depth then Some bs else end_of (step l b) bs

-- this follows whatever value stands at the front
abbrev pub Ends : List ℕ → List ℕ → Type 0
Ends bytes rest = (d : ℕ) (v : Json) (end : List ℕ) → prefix_value d bytes ≡ Some (v, end) → end ≡ rest
