-- Texts in a row with commas, as a list's elements are written.
use Rattle.std.specs.Prelude.{ℕ, Bool, true, false, List, [], ◌∷◌, ◌++◌, codes}

-- the comma in front of an element, unless that is the first
abbrev pub comma_unless : Bool → List ℕ
comma_unless true = []
comma_unless false = codes ","

-- the texts in a row, each with a comma in front unless it is the first
abbrev pub with_commas : Bool → List (List ℕ) → List ℕ
with_commas is_first [] = []
with_commas is_first (text ∷ texts) = comma_unless is_first ++ (text ++ with_commas false texts)

-- the texts in a row, with a comma between each two
abbrev pub comma_separated : List (List ℕ) → List ℕ
comma_separated texts = with_commas true texts
