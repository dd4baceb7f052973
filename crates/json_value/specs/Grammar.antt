-- Which bytes spell which value: the grammar of RFC 8259, sections 2 to 8, by cases on whole texts.
use Rattle.std.specs.Prelude.{◌≡◌, ◌⊎◌, ℕ, suc, ◌+◌, ◌-◌, ◌*◌, Bool, true, false, not, ◌||◌, ◌&&◌, ◌==◌, nat_le, if◌then◌else◌, List, [], ◌∷◌, ◌++◌, codes, Option, Some, None, encode_utf8}
use Rattle.decimal_text.specs.Grammar.{IsNumber}
use Rattle.json_value.specs.declared.json.Json.{Json}
use Rattle.json_value.specs.declared.json.Json.TheVariants as j

-- ---- section 2: white space is blanks, tabs, line feeds and carriage returns

abbrev pub is_space : ℕ → Bool
is_space b = b == 32 || b == 9 || b == 10 || b == 13

-- each byte is white space
abbrev pub IsSpace : List ℕ → Type 0
IsSpace [] = Unit {0}
IsSpace (b ∷ bs) = (is_space b ≡ true) × IsSpace bs

-- ---- section 7: strings

-- a byte of a string that stands for itself: none below a blank, no quotation mark and no reverse solidus
abbrev pub is_plain : ℕ → Bool
is_plain b = nat_le 32 b && (not (b == 34) && not (b == 92))

-- what a letter after a reverse solidus stands for: the quotation mark, the two solidi, b, f, n, r and t
abbrev pub unescape : ℕ → Option ℕ
unescape e =
    if e == 34 then Some 34
    else (if e == 92 then Some 92
    else (if e == 47 then Some 47
    else (if e == 98 then Some 8
    else (if e == 102 then Some 12
    else (if e == 110 then Some 10
    else (if e == 114 then Some 13
    else (if e == 116 then Some 9
    else None)))))))

-- the number that a hexadecimal digit of either case writes
abbrev pub hex_value : ℕ → Option ℕ
hex_value b =
    if nat_le 48 b && nat_le b 57 then Some (b - 48)
    else (if nat_le 65 b && nat_le b 70 then Some (b - 55)
    else (if nat_le 97 b && nat_le b 102 then Some (b - 87)
    else None))

-- the six bytes of an escape "\u" with four hexadecimal digits, and the number that they write
pub data SpellsUnit : List ℕ → ℕ → Type 0 where
  unit_of : (a b c d : ℕ) {w x y z : ℕ} → hex_value a ≡ Some w → hex_value b ≡ Some x → hex_value c ≡ Some y → hex_value d ≡ Some z
      → SpellsUnit (92 ∷ 117 ∷ a ∷ b ∷ c ∷ d ∷ []) (((w * 16 + x) * 16 + y) * 16 + z)

-- the first and the second half of a surrogate pair
abbrev pub is_high : ℕ → Bool
is_high n = nat_le 0xD800 n && nat_le n 0xDBFF

abbrev pub is_low : ℕ → Bool
is_low n = nat_le 0xDC00 n && nat_le n 0xDFFF

-- the character that a surrogate pair stands for
abbrev pub paired : ℕ → ℕ → ℕ
paired high low = 0x10000 + ((high - 0xD800) * 0x400 + (low - 0xDC00))

-- The bytes between two quotation marks spell the bytes of the text. A lone surrogate spells none.
pub data SpellsChars : List ℕ → List ℕ → Type 0 where
  chars_end : SpellsChars [] []
  chars_plain : (b : ℕ) {s t : List ℕ} → is_plain b ≡ true → SpellsChars s t → SpellsChars (b ∷ s) (b ∷ t)
  chars_escape : (e c : ℕ) {s t : List ℕ} → unescape e ≡ Some c → SpellsChars s t → SpellsChars (92 ∷ e ∷ s) (c ∷ t)
  chars_unit : (u : List ℕ) (n : ℕ) (s t : List ℕ) → SpellsUnit u n → is_high n ≡ false → is_low n ≡ false → SpellsChars s t
      → SpellsChars (u ++ s) (encode_utf8 n ++ t)
  chars_pair : (u v : List ℕ) (high low : ℕ) (s t : List ℕ) → SpellsUnit u high → SpellsUnit v low → is_high high ≡ true → is_low low ≡ true → SpellsChars s t
      → SpellsChars (u ++ (v ++ s)) (encode_utf8 (paired high low) ++ t)

-- ---- sections 3 to 6: values

-- Spells d t v: the bytes t, with no white space around them, spell v, in which arrays and objects nest no deeper than d.
mutual
  pub data Spells : ℕ → List ℕ → Json → Type 0 where
    spells_null : {d : ℕ} → Spells d (codes "null") j.Null
    spells_true : {d : ℕ} → Spells d (codes "true") (j.Bool true)
    spells_false : {d : ℕ} → Spells d (codes "false") (j.Bool false)
    spells_text : {d : ℕ} (s : List ℕ) {t : List ℕ} → SpellsChars s t → Spells d (34 ∷ s ++ 34 ∷ []) (j.Text t)
    spells_number : {d : ℕ} {t : List ℕ} → IsNumber t → Spells d t (j.Number t)
    spells_empty_array : {d : ℕ} (w : List ℕ) → IsSpace w → Spells (suc d) (91 ∷ w ++ 93 ∷ []) (j.Array [])
    spells_array : {d : ℕ} (t : List ℕ) {vs : List Json} → SpellsElements d t vs → Spells (suc d) (91 ∷ t ++ 93 ∷ []) (j.Array vs)
    spells_empty_object : {d : ℕ} (w : List ℕ) → IsSpace w → Spells (suc d) (123 ∷ w ++ 125 ∷ []) (j.Object [])
    spells_object : {d : ℕ} (t : List ℕ) {ms : List (List ℕ × Json)} → SpellsMembers d t ms → Spells (suc d) (123 ∷ t ++ 125 ∷ []) (j.Object ms)

  -- a name, a colon and a value
  pub data SpellsMember : ℕ → List ℕ → List ℕ × Json → Type 0 where
    spells_member : {d : ℕ} (s w u t : List ℕ) {name : List ℕ} {v : Json} → SpellsChars s name → IsSpace w → IsSpace u → Spells d t v
        → SpellsMember d (34 ∷ s ++ 34 ∷ (w ++ 58 ∷ (u ++ t))) (name, v)

  -- one element or more, with commas between
  pub data SpellsElements : ℕ → List ℕ → List Json → Type 0 where
    elements_last : {d : ℕ} (w t u : List ℕ) {x : Json} → IsSpace w → Spells d t x → IsSpace u → SpellsElements d (w ++ t ++ u) (x ∷ [])
    elements_more : {d : ℕ} (w t u ts : List ℕ) {x : Json} {xs : List Json} → IsSpace w → Spells d t x → IsSpace u → SpellsElements d ts xs → SpellsElements d (w ++ t ++ u ++ 44 ∷ ts) (x ∷ xs)

  -- one member or more, with commas between
  pub data SpellsMembers : ℕ → List ℕ → List (List ℕ × Json) → Type 0 where
    members_last : {d : ℕ} (w t u : List ℕ) {x : List ℕ × Json} → IsSpace w → SpellsMember d t x → IsSpace u → SpellsMembers d (w ++ t ++ u) (x ∷ [])
    members_more : {d : ℕ} (w t u ts : List ℕ) {x : List ℕ × Json} {xs : List (List ℕ × Json)} → IsSpace w → SpellsMember d t x → IsSpace u → SpellsMembers d ts xs → SpellsMembers d (w ++ t ++ u ++ 44 ∷ ts) (x ∷ xs)

-- a value with white space around it
abbrev pub SpellsText : ℕ → List ℕ → Json → Type 0
SpellsText d b v = (w t u : List ℕ) × IsSpace w × Spells d t v × IsSpace u × (b ≡ w ++ t ++ u)

-- the byte order mark, U+FEFF in UTF-8
abbrev pub mark : List ℕ
mark = 239 ∷ 187 ∷ 191 ∷ []

-- Reads d b v: the bytes b, after at most one byte order mark, spell the value v, in which nothing nests deeper than d.
abbrev pub Reads : ℕ → List ℕ → Json → Type 0
Reads d b v = SpellsText d b v ⊎ ((rest : List ℕ) × (b ≡ mark ++ rest) × SpellsText d rest v)
