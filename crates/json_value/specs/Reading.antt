-- Reading as a function on lists, step by step: what stands at the front of the bytes, and the bytes after it.
-- What it means is in the grammar: what is read is spelled so, and what is spelled so is read.
use Rattle.std.specs.Prelude.{ℕ, zero, suc, ◌+◌, ◌*◌, Bool, true, false, if◌then◌else◌, ◌==◌, ◌||◌, ◌-◌, take, List, [], ◌∷◌, ◌++◌, length, codes, Option, Some, None, option_and_then, encode_utf8}
use Rattle.decimal_text.specs.Grammar.{is_digit, is_e}
use Rattle.json_value.specs.declared.json.Json.{Json}
use Rattle.json_value.specs.declared.json.Json.TheVariants as j
use Rattle.json_value.specs.Grammar.{is_space, is_plain, unescape, hex_value, is_high, is_low, paired, mark}

-- what stands at the front and what is after it, or nothing
abbrev pub Parse : Type 0 → Type 0
Parse A = List ℕ → Option (A × List ℕ)

infixl 10 ◌>>=◌
abbrev pub ◌>>=◌ : {A B : Type 0} → Option A → (A → Option B) → Option B
o >>= f = option_and_then f o

-- what follows white space
unfoldable pub skip : List ℕ → List ℕ
skip [] = []
skip (b ∷ bs) = if is_space b then skip bs else b ∷ bs

-- what follows the word, where it stands at the front
unfoldable pub after_word : List ℕ → List ℕ → Option (List ℕ)
after_word [] bs = Some bs
after_word (c ∷ cs) [] = None
after_word (c ∷ cs) (b ∷ bs) = if b == c then after_word cs bs else None

-- a word after its first letter
unfoldable pub word_at : List ℕ → Json → Parse Json
word_at word v bs = after_word word bs >>= λ rest. Some (v, rest)

-- ---- strings

-- the bytes at the front that stand for themselves
unfoldable pub plain_prefix : List ℕ → List ℕ
plain_prefix [] = []
plain_prefix (b ∷ bs) = if is_plain b then b ∷ plain_prefix bs else []

-- what follows the bytes that stand for themselves
unfoldable pub after_plain : List ℕ → List ℕ
after_plain [] = []
after_plain (b ∷ bs) = if is_plain b then after_plain bs else b ∷ bs

-- a hexadecimal digit
unfoldable pub hex_at : Parse ℕ
hex_at [] = None
hex_at (b ∷ bs) = hex_value b >>= λ n. Some (n, bs)

-- four of them
unfoldable pub unit_at : Parse ℕ
unit_at bs = hex_at bs >>= λ w. hex_at w.1 >>= λ x. hex_at x.1 >>= λ y. hex_at y.1 >>= λ z. Some (((w.0 * 16 + x.0) * 16 + y.0) * 16 + z.0, z.1)

-- the character of a surrogate pair, after its first half and "\u"
unfoldable pub low_at : ℕ → Parse ℕ
low_at high bs = after_word (codes "\\u") bs >>= λ rest. unit_at rest >>= λ low. if is_low low.0 then Some (paired high low.0, low.1) else None

-- the character of an escape, after "\u"
unfoldable pub unicode_at : Parse ℕ
unicode_at bs = unit_at bs >>= λ n. if is_high n.0 then low_at n.0 n.1 else (if is_low n.0 then None else Some n)

-- the character of an escape, after the reverse solidus: 117 is "u"
unfoldable pub escape_at : Parse ℕ
escape_at [] = None
escape_at (e ∷ bs) = if e == 117 then unicode_at bs else (unescape e >>= λ c. Some (c, bs))

-- after plain bytes: the quotation mark (34) that ends the string, or a reverse solidus (92), an escape and more
unfoldable pub chars_after : Parse (List ℕ) → List ℕ → Parse (List ℕ)
chars_after more run [] = None
chars_after more run (b ∷ bs) =
    if b == 34 then Some (run, bs)
    else (if b == 92 then (escape_at bs >>= λ c. more c.1 >>= λ t. Some (run ++ (encode_utf8 c.0 ++ t.0), t.1)) else None)

-- the text of a string, up to its quotation mark. The number bounds the turns.
unfoldable pub chars_at : ℕ → Parse (List ℕ)
chars_at zero bs = None
chars_at (suc n) bs = chars_after (chars_at n) (plain_prefix bs) (after_plain bs)

-- The test `fits` says which texts are taken, here and below: those that are UTF-8, where the code reads.
unfoldable pub if_text : (List ℕ → Bool) → List ℕ → Parse (List ℕ)
if_text fits t bs = if fits t then Some (t, bs) else None

-- a string after its first quotation mark
unfoldable pub string_at : (List ℕ → Bool) → Parse (List ℕ)
string_at fits bs = chars_at (length bs) bs >>= λ x. if_text fits x.0 x.1

-- ---- numbers: what follows each part

-- what follows the digits, if there are any
unfoldable pub after_digits : List ℕ → List ℕ
after_digits [] = []
after_digits (b ∷ bs) = if is_digit b then after_digits bs else b ∷ bs

-- one digit or more
unfoldable pub after_some_digits : List ℕ → Option (List ℕ)
after_some_digits [] = None
after_some_digits (b ∷ bs) = if is_digit b then Some (after_digits bs) else None

-- the minus sign is 45
unfoldable pub after_minus : List ℕ → List ℕ
after_minus [] = []
after_minus (b ∷ bs) = if b == 45 then bs else b ∷ bs

-- "0" is 48
unfoldable pub after_whole : List ℕ → Option (List ℕ)
after_whole [] = None
after_whole (b ∷ bs) = if b == 48 then Some bs else after_some_digits (b ∷ bs)

-- the decimal point is 46
unfoldable pub after_fraction : List ℕ → Option (List ℕ)
after_fraction [] = Some []
after_fraction (b ∷ bs) = if b == 46 then after_some_digits bs else Some (b ∷ bs)

-- the plus sign is 43
unfoldable pub after_sign : List ℕ → List ℕ
after_sign [] = []
after_sign (b ∷ bs) = if b == 43 || b == 45 then bs else b ∷ bs

-- "e" or "E", a sign and digits, if they are there
unfoldable pub after_exponent : List ℕ → Option (List ℕ)
after_exponent [] = Some []
after_exponent (b ∷ bs) = if is_e b then after_some_digits (after_sign bs) else Some (b ∷ bs)

-- the four parts
unfoldable pub after_number : List ℕ → Option (List ℕ)
after_number bs = after_whole (after_minus bs) >>= λ xs. after_fraction xs >>= λ ys. after_exponent ys

-- the text of a number is what stands before the rest
unfoldable pub number_at : Parse (List ℕ)
number_at bs = after_number bs >>= λ rest. Some (take (length bs - length rest) bs, rest)

-- ---- lists, up to the byte that closes them

-- after a thing: a comma (44) and more, or the end
unfoldable pub list_after : {A : Type 0} → ℕ → Parse (List A) → A → Parse (List A)
list_after close more x [] = None
list_after close more x (b ∷ bs) = if b == 44 then (more bs >>= λ xs. Some (x ∷ xs.0, xs.1)) else (if b == close then Some (x ∷ [], bs) else None)

-- one thing or more. The number bounds the turns.
unfoldable pub list_at : {A : Type 0} → ℕ → Parse A → ℕ → Parse (List A)
list_at close item zero bs = None
list_at close item (suc n) bs = item (skip bs) >>= λ x. list_after close (list_at close item n) x.0 (skip x.1)

-- what follows the byte that closes, where the list is empty
unfoldable pub closes : ℕ → List ℕ → Option (List ℕ)
closes close bs = after_word (close ∷ []) (skip bs)

-- an empty list, where that byte was found, and else one of some things
unfoldable pub items_unless : {A : Type 0} → ℕ → Parse A → List ℕ → Option (List ℕ) → Option (List A × List ℕ)
items_unless close item bs (Some rest) = Some ([], rest)
items_unless close item bs None = list_at close item (length bs) bs

-- a list after the bracket that opens it
unfoldable pub items_at : {A : Type 0} → ℕ → Parse A → Parse (List A)
items_at close item bs = items_unless close item bs (closes close bs)

-- ---- values

-- a string with its quotation marks
unfoldable pub name_at : (List ℕ → Bool) → Parse (List ℕ)
name_at fits bs = after_word (codes "\"") bs >>= λ rest. string_at fits rest

-- a name, a colon and a value
unfoldable pub member_at : (List ℕ → Bool) → Parse Json → Parse (List ℕ × Json)
member_at fits value bs = name_at fits bs >>= λ name. after_word (codes ":") (skip name.1) >>= λ rest. value (skip rest) >>= λ v. Some ((name.0, v.0), v.1)

-- a value, by its first byte: n, t, f, the quotation mark (34), [ (91), { (123), or one of a number's
unfoldable pub value_with : (List ℕ → Bool) → Parse (List Json) → Parse (List (List ℕ × Json)) → Parse Json
value_with fits items members [] = None
value_with fits items members (b ∷ bs) =
    if b == 110 then word_at (codes "ull") j.Null bs
    else (if b == 116 then word_at (codes "rue") (j.Bool true) bs
    else (if b == 102 then word_at (codes "alse") (j.Bool false) bs
    else (if b == 34 then (string_at fits bs >>= λ t. Some (j.Text t.0, t.1))
    else (if b == 91 then (items bs >>= λ xs. Some (j.Array xs.0, xs.1))
    else (if b == 123 then (members bs >>= λ ms. Some (j.Object ms.0, ms.1))
    else (number_at (b ∷ bs) >>= λ t. Some (j.Number t.0, t.1)))))))

-- a value, in which arrays and objects nest no deeper than the number: ] is 93, } is 125
unfoldable pub value_at : (List ℕ → Bool) → ℕ → Parse Json
value_at fits zero = value_with fits (λ _. None) (λ _. None)
value_at fits (suc d) = value_with fits (items_at 93 (value_at fits d)) (items_at 125 (member_at fits (value_at fits d)))

-- the elements of an array after its bracket, and one element or more
abbrev pub array_at : (List ℕ → Bool) → ℕ → Parse (List Json)
array_at fits d = items_at 93 (value_at fits d)

abbrev pub elements_at : (List ℕ → Bool) → ℕ → ℕ → Parse (List Json)
elements_at fits d = list_at 93 (value_at fits d)

-- the members of an object after its brace, and one member or more
abbrev pub object_at : (List ℕ → Bool) → ℕ → Parse (List (List ℕ × Json))
object_at fits d = items_at 125 (member_at fits (value_at fits d))

abbrev pub members_at : (List ℕ → Bool) → ℕ → ℕ → Parse (List (List ℕ × Json))
members_at fits d = list_at 125 (member_at fits (value_at fits d))

-- ---- whole texts

-- a value, with nothing after it
unfoldable pub ended : Json → List ℕ → Option Json
ended v [] = Some v
ended v (b ∷ bs) = None

-- a value with white space around it
unfoldable pub document : (List ℕ → Bool) → ℕ → List ℕ → Option Json
document fits d bs = value_at fits d (skip bs) >>= λ x. ended x.0 (skip x.1)

-- the bytes without the prefix that was found
abbrev pub without : List ℕ → Option (List ℕ) → List ℕ
without bs None = bs
without bs (Some rest) = rest

-- a value with white space around it, after at most one byte order mark
unfoldable pub text_at : (List ℕ → Bool) → ℕ → List ℕ → Option Json
text_at fits d bs = document fits d (without bs (after_word mark bs))
