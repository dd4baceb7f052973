-- What kind of file bytes begin as that are no JSON text.
use Rattle.std.specs.Prelude.{ℕ, Bool, true, false, List, [], ◌∷◌, ◌==◌, ◌&&◌, ◌||◌, ◌%◌, codes, is_some, nat_le, if◌then◌else◌}
use Rattle.json_value.specs.Reading.{after_word, skip}
use Rattle.fault_explanations.specs.declared.form.FileForm.{FileForm}
use Rattle.fault_explanations.specs.declared.form.FileForm.TheVariants.{Gzip, Zip, Shapefile, ShapefileTable, Sqlite, FlatGeobuf, Utf16, Kml, Markup, Blank, Other}

-- the bytes begin with these
abbrev pub begins : List ℕ → List ℕ → Bool
begins word bytes = is_some (after_word word bytes)

-- from this number to that one
abbrev pub is_within : ℕ → ℕ → ℕ → Bool
is_within low high n = nat_le low n && nat_le n high

-- an ASCII character that a text may have: a tab, a line feed, a carriage return, or one that is seen
abbrev pub is_plain : ℕ → Bool
is_plain b = (b == 9) || ((b == 10) || ((b == 13) || is_within 32 126 b))

-- a zero and an ASCII character
abbrev pub is_pair : ℕ → ℕ → Bool
is_pair empty letter = (empty == 0) && is_plain letter

-- two characters of UTF-16 that are ASCII, with the zero of each before or behind it
abbrev pub begins_in_pairs : List ℕ → Bool
begins_in_pairs (a ∷ b ∷ c ∷ d ∷ bs) = (is_pair a b && is_pair c d) || (is_pair b a && is_pair d c)
begins_in_pairs bs = false

-- there are no bytes
abbrev pub none_left : List ℕ → Bool
none_left [] = true
none_left (b ∷ bs) = false

-- text of UTF-16 begins with the byte order mark, or with two characters that are ASCII
abbrev pub is_utf16 : List ℕ → Bool
is_utf16 bytes = begins (255 ∷ 254 ∷ []) bytes || (begins (254 ∷ 255 ∷ []) bytes || begins_in_pairs bytes)

-- The table of a shapefile (dBASE III) begins with 3, the year, month and day of its last change, the number of its rows in four bytes, and the
-- length of its header, which is one more than a multiple of 32.
abbrev pub is_table : List ℕ → Bool
is_table (version ∷ year ∷ month ∷ day ∷ r0 ∷ r1 ∷ r2 ∷ r3 ∷ low ∷ bs) = (version == 3) && (is_within 1 12 month && (is_within 1 31 day && (low % 32 == 1)))
is_table bs = false

-- the byte `>`
abbrev pub greater_than : ℕ
greater_than = 62

-- what stands after the first `>`
unfoldable pub after_greater : List ℕ → List ℕ
after_greater [] = []
after_greater (b ∷ bs) = if b == greater_than then bs else after_greater bs

-- the element `kml` comes first (OGC 12-007r2), or after an XML declaration, which has one `>`
abbrev pub is_kml : List ℕ → Bool
is_kml bytes = begins (codes "<kml") bytes || (begins (codes "<?xml") bytes && begins (codes "<kml") (skip (after_greater bytes)))

-- what stands after white space
abbrev pub text_form : List ℕ → FileForm
text_form bytes = if none_left bytes then Blank
    else (if is_kml bytes then Kml
    else (if begins (codes "<") bytes then Markup else Other))

-- a shapefile's parts with shapes and their index begin with the number 9994 in four bytes
abbrev pub shapefile_code : List ℕ
shapefile_code = 0 ∷ 0 ∷ 39 ∷ 10 ∷ []

-- the text that a database of SQLite begins with, but for the zero at its end
abbrev pub sqlite_words : List ℕ
sqlite_words = codes "SQLite format 3"

-- FlatGeobuf of version 3 begins with `fgb` and 3
abbrev pub flatgeobuf_code : List ℕ
flatgeobuf_code = 102 ∷ 103 ∷ 98 ∷ 3 ∷ []

-- what is no text begins with bytes of its own, as gzip (RFC 1952, section 2.3.1) and zip
unfoldable pub form_of : List ℕ → FileForm
form_of bytes =
    if begins (31 ∷ 139 ∷ []) bytes then Gzip
    else (if begins (80 ∷ 75 ∷ 3 ∷ 4 ∷ []) bytes then Zip
    else (if begins shapefile_code bytes then Shapefile
    else (if begins sqlite_words bytes then Sqlite
    else (if begins flatgeobuf_code bytes then FlatGeobuf
    else (if is_table bytes then ShapefileTable
    else (if is_utf16 bytes then Utf16
    else text_form (skip bytes)))))))
