-- The members of properties (RFC 8259, section 4, of the object that they are), and those that a text has.
use Rattle.std.specs.Prelude.{ℕ, List, [], Option, Some, None}
use Rattle.std.specs.Coded.{Coded, coded×, coded_ℕ, coded_list}
use Rattle.std.specs.Str.{is_utf8}
use Rattle.json_value.specs.declared.json.Json.{Json}
use Rattle.json_value.specs.contracts.json.Json as json
use Rattle.json_value.specs.Kinds.{object_of}
use Rattle.json_value.specs.Limits.{properties_depth}
use Rattle.json_value.specs.Reading.{value_at}

-- names and values, in order and with duplicates
abbrev pub Members : Type 0
Members = List (List ℕ × Json)

-- their code
abbrev pub members_code : Coded Members
members_code = coded_list (coded× (coded_list coded_ℕ) json.the_row.coded)

-- the members, if it is an object
abbrev pub members_if : Option Members → Members
members_if None = []
members_if (Some ms) = ms

-- the members of the value that was read, if it is an object
abbrev pub members_read : Option (Json × List ℕ) → Members
members_read None = []
members_read (Some x) = members_if (object_of x.0)

-- the members of the object that the text begins with, in which arrays and objects nest no deeper than properties may
unfoldable pub members_in : List ℕ → Members
members_in text = members_read (value_at is_utf8 properties_depth text)
