-- Where a byte stands in a text: its line, and its column in characters.
use Rattle.std.specs.Prelude.{ℕ, Bool, List, [], ◌∷◌, ◌==◌, ◌&&◌, nat_le, nat_lt, if◌then◌else◌}
use Rattle.geojson_types.specs.Counting.{one_more}
use Rattle.fault_explanations.specs.declared.place.Place.{Place}

-- where a text begins
abbrev pub start : Place
start = record { line = 1; column = 1 }

-- a byte that goes on with a character (RFC 3629, section 3): from 0x80 to 0xbf
abbrev pub goes_on : ℕ → Bool
goes_on b = nat_le 128 b && nat_lt b 192

-- where the next byte stands, after a byte that stands there: a line feed, 10, ends its line
abbrev pub following : ℕ → Place → Place
following b p =
    if b == 10 then record { line = one_more p.line; column = 1 }
    else (if goes_on b then p else record { line = p.line; column = one_more p.column })

-- where the next byte stands after these
unfoldable pub place_after : List ℕ → Place → Place
place_after [] p = p
place_after (b ∷ bs) p = place_after bs (following b p)
