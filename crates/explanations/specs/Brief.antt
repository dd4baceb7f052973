-- An explanation in brief: of lines of one kind that stand beside each other ten, and how many more there are.
use Rattle.std.specs.Prelude.{ℕ, Bool, true, false, List, [], ◌∷◌, ◌++◌, ◌-◌, Option, None, Some, codes, decimal, is_some, nat_eq, nat_le, nat_lt, if◌then◌else◌}
use Rattle.std.specs.List.{ends_with}
use Rattle.geojson_types.specs.Counting.{one_more}
use Rattle.json_value.specs.Reading.{after_word}
use Rattle.reports.specs.Lines.{lines_of}
use Rattle.explanations.specs.declared.brief.LineKind.{LineKind}
use Rattle.explanations.specs.declared.brief.LineKind.TheVariants.{Loss, Bare, Unread, System, Swapped, Object}
use Rattle.explanations.specs.declared.brief.Run.{Run}

-- ---- kinds of lines

-- how a line ends that tells of a feature that is lost
abbrev pub loss_ending : List ℕ
loss_ending = codes ": nothing of its geometry is left"

-- of a layer with features that have no geometry
abbrev pub bare_ending : List ℕ
bare_ending = codes " no geometry"

-- of members of a layer that aren't read
abbrev pub unread_ending : List ℕ
unread_ending = codes " left out"

-- of a layer whose coordinates may not be degrees
abbrev pub system_ending : List ℕ
system_ending = codes ", which may not be degrees"

-- of a layer that seems to have its latitudes first
abbrev pub swapped_ending : List ℕ
swapped_ending = codes ", as GeoJSON has the longitude first"

-- how a line begins that tells of an object of a topology
abbrev pub object_beginning : List ℕ
object_beginning = codes "  object "

abbrev pub other_kind : List ℕ → Option LineKind
other_kind line = if is_some (after_word object_beginning line) then Some Object else None

-- what a line tells of, where there may be many such lines
abbrev pub kind_of : List ℕ → Option LineKind
kind_of line =
    if ends_with nat_eq line loss_ending then Some Loss
    else (if ends_with nat_eq line bare_ending then Some Bare
    else (if ends_with nat_eq line unread_ending then Some Unread
    else (if ends_with nat_eq line system_ending then Some System
    else (if ends_with nat_eq line swapped_ending then Some Swapped else other_kind line))))

abbrev pub is_same : LineKind → LineKind → Bool
is_same Loss Loss = true
is_same Bare Bare = true
is_same Unread Unread = true
is_same System System = true
is_same Swapped Swapped = true
is_same Object Object = true
is_same one other = false

-- both are of one kind
abbrev pub are_same : Option LineKind → Option LineKind → Bool
are_same (Some one) (Some other) = is_same one other
are_same one other = false

-- ---- lines in brief

-- so many of a kind stand at most
abbrev pub most : ℕ
most = 10

-- after so many, how many don't stand
abbrev pub more_text : ℕ → List ℕ
more_text n = if nat_le n most then [] else (codes "  and " ++ decimal (n - most)) ++ codes " more\n"

abbrev pub line_text : List ℕ → List ℕ
line_text line = line ++ codes "\n"

-- no line stands in front
abbrev pub start : Run
start = record { kind = None; count = 0 }

-- a line of this kind after these
abbrev pub text_of_kind : Run → Option LineKind → List ℕ → List ℕ
text_of_kind r k line = if are_same r.kind k then (if nat_lt r.count most then line_text line else []) else more_text r.count ++ line_text line

-- the lines of its kind that stand beside each other then
abbrev pub run_of_kind : Run → Option LineKind → Run
run_of_kind r k = if are_same r.kind k then record { kind = r.kind; count = one_more r.count } else record { kind = k; count = 1 }

-- a line after these
abbrev pub text_after : Run → List ℕ → List ℕ
text_after r line = text_of_kind r (kind_of line) line

abbrev pub run_after : Run → List ℕ → Run
run_after r line = run_of_kind r (kind_of line)

-- lines after these
abbrev pub brief_after : Run → List (List ℕ) → List ℕ
brief_after r [] = more_text r.count
brief_after r (line ∷ lines) = text_after r line ++ brief_after (run_after r line) lines

abbrev pub brief : List ℕ → List ℕ
brief text = brief_after start (lines_of text)
