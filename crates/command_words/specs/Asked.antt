-- What the words after the program's name ask for.
use Rattle.std.specs.Prelude.{◌≡◌, ◌⊎◌, ◌+◌, ◌-◌, ◌^◌, ◌==◌, ℕ, Bool, is_some, ◌&&◌, List, [], ◌∷◌, map, take, drop, codes, Option, Some, None}
use Rattle.std.specs.Prelude.{Result, Ok, Err, if◌then◌else◌, option_map, option_and_then, unwrap_or}
use Rattle.std.specs.List.{position}
use Rattle.std.specs.Str.{bytes_eq}
use Rattle.std.specs.Str.Parse.{digits_value, without_leading_plus}
use Rattle.clap.specs.ValueTests.{is_unsigned_in}
use Rattle.clap.specs.Walk.{Row, Text, all_of, first_of, one_of, rows_of}
use Rattle.clap.specs.Matches.{found_of}
use Rattle.clap.specs.Simple.{subcommand_of}
use Rattle.clap.specs.Faults.{fault_of}
use Rattle.clap.specs.Kinds.{Kinds}
use Rattle.clap.specs.declared.parser.matches.ArgMatches.{ArgMatches}
use Rattle.command_words.specs.LayerWords.{equals_sign}
use Rattle.command_words.specs.CommandLine.{program_app}
use Rattle.command_words.specs.declared.request.Order.{Order}
use Rattle.command_words.specs.declared.request.Request.{Request}
use Rattle.command_words.specs.declared.request.Request.TheVariants.{Build, Simplify, Geo, Stat}
use Rattle.command_words.specs.declared.words_fault.WordsFault.{WordsFault}
use Rattle.command_words.specs.declared.words_fault.WordsFault.TheVariants.{Memory}

pub data Asked : Type 0 where
  -- the names and paths of the layers, whether rounding is refused, the cells of the grid, the area, the share, the ring area, whether no
  -- crossing may be made, and whether shapes stay
  build : List (Text × Text) → Bool → Option ℕ → Text → Option Text → Text → Bool → Bool → Asked
  -- the area, the share, the ring area, whether no crossing may be made, whether shapes stay, and the file
  simplify : Text → Option Text → Text → Bool → Bool → Text → Asked
  -- the object, the most positions that its features may have, and the file
  geo : Text → Option ℕ → Text → Asked
  -- whether crossings are counted, and the file
  stat : Bool → Text → Asked

-- a request as what it asks for
abbrev pub asked : Request → Asked
asked (Build layers exact grid area keep ring_area no_crossings keep_shapes) =
    build (map (λ l. (l.0.now, l.1.now)) layers.items) exact grid area.now (option_map (λ k. k.now) keep) ring_area.now no_crossings keep_shapes
asked (Simplify area keep ring_area no_crossings keep_shapes path) =
    simplify area.now (option_map (λ k. k.now) keep) ring_area.now no_crossings keep_shapes path.now
asked (Geo name most path) = geo name.now most path.now
asked (Stat crossings path) = stat crossings path.now

-- what is asked for, and the file that the output goes to, if it isn't standard output
abbrev pub Ordered : Type 0
Ordered = Asked × Option Text

-- an order as what it asks for
abbrev pub ordered : Order → Ordered
ordered order = (asked order.request, option_map (λ o. o.now) order.output)

-- ---- values

-- a layer word in two, before and after its first `=`
abbrev pub layer_of : Text → Option (Text × Text)
layer_of word = option_map (λ i. (take i word, drop (i + 1) word)) (position (λ c. c == equals_sign) word)

abbrev pub and_layer : Option (Text × Text) → Option (List (Text × Text)) → Option (List (Text × Text))
and_layer (Some layer) (Some layers) = Some (layer ∷ layers)
and_layer _ _ = None

-- all layer words in two, if each has an `=`
abbrev pub layers_of : List Text → Option (List (Text × Text))
layers_of [] = Some []
layers_of (word ∷ words) = and_layer (layer_of word) (layers_of words)

-- a whole number in this range
abbrev pub number_in : ℕ → ℕ → Text → Option ℕ
number_in least most text = if is_unsigned_in least most text then Some (digits_value 10 (without_leading_plus text)) else None

-- a number of cells, from 2 to 10^9
abbrev pub cells_of : Text → Option ℕ
cells_of text = number_in 2 (10 ^ 9) text

-- a whole number, up to 2^64 - 1
abbrev pub whole_number : Text → Option ℕ
whole_number text = number_in 0 (2 ^ 64 - 1) text

-- ---- what was found for the arguments of a command

-- the first value of this argument
abbrev pub text_of : Text → List Row → Text
text_of id rows = unwrap_or (first_of id rows) []

-- a flag is given
abbrev pub is_set : Text → List Row → Bool
is_set id rows = bytes_eq (text_of id rows) (codes "true")

-- the area, which is 0 where none is given
abbrev pub area_in : List Row → Text
area_in rows = unwrap_or (first_of (codes "min-area") rows) (codes "0")

-- the share that takes its place, if any
abbrev pub keep_in : List Row → Option Text
keep_in rows = first_of (codes "keep") rows

-- the ring area, which is 0 where none is given
abbrev pub ring_area_in : List Row → Text
ring_area_in rows = unwrap_or (first_of (codes "min-ring-area") rows) (codes "0")

-- an area and a share are given both
abbrev pub has_both : List Row → Bool
has_both rows = is_some (first_of (codes "min-area") rows) && is_some (keep_in rows)

-- the number of a text, if one is given
abbrev pub number_at : (Text → Option ℕ) → Option Text → Option (Option ℕ)
number_at number None = Some None
number_at number (Some text) = option_map (λ n. Some n) (number text)

abbrev pub grid_at : Option Text → Option (Option ℕ)
grid_at given = number_at cells_of given

abbrev pub grid_in : List Row → Option (Option ℕ)
grid_in rows = grid_at (one_of (codes "grid") rows)

-- the words for layers
abbrev pub layer_words : List Row → List Text
layer_words rows = unwrap_or (all_of (codes "layers") rows) []

abbrev pub layers_in : List Row → Option (List (Text × Text))
layers_in rows = layers_of (layer_words rows)

-- a build of these layers on this grid
abbrev pub build_on : List Row → Option ℕ → List (Text × Text) → Asked
build_on rows grid layers = build layers (is_set (codes "exact") rows) grid (area_in rows) (keep_in rows) (ring_area_in rows) (is_set (codes "no-crossings") rows) (is_set (codes "keep-shapes") rows)

-- what `build` asks for, which takes no share beside an area
abbrev pub build_in : List Row → Option Asked
build_in rows = if has_both rows then None else option_and_then (λ grid. option_map (build_on rows grid) (layers_in rows)) (grid_in rows)

-- what `simplify` asks for, which takes none either
abbrev pub simplify_in : List Row → Option Asked
simplify_in rows = if has_both rows then None
    else Some (simplify (area_in rows) (keep_in rows) (ring_area_in rows) (is_set (codes "no-crossings") rows) (is_set (codes "keep-shapes") rows) (text_of (codes "file") rows))

-- the most positions that the features of an object may have, if any are given
abbrev pub most_in : List Row → Option (Option ℕ)
most_in rows = number_at whole_number (first_of (codes "max-positions") rows)

-- what `geo` asks for, which takes a number of positions alone
abbrev pub geo_in : List Row → Option Asked
geo_in rows = option_map (λ most. geo (text_of (codes "object") rows) most (text_of (codes "file") rows)) (most_in rows)

abbrev pub stat_in : List Row → Asked
stat_in rows = stat (is_set (codes "crossings") rows) (text_of (codes "file") rows)

-- what a command of this name asks for
abbrev pub asked_in : Text × List Row → Option Asked
asked_in found =
    if bytes_eq found.0 (codes "build") then build_in found.1
    else (if bytes_eq found.0 (codes "simplify") then simplify_in found.1
    else (if bytes_eq found.0 (codes "geo") then geo_in found.1
    else (if bytes_eq found.0 (codes "stat") then Some (stat_in found.1)
    else None)))

-- the file that the output goes to, if it isn't standard output
abbrev pub output_in : List Row → Option Text
output_in rows = first_of (codes "output") rows

-- what a command of this name asks for, with the file that the output goes to
abbrev pub ordered_in : Text × List Row → Option Ordered
ordered_in found = option_map (λ a. (a, output_in found.1)) (asked_in found)

-- ---- the words

abbrev pub where_none : {X : Type 0} → Kinds → Option X → Option X
where_none [] o = o
where_none (k ∷ ks) o = None

-- the kinds of error by which the command line may refuse the words, or print help; where there are none it takes them
abbrev pub kinds_of : List Text → Kinds
kinds_of words = fault_of program_app words

-- what the words ask for, if the command line takes them
abbrev pub order_of : List Text → Option Ordered
order_of words = where_none (kinds_of words) (option_and_then ordered_in (subcommand_of program_app words))

-- the file that they ask the output to go to, if any
abbrev pub output_of : List Text → Option Text
output_of words = option_and_then (λ order. order.1) (order_of words)

-- ---- what is said of a run beside its report or the line of its fault

pub record Detail : Type 0 where
  -- it is explained in words
  pub explains : Bool
  -- the file that a report of the run goes to, if any
  pub report : Option Text
  -- the report is left out where all is done
  pub quiet : Bool

-- what an order asks to be said
abbrev pub detail : Order → Detail
detail order = record { explains = order.explains; report = option_map (λ r. r.now) order.report; quiet = order.quiet }

-- the file for the report of the run, if one is given
abbrev pub report_in : List Row → Option Text
report_in rows = first_of (codes "report") rows

abbrev pub detail_in : Text × List Row → Detail
detail_in found = record { explains = is_set (codes "explain") found.1; report = report_in found.1; quiet = is_set (codes "quiet") found.1 }

-- what the words ask to be said, if the command line takes them
abbrev pub detail_of : List Text → Option Detail
detail_of words = where_none (kinds_of words) (option_map detail_in (subcommand_of program_app words))

-- the file that they ask a report of the run to go to, if they ask for a request
abbrev pub report_of : List Text → Option Text
report_of words = option_and_then (λ order. option_and_then (λ (d : Detail). d.report) (detail_of words)) (order_of words)

-- ---- answers

-- the value is what is asked for, and a fault comes for want of memory or where nothing is
abbrev pub Answers : {A B : Type 0} → Option B → (A → B) → Result A WordsFault → Type 0
Answers o f (Ok a) = o ≡ Some (f a)
Answers o f (Err e) = (e ≡ Memory) ⊎ (o ≡ None)

-- what a parse found for the command's own arguments
abbrev pub entries_of : ArgMatches → List Row
entries_of m = rows_of (found_of m)
