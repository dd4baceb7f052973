-- What `simplify` asks for, whichever of its options are given.
use Rattle.std.proofs.Common.{◌≡◌, ◌∙◌, ◌++◌, ◌&&◌, List, [], ◌∷◌, Bool, false, true, Option, Some, None, codes, cond, refl, ap, ap₂}
use Rattle.std.specs.Prelude.{find, fold, is_some, option_map, unwrap_or, if◌then◌else◌}
use Rattle.std.specs.Option.{option_or}
use Rattle.std.specs.Str.{bytes_eq}
use Rattle.clap.specs.Walk.{Row, Text, Walk, finished, first_of, has_row, idle, nothing_held, rows_after, walk_from, walked, with_default}
use Rattle.clap.specs.Simple.{Shape}
use Rattle.clap.specs.declared.builder.value_parser.Reading.TheVariants.{AsWritten}
use Rattle.clap.specs.declared.parser.matches.ValueSource.TheVariants.{CommandLine}
use Rattle.clap.specs.Faults.{check_fault, level_fault, settle_fault, walk_fault}
use Rattle.clap.proofs.OnLiterals.{clap_on_literals}
use Rattle.command_words.specs.Asked.{Asked, Ordered, is_set, keep_in, order_of, output_in, simplify, simplify_in, where_none}
use Rattle.command_words.specs.Written.{flag_word, value_word}
use Rattle.command_words.proofs.CommandLevels.{asked_at, first_text, flag_read, more_words, no_fault, no_level_fault, or_else_nil, shape_of, text_read}
use Rattle.command_words.proofs.RowLemmas.{found_at_end, has_id, values_replace}
use Rattle.command_words.proofs.Settings.{Setting, Takes, TakesAll, any_given, between, flag, flag_row, lacks_row, over_settings, read_at_end, row_at, rows_given, value, value_row, words_of}

-- the command `simplify`, built
abbrev simplify_shape : Shape
simplify_shape = shape_of (codes "simplify")

-- what `simplify` and the file for its output are asked for
abbrev order_in : List Row → Option Ordered
order_in rows = option_map (λ a. (a, output_in rows)) (simplify_in rows)

simplify_level : (words : List Text) → order_of (codes "simplify" ∷ words)
    ≡ where_none (level_fault simplify_shape [] nothing_held words false []) (order_in (rows_after simplify_shape.rules [] words))
unfolding clap_on_literals
simplify_level words =
    ap₂ asked_at (more_words (codes "simplify") [] words) (no_fault (codes "simplify") [] words)
    ∙ ap (λ k. where_none k (order_in (rows_after simplify_shape.rules [] words))) (or_else_nil (level_fault simplify_shape [] nothing_held words false []))

-- ---- the options

-- a text of an option, as the command takes it
abbrev TakesText : Text → Type 0
TakesText id = (text : Text) → Takes simplify_shape (value_word id text) (value_row id AsWritten text)

output_taken : TakesText (codes "output")
unfolding clap_on_literals
output_taken text = record { walks = λ rows new. ap between (values_replace (codes "output") AsWritten CommandLine (text ∷ []) rows new); faultless = λ rows new. rw new refl }

area_taken : TakesText (codes "min-area")
unfolding clap_on_literals
area_taken text = record { walks = λ rows new. ap between (values_replace (codes "min-area") AsWritten CommandLine (text ∷ []) rows new); faultless = λ rows new. rw new refl }

keep_taken : TakesText (codes "keep")
unfolding clap_on_literals
keep_taken text = record { walks = λ rows new. ap between (values_replace (codes "keep") AsWritten CommandLine (text ∷ []) rows new); faultless = λ rows new. rw new refl }

ring_area_taken : TakesText (codes "min-ring-area")
unfolding clap_on_literals
ring_area_taken text = record { walks = λ rows new. ap between (values_replace (codes "min-ring-area") AsWritten CommandLine (text ∷ []) rows new); faultless = λ rows new. rw new refl }

no_crossings_taken : Takes simplify_shape (flag_word (codes "no-crossings")) (flag_row (codes "no-crossings"))
unfolding clap_on_literals
no_crossings_taken = record { walks = λ rows new. ap between (values_replace (codes "no-crossings") AsWritten CommandLine (codes "true" ∷ []) rows new); faultless = λ rows new. rw new refl }

keep_shapes_taken : Takes simplify_shape (flag_word (codes "keep-shapes")) (flag_row (codes "keep-shapes"))
unfolding clap_on_literals
keep_shapes_taken = record { walks = λ rows new. ap between (values_replace (codes "keep-shapes") AsWritten CommandLine (codes "true" ∷ []) rows new); faultless = λ rows new. rw new refl }

-- ---- the file, and the checks at the end

-- the walk is at the file after `--`
abbrev at_file : List Row → Text → Walk
at_file rows path = record {
  held = record { rows = rows; pending = Some (codes "file", path ∷ []); skip = 0 };
  waiting = idle;
  position = 2;
  is_trailing = true;
  stopped = None;
}

abbrev file_row : Text → Row
file_row path = value_row (codes "file") AsWritten path

settle_file : (rows : List Row) (path : Text) → has_row (codes "file") rows ≡ false
    → settle_fault simplify_shape.rules simplify_shape.args_override_self (at_file rows path).held ≡ []
unfolding clap_on_literals
settle_file rows path new = rw new refl

-- nothing is missing where the file is found
nothing_missing : (rows : List Row) (path : Text) → find (has_id (codes "file")) rows ≡ Some (file_row path) → check_fault simplify_shape rows false ≡ []
unfolding clap_on_literals
nothing_missing rows path found = rw found refl

-- ---- the law

-- what is asked for by these values of the options
abbrev asked_by : Option Text → Option Text → Option Text → Bool → Bool → Option Text → Option Asked
asked_by area keep ring_area no_crossings keep_shapes path =
    if is_some area && is_some keep then None
    else Some (simplify (unwrap_or area (codes "0")) keep (unwrap_or ring_area (codes "0")) no_crossings keep_shapes (unwrap_or path []))

module _ (output area keep : Option Text) (ring_area path : Text) (no_crossings keep_shapes : Bool) where
  abbrev settings : List Setting
  settings = value (codes "output") AsWritten output ∷ value (codes "min-area") AsWritten area ∷ value (codes "keep") AsWritten keep
      ∷ value (codes "min-ring-area") AsWritten (Some ring_area) ∷ flag (codes "no-crossings") no_crossings ∷ flag (codes "keep-shapes") keep_shapes ∷ []

  all_taken : TakesAll simplify_shape settings
  all_taken = (any_given output _ output_taken, (any_given area _ area_taken, (any_given keep _ keep_taken, (ring_area_taken ring_area, (no_crossings_taken, (keep_shapes_taken, tt))))))

  abbrev rows : List Row
  rows = rows_given settings

  abbrev given : List Text
  given = words_of settings (codes "--" ∷ path ∷ [])

  abbrev end : Walk
  end = at_file rows path

  abbrev rows_at_end : List Row
  rows_at_end = fold with_default (rows ++ file_row path ∷ []) simplify_shape.rules

  ends_at : fold (walked simplify_shape.rules []) (walk_from nothing_held) given ≡ end
  unfolding clap_on_literals
  ends_at = (over_settings simplify_shape settings [] (codes "--" ∷ path ∷ []) refl refl all_taken).0

  faultless : walk_fault simplify_shape [] (walk_from nothing_held) given ≡ []
  unfolding clap_on_literals
  faultless = (over_settings simplify_shape settings [] (codes "--" ∷ path ∷ []) refl refl all_taken).1

  no_file_before : has_row (codes "file") rows ≡ false
  no_file_before = lacks_row (codes "file") settings refl refl

  finished_so : finished simplify_shape.rules end.held ≡ rows_at_end
  finished_so = ap (λ rs. fold with_default rs simplify_shape.rules) (values_replace (codes "file") AsWritten CommandLine (path ∷ []) rows no_file_before)

  file_found : find (has_id (codes "file")) rows_at_end ≡ Some (file_row path)
  file_found = found_at_end (codes "file") rows (file_row path) simplify_shape.rules no_file_before refl

  checked : check_fault simplify_shape (finished simplify_shape.rules end.held) false ≡ []
  checked = ap (λ rs. check_fault simplify_shape rs false) finished_so ∙ nothing_missing rows_at_end path file_found

  level : level_fault simplify_shape [] nothing_held given false [] ≡ []
  unfolding clap_on_literals
  level = no_level_fault simplify_shape given end ends_at faultless (settle_file rows path no_file_before) refl checked

  -- what is asked for is what the rows at the end ask for
  asks : order_of (codes "simplify" ∷ given) ≡ order_in rows_at_end
  asks = simplify_level given ∙ ap₂ (λ k (w : Walk). where_none k (order_in (finished simplify_shape.rules w.held))) level ends_at ∙ ap order_in finished_so

  -- ---- what each getter reads of them

  at_end : (id : Text) → first_of id rows_at_end
      ≡ first_text (option_or (option_or (row_at id settings) (find (has_id id) (file_row path ∷ []))) (find (has_id id) (fold with_default [] simplify_shape.rules)))
  at_end id = read_at_end first_text id settings (file_row path ∷ []) simplify_shape.rules refl

  output_read : output_in rows_at_end ≡ output
  output_read = at_end (codes "output") ∙ text_read (codes "output") output

  area_read : first_of (codes "min-area") rows_at_end ≡ area
  area_read = at_end (codes "min-area") ∙ text_read (codes "min-area") area

  keep_read : keep_in rows_at_end ≡ keep
  keep_read = at_end (codes "keep") ∙ text_read (codes "keep") keep

  ring_area_read : first_of (codes "min-ring-area") rows_at_end ≡ Some ring_area
  ring_area_read = at_end (codes "min-ring-area")

  no_crossings_read : is_set (codes "no-crossings") rows_at_end ≡ no_crossings
  no_crossings_read = ap (λ (o : Option Text). bytes_eq (unwrap_or o []) (codes "true")) (at_end (codes "no-crossings")) ∙ flag_read (codes "no-crossings") no_crossings

  keep_shapes_read : is_set (codes "keep-shapes") rows_at_end ≡ keep_shapes
  keep_shapes_read = ap (λ (o : Option Text). bytes_eq (unwrap_or o []) (codes "true")) (at_end (codes "keep-shapes")) ∙ flag_read (codes "keep-shapes") keep_shapes

  path_read : first_of (codes "file") rows_at_end ≡ Some path
  path_read = at_end (codes "file")

  pub simplify_law : (is_some area && is_some keep) ≡ false
      → order_of (codes "simplify" ∷ given) ≡ Some (simplify (unwrap_or area (codes "0")) keep ring_area no_crossings keep_shapes path, output)
  simplify_law alone =
      asks
      ∙ (λ i. option_map (λ a. (a, output_read i)) (asked_by (area_read i) (keep_read i) (ring_area_read i) (no_crossings_read i) (keep_shapes_read i) (path_read i)))
      ∙ ap (λ (b : Bool). option_map (λ a. (a, output)) (cond b None (Some (simplify (unwrap_or area (codes "0")) keep ring_area no_crossings keep_shapes path)))) alone
