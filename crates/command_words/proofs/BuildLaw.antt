-- What `build` asks for, whichever of its options are given.
use Rattle.std.proofs.Common.{◌≡◌, ◌∙◌, ◌<◌, ◌≤◌, ◌==◌, ◌++◌, ◌&&◌, ℕ, List, [], ◌∷◌, Bool, true, false, Option, Some, None, codes, length, refl, sym, ap, ap₂, arith, append-nil, append_assoc, le-ltb}
use Rattle.std.specs.Prelude.{IfSome, is_some, nat_lt, option_and_then, option_map, pos, unwrap_or, find, fold}
use Rattle.std.specs.Option.{option_or}
use Rattle.std.specs.Str.{bytes_eq}
use Rattle.std.proofs.lemmas.Bool.{ne_eqb}
use Rattle.clap.specs.Lexer.{usize_max, without_minus}
use Rattle.clap.specs.Walk.{Row, Text, Walk, finished, first_of, has_row, nothing_held, positional, row_text, rows_after, walk_from, walked, with_default}
use Rattle.clap.specs.Simple.{Shape}
use Rattle.clap.specs.Kinds.{or_else, range_kinds, values_kinds}
use Rattle.clap.specs.ValueTests.{accepts}
use Rattle.clap.specs.declared.builder.value_parser.Reading.TheVariants.{AsWritten, WithoutMinus}
use Rattle.clap.specs.declared.parser.matches.ValueSource.TheVariants.{CommandLine}
use Rattle.clap.specs.Faults.{check_fault, level_fault, settle_fault, walk_fault}
use Rattle.clap.specs.declared.builder.value_parser.ValueParser.TheVariants as vp
use Rattle.clap.proofs.OnLiterals.{clap_on_literals}
use Rattle.command_words.specs.Asked.{Asked, Ordered, build, build_in, grid_at, grid_in, is_set, keep_in, layers_in, layers_of, order_of, output_in, ring_area_in, where_none}
use Rattle.command_words.specs.Written.{flag_word, value_word}
use Rattle.command_words.proofs.CommandLevels.{asked_at, first_text, flag_read, more_words, no_fault, no_level_fault, or_else_nil, shape_of, text_read}
use Rattle.command_words.proofs.Getters.{build_asked}
use Rattle.command_words.proofs.RowLemmas.{found_at_end, has_id, new_row, values_join, values_replace}
use Rattle.command_words.proofs.Settings.{Setting, Takes, TakesAll, any_given, between, flag, flag_row, lacks_row, over_settings, read_at_end, row_at, rows_given, value, value_row, words_of}

-- the command `build`, built
abbrev build_shape : Shape
build_shape = shape_of (codes "build")

-- what `build` and the file for its output are asked for
abbrev order_in : List Row → Option Ordered
order_in rows = option_map (λ a. (a, output_in rows)) (build_in rows)

order_asked : (rows : List Row) (output : Option Text) (a : Asked) → output_in rows ≡ output → build_in rows ≡ Some a → order_in rows ≡ Some (a, output)
order_asked rows output a o b = ap₂ (λ (x : Option Asked) (y : Option Text). option_map (λ (z : Asked). (z, y)) x) b o

build_level : (words : List Text) → order_of (codes "build" ∷ words)
    ≡ where_none (level_fault build_shape [] nothing_held words false []) (order_in (rows_after build_shape.rules [] words))
unfolding clap_on_literals
build_level words =
    ap₂ asked_at (more_words (codes "build") [] words) (no_fault (codes "build") [] words)
    ∙ ap (λ k. where_none k (order_in (rows_after build_shape.rules [] words))) (or_else_nil (level_fault build_shape [] nothing_held words false []))

-- ---- the options

-- a text of an option, as the command takes it
abbrev TakesText : Text → Type 0
TakesText id = (text : Text) → Takes build_shape (value_word id text) (value_row id AsWritten text)

output_taken : TakesText (codes "output")
unfolding clap_on_literals
output_taken text = record { walks = λ rows new. ap between (values_replace (codes "output") AsWritten CommandLine (text ∷ []) rows new); faultless = λ rows new. rw new refl }

area_taken : TakesText (codes "min-area")
unfolding clap_on_literals
area_taken text = record { walks = λ rows new. ap between (values_replace (codes "min-area") AsWritten CommandLine (text ∷ []) rows new); faultless = λ rows new. rw new refl }

keep_taken : TakesText (codes "keep")
unfolding clap_on_literals
keep_taken text = record { walks = λ rows new. ap between (values_replace (codes "keep") AsWritten CommandLine (text ∷ []) rows new); faultless = λ rows new. rw new refl }

ring_area_taken : TakesText (codes "min-ring-area")
unfolding clap_on_literals
ring_area_taken text = record { walks = λ rows new. ap between (values_replace (codes "min-ring-area") AsWritten CommandLine (text ∷ []) rows new); faultless = λ rows new. rw new refl }

exact_taken : Takes build_shape (flag_word (codes "exact")) (flag_row (codes "exact"))
unfolding clap_on_literals
exact_taken = record { walks = λ rows new. ap between (values_replace (codes "exact") AsWritten CommandLine (codes "true" ∷ []) rows new); faultless = λ rows new. rw new refl }

no_crossings_taken : Takes build_shape (flag_word (codes "no-crossings")) (flag_row (codes "no-crossings"))
unfolding clap_on_literals
no_crossings_taken = record { walks = λ rows new. ap between (values_replace (codes "no-crossings") AsWritten CommandLine (codes "true" ∷ []) rows new); faultless = λ rows new. rw new refl }

keep_shapes_taken : Takes build_shape (flag_word (codes "keep-shapes")) (flag_row (codes "keep-shapes"))
unfolding clap_on_literals
keep_shapes_taken = record { walks = λ rows new. ap between (values_replace (codes "keep-shapes") AsWritten CommandLine (codes "true" ∷ []) rows new); faultless = λ rows new. rw new refl }

abbrev pub is_taken : Text → Bool
is_taken cells = accepts false (vp.Signed (pos 2) (pos 1000000000)) cells

grid_taken : (cells : Text) → is_taken cells ≡ true → Takes build_shape (value_word (codes "grid") cells) (value_row (codes "grid") WithoutMinus cells)
unfolding clap_on_literals
grid_taken cells taken = record { walks = λ rows new. ap between (values_replace (codes "grid") WithoutMinus CommandLine (cells ∷ []) rows new); faultless = λ rows new. rw (new, taken) refl }

-- ---- the layers, and the checks at the end

-- the walk is at the layers after `--`
abbrev at_layers : List Row → List Text → Walk
at_layers rows layers = record {
  held = record { rows = rows; pending = Some (codes "layers", layers); skip = 0 };
  waiting = positional;
  position = 1;
  is_trailing = true;
  stopped = None;
}

more_layers : (rows : List Row) (before words : List Text) → fold (walked build_shape.rules []) (at_layers rows before) words ≡ at_layers rows (before ++ words)
unfolding walked
more_layers rows before [] = ap (at_layers rows) (sym (append-nil before))
more_layers rows before (word ∷ words) = more_layers rows (before ++ word ∷ []) words ∙ ap (at_layers rows) (append_assoc before (word ∷ []) words)

no_layer_fault : (rows : List Row) (before words : List Text) → walk_fault build_shape [] (at_layers rows before) words ≡ []
unfolding walked walk_fault
no_layer_fault rows before [] = refl
no_layer_fault rows before (word ∷ words) = no_layer_fault rows (before ++ word ∷ []) words

any_text : (vs : List Text) → values_kinds false vp.String vs ≡ []
any_text [] = refl
any_text (v ∷ vs) = any_text vs

in_range : (n : ℕ) → 1 ≤ n → n ≤ usize_max → range_kinds 1 usize_max n ≡ []
in_range n low high =
    let a : (n == 0) ≡ false = ne_eqb n 0 (λ e. omega arith) in
    let b : nat_lt n 1 ≡ false = le-ltb n 1 low in
    let d : nat_lt usize_max n ≡ false = le-ltb usize_max n high in
    rw (a, b, d) refl

settle_layers : (rows : List Row) (word : Text) (words : List Text) → length words < usize_max
    → settle_fault build_shape.rules build_shape.args_override_self (at_layers rows (word ∷ words)).held ≡ []
settle_layers rows word words fits =
    let low : 1 ≤ length (word ∷ words) = omega arith in
    let high : length (word ∷ words) ≤ usize_max = omega arith in
    ap₂ or_else (in_range (length (word ∷ words)) low high) (any_text (word ∷ words))

abbrev layers_row : List Text → Row
layers_row words = new_row (codes "layers") AsWritten CommandLine words

-- nothing is missing where layers are found
nothing_missing : (rows : List Row) (words : List Text) → find (has_id (codes "layers")) rows ≡ Some (layers_row words) → check_fault build_shape rows false ≡ []
unfolding clap_on_literals
nothing_missing rows words found = rw found refl

-- ---- the law

cells_read : (o : Option Text) → option_and_then row_text (option_or (option_or (option_map (value_row (codes "grid") WithoutMinus) o) None) None) ≡ option_map without_minus o
cells_read None = refl
cells_read (Some text) = refl

module _ (output cells area keep : Option Text) (ring_area : Text) (no_crossings keep_shapes exact : Bool) (word : Text) (words : List Text) (fits : length words < usize_max) (taken : IfSome cells (λ c. is_taken c ≡ true)) where
  abbrev settings : List Setting
  settings = value (codes "output") AsWritten output ∷ value (codes "grid") WithoutMinus cells ∷ value (codes "min-area") AsWritten area
      ∷ value (codes "keep") AsWritten keep ∷ value (codes "min-ring-area") AsWritten (Some ring_area)
      ∷ flag (codes "no-crossings") no_crossings ∷ flag (codes "keep-shapes") keep_shapes ∷ flag (codes "exact") exact ∷ []

  grids_taken : (o : Option Text) → IfSome o (λ c. is_taken c ≡ true) → IfSome o (λ c. Takes build_shape (value_word (codes "grid") c) (value_row (codes "grid") WithoutMinus c))
  grids_taken None h = tt
  grids_taken (Some c) h = grid_taken c h

  all_taken : TakesAll build_shape settings
  all_taken = (any_given output _ output_taken, (grids_taken cells taken, (any_given area _ area_taken, (any_given keep _ keep_taken, (ring_area_taken ring_area, (no_crossings_taken, (keep_shapes_taken, (exact_taken, tt))))))))

  abbrev rows : List Row
  rows = rows_given settings

  abbrev given : List Text
  given = words_of settings (codes "--" ∷ word ∷ words)

  abbrev end : Walk
  end = at_layers rows (word ∷ words)

  abbrev rows_at_end : List Row
  rows_at_end = fold with_default (rows ++ layers_row (word ∷ words) ∷ []) build_shape.rules

  ends_at : fold (walked build_shape.rules []) (walk_from nothing_held) given ≡ end
  unfolding clap_on_literals
  ends_at = (over_settings build_shape settings [] (codes "--" ∷ word ∷ words) refl refl all_taken).0 ∙ more_layers rows (word ∷ []) words

  faultless : walk_fault build_shape [] (walk_from nothing_held) given ≡ []
  unfolding clap_on_literals
  faultless = (over_settings build_shape settings [] (codes "--" ∷ word ∷ words) refl refl all_taken).1 ∙ no_layer_fault rows (word ∷ []) words

  no_layers_before : has_row (codes "layers") rows ≡ false
  no_layers_before = lacks_row (codes "layers") settings refl refl

  finished_so : finished build_shape.rules end.held ≡ rows_at_end
  finished_so = ap (λ rs. fold with_default rs build_shape.rules) (values_join (codes "layers") AsWritten CommandLine (word ∷ words) rows no_layers_before)

  layers_found : find (has_id (codes "layers")) rows_at_end ≡ Some (layers_row (word ∷ words))
  layers_found = found_at_end (codes "layers") rows (layers_row (word ∷ words)) build_shape.rules no_layers_before refl

  checked : check_fault build_shape (finished build_shape.rules end.held) false ≡ []
  checked = ap (λ rs. check_fault build_shape rs false) finished_so ∙ nothing_missing rows_at_end (word ∷ words) layers_found

  level : level_fault build_shape [] nothing_held given false [] ≡ []
  unfolding clap_on_literals
  level = no_level_fault build_shape given end ends_at faultless (settle_layers rows word words fits) refl checked

  -- what is asked for is what the rows at the end ask for
  asks : order_of (codes "build" ∷ given) ≡ order_in rows_at_end
  asks = build_level given ∙ ap₂ (λ k (w : Walk). where_none k (order_in (finished build_shape.rules w.held))) level ends_at ∙ ap order_in finished_so

  -- ---- what each getter reads of them

  abbrev at_end_by : (id : Text) → Option Text
  at_end_by id = first_text (option_or (option_or (row_at id settings) (find (has_id id) (layers_row (word ∷ words) ∷ []))) (find (has_id id) (fold with_default [] build_shape.rules)))

  at_end : (id : Text) → first_of id rows_at_end ≡ at_end_by id
  at_end id = read_at_end first_text id settings (layers_row (word ∷ words) ∷ []) build_shape.rules refl

  output_read : output_in rows_at_end ≡ output
  output_read = at_end (codes "output") ∙ text_read (codes "output") output

  grid_read : grid_in rows_at_end ≡ grid_at (option_map without_minus cells)
  grid_read = ap grid_at (read_at_end (option_and_then row_text) (codes "grid") settings (layers_row (word ∷ words) ∷ []) build_shape.rules refl ∙ cells_read cells)

  area_read : first_of (codes "min-area") rows_at_end ≡ area
  area_read = at_end (codes "min-area") ∙ text_read (codes "min-area") area

  keep_read : keep_in rows_at_end ≡ keep
  keep_read = at_end (codes "keep") ∙ text_read (codes "keep") keep

  ring_area_read : ring_area_in rows_at_end ≡ ring_area
  ring_area_read = ap (λ (o : Option Text). unwrap_or o (codes "0")) (at_end (codes "min-ring-area") ∙ text_read (codes "min-ring-area") (Some ring_area))

  no_crossings_read : is_set (codes "no-crossings") rows_at_end ≡ no_crossings
  no_crossings_read = ap (λ (o : Option Text). bytes_eq (unwrap_or o []) (codes "true")) (at_end (codes "no-crossings")) ∙ flag_read (codes "no-crossings") no_crossings

  keep_shapes_read : is_set (codes "keep-shapes") rows_at_end ≡ keep_shapes
  keep_shapes_read = ap (λ (o : Option Text). bytes_eq (unwrap_or o []) (codes "true")) (at_end (codes "keep-shapes")) ∙ flag_read (codes "keep-shapes") keep_shapes

  exact_read : is_set (codes "exact") rows_at_end ≡ exact
  exact_read = ap (λ (o : Option Text). bytes_eq (unwrap_or o []) (codes "true")) (at_end (codes "exact")) ∙ flag_read (codes "exact") exact

  layers_read : layers_in rows_at_end ≡ layers_of (word ∷ words)
  layers_read = ap (λ (o : Option Row). layers_of (unwrap_or (option_map (λ (r : Row). r.values) o) [])) layers_found

  pub build_law : (grid : Option ℕ) (layers : List (Text × Text)) → grid_at (option_map without_minus cells) ≡ Some grid → layers_of (word ∷ words) ≡ Some layers
      → (is_some area && is_some keep) ≡ false → order_of (codes "build" ∷ given) ≡ Some (build layers exact grid (unwrap_or area (codes "0")) keep ring_area no_crossings keep_shapes, output)
  build_law grid layers read named one =
      asks ∙ order_asked rows_at_end output (build layers exact grid (unwrap_or area (codes "0")) keep ring_area no_crossings keep_shapes) output_read
      (build_asked rows_at_end grid layers exact (unwrap_or area (codes "0")) keep ring_area no_crossings keep_shapes
      ((λ i. is_some (area_read i) && is_some (keep_read i)) ∙ one) (grid_read ∙ read) (layers_read ∙ named)
      (sym exact_read) (ap (λ (o : Option Text). unwrap_or o (codes "0")) (sym area_read)) (sym keep_read) (sym ring_area_read) (sym no_crossings_read) (sym keep_shapes_read))
