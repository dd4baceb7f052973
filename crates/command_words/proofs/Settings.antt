-- Options and flags before the `--` of a command: a walk over their words makes a row for each that is given.
use Rattle.std.proofs.Common.{◌≡◌, ◌∙◌, ◌++◌, ◌&&◌, ◌||◌, List, [], ◌∷◌, Bool, true, false, cond, not, Option, Some, None, refl, sym, ap, ap₂, append-nil, append_assoc, map}
use Rattle.std.specs.Prelude.{IfSome, codes, find, fold, is_some}
use Rattle.std.specs.List.{list_all}
use Rattle.std.specs.Option.{option_map, option_or}
use Rattle.std.specs.Str.{bytes_eq}
use Rattle.std.proofs.lemmas.List.Folds.{find-append, list_any-append}
use Rattle.std.proofs.lemmas.Slice.Eq.{bytes_eq-Decides}
use Rattle.std.proofs.lemmas.Bool.{and_from, and_parts, not-true}
use Rattle.clap.specs.Kinds.{or_else}
use Rattle.clap.specs.Faults.{turn_fault, walk_fault}
use Rattle.clap.specs.Simple.{Shape}
use Rattle.clap.specs.Walk.{Row, Rule, Text, Walk, has_row, idle, walked, with_default}
use Rattle.clap.specs.declared.builder.value_parser.Reading.{Reading}
use Rattle.clap.specs.declared.builder.value_parser.Reading.TheVariants.{AsWritten}
use Rattle.clap.specs.declared.parser.matches.ValueSource.TheVariants.{CommandLine}
use Rattle.command_words.specs.Written.{and_flag, and_value, flag_word, value_word}
use Rattle.command_words.proofs.RowLemmas.{finds_defaults, found_row, has_id, new_row}

pub data Setting : Type 0 where
  -- an option of this name, with its text if it is given, which is read so
  value : Text → Reading → Option Text → Setting
  -- a flag of this name, if it is given
  flag : Text → Bool → Setting

abbrev pub name_of : Setting → Text
name_of (value id how given) = id
name_of (flag id given) = id

abbrev pub names : List Setting → List Text
names settings = map name_of settings

-- the words of those that are given, before others
abbrev pub words_of : List Setting → List Text → List Text
words_of [] words = words
words_of (value id how given ∷ settings) words = and_value id given (words_of settings words)
words_of (flag id given ∷ settings) words = and_flag id given (words_of settings words)

abbrev pub value_row : Text → Reading → Text → Row
value_row id how text = new_row id how CommandLine (text ∷ [])

abbrev pub flag_row : Text → Row
flag_row id = value_row id AsWritten (codes "true")

abbrev pub row_if : Text → Bool → Option Row
row_if id true = Some (flag_row id)
row_if id false = None

-- the row of a setting, if it is given
abbrev pub row_of : Setting → Option Row
row_of (value id how given) = option_map (value_row id how) given
row_of (flag id given) = row_if id given

abbrev and_row : Option Row → List Row → List Row
and_row (Some row) rows = row ∷ rows
and_row None rows = rows

abbrev pub rows_given : List Setting → List Row
rows_given [] = []
rows_given (setting ∷ settings) = and_row (row_of setting) (rows_given settings)

-- the walk has met these rows, and nothing waits
abbrev pub between : List Row → Walk
between rows = record {
  held = record { rows = rows; pending = None; skip = 0 };
  waiting = idle;
  position = 1;
  is_trailing = false;
  stopped = None;
}

-- the command takes the word, and holds the row for it
pub record Takes (s : Shape) (word : Text) (row : Row) : Type 0 where
  pub walks : (rows : List Row) → has_row row.id rows ≡ false → walked s.rules [] (between rows) word ≡ between (rows ++ row ∷ [])
  pub faultless : (rows : List Row) → has_row row.id rows ≡ false → turn_fault s [] (between rows) word ≡ []

abbrev pub TakesSetting : Shape → Setting → Type 0
TakesSetting s (value id how given) = IfSome given (λ text. Takes s (value_word id text) (value_row id how text))
TakesSetting s (flag id given) = Takes s (flag_word id) (flag_row id)

abbrev pub TakesAll : Shape → List Setting → Type 0
TakesAll s [] = Unit {0}
TakesAll s (setting ∷ settings) = TakesSetting s setting × TakesAll s settings

-- ---- names

abbrev pub are_distinct : List Text → Bool
are_distinct [] = true
are_distinct (id ∷ ids) = list_all (λ other. not (bytes_eq id other)) ids && are_distinct ids

-- no row has one of these names
abbrev pub are_new : List Text → List Row → Bool
are_new ids rows = list_all (λ id. not (has_row id rows)) ids

-- they are as new after a row of another name
still_new : (ids : List Text) (rows : List Row) (row : Row) → are_new ids rows ≡ true → list_all (λ other. not (bytes_eq row.id other)) ids ≡ true
    → are_new ids (rows ++ row ∷ []) ≡ true
still_new [] rows row new other = refl
still_new (id ∷ ids) rows row new other =
    let n = and_parts (not (has_row id rows)) (are_new ids rows) new in
    let o = and_parts (not (bytes_eq row.id id)) (list_all (λ k. not (bytes_eq row.id k)) ids) other in
    let one : has_row id (rows ++ row ∷ []) ≡ false =
    list_any-append (has_id id) rows (row ∷ []) ∙ (λ i. not-true (has_row id rows) n.0 i || (not-true (bytes_eq row.id id) o.0 i || false)) in
    and_from (not (has_row id (rows ++ row ∷ []))) (are_new ids (rows ++ row ∷ [])) (ap not one) (still_new ids rows row n.1 o.1)

-- ---- the walk

module _ (s : Shape) where
  abbrev Ends : List Row → List Text → List Row → List Text → Type 0
  Ends rows words more rest = (fold (walked s.rules []) (between rows) words ≡ fold (walked s.rules []) (between (rows ++ more)) rest)
      × (walk_fault s [] (between rows) words ≡ walk_fault s [] (between (rows ++ more)) rest)

  none_more : (rows : List Row) (rest : List Text) → Ends rows rest [] rest
  none_more rows rest =
      let same = sym (append-nil rows) in
      (ap (λ r. fold (walked s.rules []) (between r) rest) same, ap (λ r. walk_fault s [] (between r) rest) same)

  one_more : (word : Text) (row : Row) (rows : List Row) (words : List Text) (more : List Row) (rest : List Text) → Takes s word row → has_row row.id rows ≡ false
      → Ends (rows ++ row ∷ []) words more rest → Ends rows (word ∷ words) (row ∷ more) rest
  unfolding walk_fault
  one_more word row rows words more rest takes new ends =
      let step = takes.walks rows new in
      let joined = append_assoc rows (row ∷ []) more in (
        ap (λ w. fold (walked s.rules []) w words) step ∙ ends.0 ∙ ap (λ r. fold (walked s.rules []) (between r) rest) joined,
        ap₂ or_else (takes.faultless rows new) (ap (λ w. walk_fault s [] w words) step) ∙ ends.1 ∙ ap (λ r. walk_fault s [] (between r) rest) joined,
      )

  -- the walk over the words of all settings
  pub over_settings : (settings : List Setting) (rows : List Row) (rest : List Text) → are_new (names settings) rows ≡ true → are_distinct (names settings) ≡ true
      → TakesAll s settings → Ends rows (words_of settings rest) (rows_given settings) rest
  over_settings [] rows rest new distinct takes = none_more rows rest
  over_settings (value id how None ∷ settings) rows rest new distinct takes =
      let n = and_parts (not (has_row id rows)) (are_new (names settings) rows) new in
      let d = and_parts (list_all (λ other. not (bytes_eq id other)) (names settings)) (are_distinct (names settings)) distinct in
      over_settings settings rows rest n.1 d.1 takes.1
  over_settings (value id how (Some text) ∷ settings) rows rest new distinct takes =
      let n = and_parts (not (has_row id rows)) (are_new (names settings) rows) new in
      let d = and_parts (list_all (λ other. not (bytes_eq id other)) (names settings)) (are_distinct (names settings)) distinct in
      let row = value_row id how text in
      one_more (value_word id text) row rows (words_of settings rest) (rows_given settings) rest takes.0 (not-true (has_row id rows) n.0)
      (over_settings settings (rows ++ row ∷ []) rest (still_new (names settings) rows row n.1 d.0) d.1 takes.1)
  over_settings (flag id false ∷ settings) rows rest new distinct takes =
      let n = and_parts (not (has_row id rows)) (are_new (names settings) rows) new in
      let d = and_parts (list_all (λ other. not (bytes_eq id other)) (names settings)) (are_distinct (names settings)) distinct in
      over_settings settings rows rest n.1 d.1 takes.1
  over_settings (flag id true ∷ settings) rows rest new distinct takes =
      let n = and_parts (not (has_row id rows)) (are_new (names settings) rows) new in
      let d = and_parts (list_all (λ other. not (bytes_eq id other)) (names settings)) (are_distinct (names settings)) distinct in
      let row = flag_row id in
      one_more (flag_word id) row rows (words_of settings rest) (rows_given settings) rest takes.0 (not-true (has_row id rows) n.0)
      (over_settings settings (rows ++ row ∷ []) rest (still_new (names settings) rows row n.1 d.0) d.1 takes.1)

-- ---- what is found of them

-- the row of the setting of this name
abbrev pub row_at : Text → List Setting → Option Row
row_at id [] = None
row_at id (setting ∷ settings) = cond (bytes_eq (name_of setting) id) (row_of setting) (row_at id settings)

flip : (a b : Text) → bytes_eq a b ≡ false → bytes_eq b a ≡ false
flip a b e = go (bytes_eq b a) refl
  where
    go : (r : Bool) → bytes_eq b a ≡ r → r ≡ false
    go false f = refl
    go true f = let same : bytes_eq a b ≡ true = (bytes_eq-Decides a b).1 (sym ((bytes_eq-Decides b a).0 f)) in cc

-- the row of a setting of another name is passed over
passed : (id : Text) (setting : Setting) (rows : List Row) → bytes_eq (name_of setting) id ≡ false → find (has_id id) (and_row (row_of setting) rows) ≡ find (has_id id) rows
passed id (value k how None) rows e = refl
passed id (value k how (Some text)) rows e = rw e refl
passed id (flag k true) rows e = rw e refl
passed id (flag k false) rows e = refl

no_row : (id : Text) (settings : List Setting) → list_all (λ other. not (bytes_eq id other)) (names settings) ≡ true → find (has_id id) (rows_given settings) ≡ None
no_row id [] other = refl
no_row id (setting ∷ settings) other =
    let parts = and_parts (not (bytes_eq id (name_of setting))) (list_all (λ k. not (bytes_eq id k)) (names settings)) other in
    passed id setting (rows_given settings) (flip id (name_of setting) (not-true (bytes_eq id (name_of setting)) parts.0)) ∙ no_row id settings parts.1

-- a setting's own row is met first
met : (id : Text) (setting : Setting) (rows : List Row) → bytes_eq (name_of setting) id ≡ true → find (has_id id) rows ≡ None
    → find (has_id id) (and_row (row_of setting) rows) ≡ row_of setting
met id (value k how None) rows e none = none
met id (value k how (Some text)) rows e none = rw e refl
met id (flag k true) rows e none = rw e refl
met id (flag k false) rows e none = none

-- a setting is found, or the rest is searched
found_or : (id : Text) (setting : Setting) (settings : List Setting) (b : Bool) → bytes_eq (name_of setting) id ≡ b
    → list_all (λ other. not (bytes_eq (name_of setting) other)) (names settings) ≡ true → find (has_id id) (rows_given settings) ≡ row_at id settings
    → find (has_id id) (and_row (row_of setting) (rows_given settings)) ≡ cond b (row_of setting) (row_at id settings)
found_or id setting settings true e other rest =
    let same : name_of setting ≡ id = (bytes_eq-Decides (name_of setting) id).0 e in
    met id setting (rows_given settings) e (no_row id settings (ap (λ k. list_all (λ o. not (bytes_eq k o)) (names settings)) (sym same) ∙ other))
found_or id setting settings false e other rest = passed id setting (rows_given settings) e ∙ rest

finds_setting : (id : Text) (settings : List Setting) → are_distinct (names settings) ≡ true → find (has_id id) (rows_given settings) ≡ row_at id settings
finds_setting id [] distinct = refl
finds_setting id (setting ∷ settings) distinct =
    let d = and_parts (list_all (λ other. not (bytes_eq (name_of setting) other)) (names settings)) (are_distinct (names settings)) distinct in
    found_or id setting settings (bytes_eq (name_of setting) id) refl d.0 (finds_setting id settings d.1)

pub lacks_row : (id : Text) (settings : List Setting) → are_distinct (names settings) ≡ true → row_at id settings ≡ None → has_row id (rows_given settings) ≡ false
lacks_row id settings distinct none = found_row id (rows_given settings) ∙ ap is_some (finds_setting id settings distinct ∙ none)

-- what a getter reads of the rows at the end
pub read_at_end : {X : Type 0} (get : Option Row → X) (id : Text) (settings : List Setting) (more : List Row) (rules : List Rule) → are_distinct (names settings) ≡ true
    → get (find (has_id id) (fold with_default (rows_given settings ++ more) rules))
    ≡ get (option_or (option_or (row_at id settings) (find (has_id id) more)) (find (has_id id) (fold with_default [] rules)))
read_at_end get id settings more rules distinct =
    let p = has_id id in
    ap get (finds_defaults id (rows_given settings ++ more) rules
    ∙ ap (λ o. option_or o (find p (fold with_default [] rules))) (find-append p (rows_given settings) more ∙ ap (λ o. option_or o (find p more)) (finds_setting id settings distinct)))

pub any_given : {X : Type 0} (o : Option X) (P : X → Type 0) → ((x : X) → P x) → IfSome o P
any_given None P h = tt
any_given (Some x) P h = h x
