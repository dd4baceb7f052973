-- What `clap` holds of arguments, one after another: rows that join, and those of defaults at the end.
use Rattle.std.proofs.Common.{◌≡◌, ◌∙◌, ◌++◌, ◌||◌, List, [], ◌∷◌, Bool, true, false, cond, Option, Some, None, refl, sym, ap, ap₂, append-nil}
use Rattle.std.specs.Prelude.{find, fold, is_some}
use Rattle.std.specs.List.{list_all}
use Rattle.std.specs.Option.{option_or}
use Rattle.std.specs.Str.{bytes_eq}
use Rattle.std.proofs.lemmas.List.Folds.{find-append}
use Rattle.std.proofs.lemmas.Slice.Eq.{bytes_eq-Decides}
use Rattle.std.proofs.lemmas.Bool.{and_parts, or_parts}
use Rattle.clap.specs.Kinds.{Kinds, or_else}
use Rattle.clap.specs.Faults.{default_fault, defaults_fault}
use Rattle.clap.specs.Walk.{Row, Rule, Text, at_row, default_rows, has_row, is_empty, more_values, reading_by, with_default, with_values, without}
use Rattle.clap.specs.declared.builder.value_parser.Reading.{Reading}
use Rattle.clap.specs.declared.parser.matches.ValueSource.{ValueSource}
use Rattle.clap.specs.declared.parser.matches.ValueSource.TheVariants.{DefaultValue}

-- ---- a row of an argument that has none

pub joins : (id : Text) (change : Row → List Row) (missing rows : List Row) → has_row id rows ≡ false → at_row id change missing rows ≡ rows ++ missing
joins id change missing [] none = refl
joins id change missing (r ∷ rows) none =
    let parts = or_parts (bytes_eq r.id id) (has_row id rows) none in
    rw parts.0 (ap (λ rs. r ∷ rs) (joins id change missing rows parts.1))

-- the row of values for an argument
abbrev pub new_row : Text → Reading → ValueSource → List Text → Row
new_row id how source values = record { id = id; values = values; count = None; source = Some source; reading = how }

pub values_join : (id : Text) (how : Reading) (source : ValueSource) (values : List Text) (rows : List Row) → has_row id rows ≡ false
    → with_values id how source values rows ≡ rows ++ new_row id how source values ∷ []
values_join id how source values rows none = joins id (more_values source values) (new_row id how source values ∷ []) rows none

-- they join as well where the row that there was is taken out first
pub values_replace : (id : Text) (how : Reading) (source : ValueSource) (values : List Text) (rows : List Row) → has_row id rows ≡ false
    → with_values id how source values (without id rows) ≡ rows ++ new_row id how source values ∷ []
values_replace id how source values rows none =
    ap (with_values id how source values) (joins id (λ _. []) [] rows none ∙ append-nil rows) ∙ values_join id how source values rows none

-- ---- rows of defaults

abbrev pub has_id : Text → Row → Bool
has_id id r = bytes_eq r.id id

or_none : {X : Type 0} (o : Option X) → option_or o None ≡ o
or_none None = refl
or_none (Some x) = refl

or_assoc : {X : Type 0} (o p q : Option X) → option_or (option_or o p) q ≡ option_or o (option_or p q)
or_assoc None p q = refl
or_assoc (Some x) p q = refl

pub found_row : (id : Text) (rows : List Row) → has_row id rows ≡ is_some (find (has_id id) rows)
found_row id [] = refl
found_row id (r ∷ rows) = go (has_id id r) (found_row id rows)
  where
    go : (b : Bool) → has_row id rows ≡ is_some (find (has_id id) rows) → (b || has_row id rows) ≡ is_some (cond b (Some r) (find (has_id id) rows))
    go true e = refl
    go false e = e

-- a default is found where nothing else is
finds_default : (id : Text) (rows : List Row) (a : Rule) → find (has_id id) (with_default rows a) ≡ option_or (find (has_id id) rows) (find (has_id id) (with_default [] a))
finds_default id rows a = go (has_row a.id rows) refl a.defaults
  where
    same : (b : Bool) → bytes_eq a.id id ≡ b → has_row a.id rows ≡ true → (r : Row) → r.id ≡ a.id
        → (o : Option Row) → find (has_id id) rows ≡ o → o ≡ option_or o (find (has_id id) (r ∷ []))
    same b e given r is (Some x) f = refl
    same true e given r is None f =
        let equal : a.id ≡ id = (bytes_eq-Decides a.id id).0 e in
        let some : has_row id rows ≡ true = ap (λ k. has_row k rows) (sym equal) ∙ given in
        let none : has_row id rows ≡ false = found_row id rows ∙ ap is_some f in
        cc
    same false e given r is None f = rw is (rw e refl)

    go : (b : Bool) → has_row a.id rows ≡ b → (defaults : List Text)
        → find (has_id id) (cond b rows (default_rows a.id (reading_by a) defaults rows)) ≡ option_or (find (has_id id) rows) (find (has_id id) (default_rows a.id (reading_by a) defaults []))
    go true e [] = sym (or_none (find (has_id id) rows))
    go true e (v ∷ vs) = same (bytes_eq a.id id) refl e (new_row a.id (reading_by a) DefaultValue (v ∷ vs)) refl (find (has_id id) rows) refl
    go false e [] = sym (or_none (find (has_id id) rows))
    go false e (v ∷ vs) =
        ap (find (has_id id)) (values_join a.id (reading_by a) DefaultValue (v ∷ vs) rows e)
        ∙ find-append (has_id id) rows (new_row a.id (reading_by a) DefaultValue (v ∷ vs) ∷ [])

pub finds_defaults : (id : Text) (rows : List Row) (rules : List Rule)
    → find (has_id id) (fold with_default rows rules) ≡ option_or (find (has_id id) rows) (find (has_id id) (fold with_default [] rules))
finds_defaults id rows [] = sym (or_none (find (has_id id) rows))
finds_defaults id rows (a ∷ rules) =
    let p = has_id id in
    let rest = find p (fold with_default [] rules) in
    finds_defaults id (with_default rows a) rules
    ∙ ap (λ o. option_or o rest) (finds_default id rows a)
    ∙ or_assoc (find p rows) (find p (with_default [] a)) rest
    ∙ ap (option_or (find p rows)) (sym (finds_defaults id (with_default [] a) rules))

-- ---- faults of defaults

abbrev pub is_nil : Kinds → Bool
is_nil [] = true
is_nil (k ∷ ks) = false

nil_is : (k : Kinds) → is_nil k ≡ true → k ≡ []
nil_is [] e = refl
nil_is (k ∷ ks) e = cc

-- each default passes
abbrev pub defaults_pass : List Rule → Bool
defaults_pass rules = list_all (λ a. is_nil (default_fault [] a)) rules

pub no_default_fault : (rows : List Row) (rules : List Rule) → defaults_pass rules ≡ true → defaults_fault rows rules ≡ []
unfolding defaults_fault
no_default_fault rows [] pass = refl
no_default_fault rows (a ∷ rules) pass =
    let parts = and_parts (is_nil (default_fault [] a)) (defaults_pass rules) pass in
    ap₂ or_else (go (has_row a.id rows) (is_empty a.defaults) _ (nil_is _ parts.0)) (no_default_fault (with_default rows a) rules parts.1)
  where
    go : (b e : Bool) (k : Kinds) → cond e [] k ≡ [] → cond (b || e) [] k ≡ []
    go true e k h = refl
    go false e k h = h

-- ---- what is found at the end

none_found : (id : Text) (rows : List Row) → has_row id rows ≡ false → find (has_id id) rows ≡ None
none_found id [] none = refl
none_found id (r ∷ rows) none =
    let parts = or_parts (has_id id r) (has_row id rows) none in
    rw parts.0 (none_found id rows parts.1)

-- the row that the words gave an argument
pub found_at_end : (id : Text) (rows : List Row) (r : Row) (rules : List Rule) → has_row id rows ≡ false → bytes_eq r.id id ≡ true
    → find (has_id id) (fold with_default (rows ++ r ∷ []) rules) ≡ Some r
found_at_end id rows r rules none is =
    let p = has_id id in
    let here : find p (r ∷ []) ≡ Some r = rw is refl in
    finds_defaults id (rows ++ r ∷ []) rules
    ∙ ap (λ o. option_or o (find p (fold with_default [] rules))) (find-append p rows (r ∷ []) ∙ ap₂ option_or (none_found id rows none) here)
