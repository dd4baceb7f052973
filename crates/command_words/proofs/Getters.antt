-- What the getters of a parse read.
use Rattle.std.proofs.Common.{◌≡◌, ◌⊎◌, ◌∙◌, ◌-◌, ◌≤◌, ◌^◌, ℕ, List, [], ◌∷◌, Bool, true, false, cond, Option, Some, None, Result, Ok, Err, map, option_map, refl, sym, ap, ap₂, subst, arith, inl, inr, Bor}
use Rattle.std.specs.Option.{unwrap_or, option_and_then}
use Rattle.std.specs.Str.Parse.{ParsesUnsigned, digits_value, without_leading_plus}
use Rattle.clap.specs.Matches.{TriesOne, matched_of, raw_values}
use Rattle.clap.specs.Walk.{Row, Text, all_of, first_of, rows_of}
use Rattle.clap.specs.ValueTests.{is_unsigned_in}
use Rattle.clap.specs.declared.parser.matches.Found.{Found}
use Rattle.clap.specs.declared.builder.value_parser.ValueParser.TheVariants.{Unsigned}
use Rattle.clap.specs.Kinds.{HasKind, IsAmong, Kinds}
use Rattle.clap.specs.Values.{kind_of}
use Rattle.clap.specs.declared.error.Error.{Error}
use Rattle.clap.specs.declared.error.kind.ErrorKind.{ErrorKind}
use Rattle.clap.specs.declared.error.kind.ErrorKind.TheVariants.{OutOfMemory}
use Rattle.std.specs.List.{list_all}
use Rattle.std.specs.Prelude.{◌&&◌, codes, is_some}
use Rattle.std.specs.Result.{result_ok}
use Rattle.std.proofs.lemmas.Bool.{and_right}
use Rattle.command_words.specs.Faults.{IsBuildFault, IsFaultBy, IsLayersFault, is_help, is_memory, is_refused}
use Rattle.command_words.specs.declared.words_fault.WordsFault.{WordsFault}
use Rattle.command_words.specs.declared.words_fault.WordsFault.TheVariants.{Help, Memory, NoEquals, Refused}
use Rattle.clap.proofs.WalkLemmas.{raw_values-rows}
use Rattle.clap.proofs.ValueTestLemmas.{accepts-Accepts, Accepts-accepts}
use Rattle.command_words.specs.Asked.{area_in, build, build_in, build_on, grid_at, grid_in, has_both, is_set, keep_in, layer_words, layers_in, most_in, number_at, number_in, ring_area_in, where_none, whole_number}

pub now_or : (r : Option (Bor Text)) (x e : Bor Text) → x ≡ unwrap_or r e → x.now ≡ unwrap_or (option_map (λ s. s.now) r) e.now
now_or None x e is = ap (λ (y : Bor Text). y.now) is
now_or (Some y) x e is = ap (λ (z : Bor Text). z.now) is

all_or : (r : Option (Bor (List (Bor Text)))) (x e : Bor (List (Bor Text))) → x ≡ unwrap_or r e → e.now ≡ []
    → map (λ v. v.now) x.now ≡ unwrap_or (option_map (λ s. map (λ v. v.now) s.now) r) []
all_or None x e is none = ap (λ (y : Bor (List (Bor Text))). map (λ v. v.now) y.now) is ∙ ap (map (λ (v : Bor Text). v.now)) none
all_or (Some y) x e is none = ap (λ (z : Bor (List (Bor Text))). map (λ v. v.now) z.now) is

-- all values of an argument, or none
pub read_all_or : (f : Found) (id : Text) (r : Option (Bor (List (Bor Text)))) (x e : Bor (List (Bor Text)))
    → option_map (λ s. map (λ v. v.now) s.now) r ≡ option_map raw_values (matched_of f id)
    → x ≡ unwrap_or r e → e.now ≡ [] → map (λ v. v.now) x.now ≡ unwrap_or (all_of id (rows_of f)) []
read_all_or f id r x e given is none =
    all_or r x e is none ∙ ap (λ (o : Option (List Text)). unwrap_or o []) (given ∙ raw_values-rows f id)

-- ---- the grid

pub in_range : (least most : ℕ) (t : Text) (n : ℕ) → n ≡ digits_value 10 (without_leading_plus t) → is_unsigned_in least most t ≡ true → number_in least most t ≡ Some n
in_range least most t n is h = rw h (ap (λ k. Some k) (sym is))

out_of_range : (least most : ℕ) (t : Text) → (is_unsigned_in least most t ≡ true → ⊥) → number_in least most t ≡ None
out_of_range least most t not = go (is_unsigned_in least most t) refl
  where
    go : (b : Bool) → is_unsigned_in least most t ≡ b → number_in least most t ≡ None
    go true e = absurd (not e)
    go false e = rw e refl

-- ---- a whole number

pub whole_read : {E : Type 0} (t : Text) (r : Result ℕ E) → ParsesUnsigned 64 10 t r → result_ok r ≡ whole_number t
whole_read t (Ok n) p =
    let v : n ≡ digits_value 10 (without_leading_plus t) = p.1 in
    sym (in_range 0 (2 ^ 64 - 1) t n v (Accepts-accepts false (Unsigned 0 (2 ^ 64 - 1)) t (p.0.0, p.0.1, omega arith, omega (arith, p.0.1))))
whole_read t (Err e) p = sym (out_of_range 0 (2 ^ 64 - 1) t (λ h. let a = accepts-Accepts false (Unsigned 0 (2 ^ 64 - 1)) t h in p (a.0, a.1)))

-- the number of positions of an argument that was looked up
pub most_given : (rows : List Row) (r o : Option (Bor Text)) → option_map (λ s. s.now) r ≡ first_of (codes "max-positions") rows → r ≡ o
    → number_at whole_number (option_map (λ s. s.now) o) ≡ most_in rows
most_given rows r o given is = ap (λ (q : Option (Bor Text)). number_at whole_number (option_map (λ s. s.now) q)) (sym is) ∙ ap (number_at whole_number) given

-- ---- the grid of a text

module _ {E : Type 0} (G : List ℕ → Result ℕ E → Type 0) (only : (t : List ℕ) (x : Result ℕ E) → G t x → ParsesUnsigned 32 10 t x) where
  pub no_grid : (o : Option Text) (r : Result (Option ℕ) E) → r ≡ Ok None → ((t : Text) → o ≡ Some t → TriesOne G t r) → grid_at o ≡ Some None
  no_grid None r is h = refl
  no_grid (Some t) r is h = absurd (subst (TriesOne G t) is (h t refl))

  parsed : (t : Text) (r : Result (Option ℕ) E) (n : ℕ) → r ≡ Ok (Some n) → TriesOne G t r → ParsesUnsigned {E = E} 32 10 t (Ok n)
  parsed t r n is h = only t (Ok n) (subst (TriesOne G t) is h)

  pub some_grid : (o : Option Text) (r : Result (Option ℕ) E) (n : ℕ) → r ≡ Ok (Some n) → (o ≡ None → r ≡ Ok None) → ((t : Text) → o ≡ Some t → TriesOne G t r)
      → 2 ≤ n → n ≤ 1000000000 → grid_at o ≡ Some (Some n)
  some_grid None r n is none h low high = let bad : r ≡ Ok None = none refl in cc
  some_grid (Some t) r n is none h low high =
      let p = parsed t r n is (h t refl) in
      let v : n ≡ digits_value 10 (without_leading_plus t) = p.1 in
      let test : is_unsigned_in 2 (10 ^ 9) t ≡ true = Accepts-accepts false (Unsigned 2 (10 ^ 9)) t (p.0.0, omega arith, omega arith, omega arith) in
      ap (option_map (λ k. Some k)) (in_range 2 (10 ^ 9) t n v test)

  pub refused_grid : (o : Option Text) (r : Result (Option ℕ) E) (n : ℕ) → r ≡ Ok (Some n) → (o ≡ None → r ≡ Ok None) → ((t : Text) → o ≡ Some t → TriesOne G t r)
      → (2 ≤ n → n ≤ 1000000000 → ⊥) → grid_at o ≡ None
  refused_grid None r n is none h out = let bad : r ≡ Ok None = none refl in cc
  refused_grid (Some t) r n is none h out =
      let p = parsed t r n is (h t refl) in
      let v : n ≡ digits_value 10 (without_leading_plus t) = p.1 in
      ap (option_map (λ k. Some k)) (out_of_range 2 (10 ^ 9) t (λ e. let a = accepts-Accepts false (Unsigned 2 (10 ^ 9)) t e in out (omega (arith, a.2)) (omega (arith, a.3))))

  pub unread_grid : (o : Option Text) (r : Result (Option ℕ) E) (e : E) → r ≡ Err e → (o ≡ None → r ≡ Ok None) → ((t : Text) → o ≡ Some t → TriesOne G t r) → grid_at o ≡ None
  unread_grid None r e is none h = let bad : r ≡ Ok None = none refl in cc
  unread_grid (Some t) r e is none h =
      let p = only t (Err e) (subst (TriesOne G t) is (h t refl)) in
      ap (option_map (λ k. Some k)) (out_of_range 2 (10 ^ 9) t (λ e₂. let a = accepts-Accepts false (Unsigned 2 (10 ^ 9)) t e₂ in p (a.0, omega (arith, a.3))))

-- whether an argument has a value
is_given : (o : Option Text) (r : Option (Bor Text)) → option_map (λ s. s.now) r ≡ o → is_some o ≡ is_some r
is_given o None given = ap is_some (sym given)
is_given o (Some x) given = ap is_some (sym given)

-- whether an area and a share are given both, where there is an area, and where there is none
pub with_area : (rows : List Row) (area keep : Option (Bor Text)) → option_map (λ s. s.now) area ≡ first_of (codes "min-area") rows
    → option_map (λ s. s.now) keep ≡ keep_in rows → is_some area ≡ true → is_some keep ≡ has_both rows
with_area rows area keep a k some =
    sym (ap₂ (λ x y. x && y) (is_given (first_of (codes "min-area") rows) area a) (is_given (keep_in rows) keep k) ∙ ap (λ b. b && is_some keep) some)

pub without_area : (rows : List Row) (area : Option (Bor Text)) → option_map (λ s. s.now) area ≡ first_of (codes "min-area") rows → is_some area ≡ false → false ≡ has_both rows
without_area rows area a none = sym (ap (λ b. b && is_some (keep_in rows)) (is_given (first_of (codes "min-area") rows) area a ∙ none))

-- ---- what `build` asks for

pub build_asked : (rows : List Row) (grid : Option ℕ) (layers : List (Text × Text)) (exact : Bool) (area : Text) (keep : Option Text) (ring_area : Text) (no_crossings keep_shapes : Bool)
    → has_both rows ≡ false → grid_in rows ≡ Some grid → layers_in rows ≡ Some layers
    → exact ≡ is_set (codes "exact") rows → area ≡ area_in rows → keep ≡ keep_in rows → ring_area ≡ ring_area_in rows → no_crossings ≡ is_set (codes "no-crossings") rows → keep_shapes ≡ is_set (codes "keep-shapes") rows
    → build_in rows ≡ Some (build layers exact grid area keep ring_area no_crossings keep_shapes)
build_asked rows grid layers exact area keep ring_area no_crossings keep_shapes one g l x a k r n s =
    ap (λ (b : Bool). cond b None (option_and_then (λ n. option_map (build_on rows n) (layers_in rows)) (grid_in rows))) one
    ∙ ap (option_and_then (λ n. option_map (build_on rows n) (layers_in rows))) g
    ∙ ap (option_map (build_on rows grid)) l
    ∙ (λ i. Some (build layers (sym x i) grid (sym a i) (sym k i) (sym r i) (sym n i) (sym s i)))

pub build_unasked : (rows : List Row) (grid : Option ℕ) → has_both rows ≡ false → grid_in rows ≡ Some grid → layers_in rows ≡ None → build_in rows ≡ None
build_unasked rows grid one g l =
    ap (λ (b : Bool). cond b None (option_and_then (λ n. option_map (build_on rows n) (layers_in rows)) (grid_in rows))) one
    ∙ ap (option_and_then (λ n. option_map (build_on rows n) (layers_in rows))) g
    ∙ ap (option_map (build_on rows grid)) l

pub no_build : (rows : List Row) → has_both rows ≡ false → grid_in rows ≡ None → build_in rows ≡ None
no_build rows one g =
    ap (λ (b : Bool). cond b None (option_and_then (λ n. option_map (build_on rows n) (layers_in rows)) (grid_in rows))) one
    ∙ ap (option_and_then (λ n. option_map (build_on rows n) (layers_in rows))) g

pub both_given : (rows : List Row) → has_both rows ≡ true → build_in rows ≡ None
both_given rows both = ap (λ (b : Bool). cond b None (option_and_then (λ n. option_map (build_on rows n) (layers_in rows)) (grid_in rows))) both

-- ---- words that are refused

among : {X : Type 0} (kinds : Kinds) (o : Option X) (e : Error) → IsAmong (kind_of e) kinds → where_none kinds o ≡ None
among [] o e h = absurd h
among (k ∷ ks) o e h = refl

-- an error of these kinds is one of memory, or they are some
pub refused_for : {X : Type 0} (kinds : Kinds) (o : Option X) (e : Error) (w : WordsFault) → HasKind kinds e → (kind_of e ≡ OutOfMemory → w ≡ Memory)
    → (w ≡ Memory) ⊎ (where_none kinds o ≡ None)
refused_for kinds o e w h memory = elim h [ inl m ↦ inl (memory m) | inr k ↦ inr (among kinds o e k) ]

-- the fault of an error of these kinds
pub help_for : (kinds : Kinds) (found : Option (Text × List Row)) (e : Error) → HasKind kinds e → (kind_of e ≡ OutOfMemory → ⊥) → is_help (kind_of e) ≡ true
    → IsFaultBy kinds found (Help e)
help_for kinds found e h other helps = elim h [ inl m ↦ absurd (other m) | inr k ↦ (k, helps) ]

pub memory_or : (e : Error) → is_memory (kind_of e) ≡ false → kind_of e ≡ OutOfMemory → ⊥
memory_or e other m = let bad : is_memory (kind_of e) ≡ true = ap is_memory m in cc

not_all_help : (kinds : Kinds) (k : ErrorKind) → IsAmong k kinds → is_help k ≡ false → list_all is_help kinds ≡ false
not_all_help [] k h other = absurd h
not_all_help (x ∷ xs) k (inl h) other = ap (λ (b : Bool). b && list_all is_help xs) (ap is_help (sym h) ∙ other)
not_all_help (x ∷ xs) k (inr h) other = and_right (is_help x) (list_all is_help xs) (not_all_help xs k h other)

pub refused_by : (kinds : Kinds) (e : Error) → HasKind kinds e → (kind_of e ≡ OutOfMemory → ⊥) → is_help (kind_of e) ≡ false → list_all is_help kinds ≡ false
refused_by kinds e h memory other = elim h [ inl m ↦ absurd (memory m) | inr k ↦ not_all_help kinds (kind_of e) k other ]

-- a refusal is reported for words that are refused
pub refusal_for : (kinds : Kinds) (found : Option (Text × List Row)) (f : WordsFault) → (f ≡ Memory) ⊎ ((e : Error) × (f ≡ Refused e))
    → ((kinds ≡ []) × (is_refused found ≡ true)) ⊎ (list_all is_help kinds ≡ false) → IsFaultBy kinds found f
refusal_for kinds found f (inl m) h = subst (IsFaultBy kinds found) (sym m) tt
refusal_for kinds found f (inr r) h = subst (IsFaultBy kinds found) (sym r.1) h

-- the words for layers have this fault where nothing comes before it
pub layers_fault : (rows : List Row) (grid : Option ℕ) (words : List Text) (f : WordsFault) → has_both rows ≡ false → grid_in rows ≡ Some grid → words ≡ layer_words rows
    → IsLayersFault (is_set (codes "explain") rows) words f → IsBuildFault rows f
layers_fault rows grid words (NoEquals layer advice) one g same h =
    (one, ap is_some g, subst (λ ws. IsLayersFault (is_set (codes "explain") rows) ws (NoEquals layer advice)) same h)
layers_fault rows grid words Memory one g same h = tt
layers_fault rows grid words e one g same h = absurd h
