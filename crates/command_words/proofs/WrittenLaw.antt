-- What is written is what is asked for.
use Rattle.std.proofs.Common.{◌≡◌, ◌∙◌, ◌+◌, ◌-◌, ◌<◌, ◌==◌, ◌++◌, ℕ, suc, List, [], ◌∷◌, Bool, true, false, Option, Some, None, cond, length, map, take, drop, refl, sym, ap, ap₂, arith, subst, lt-ltb, length-append}
use Rattle.std.proofs.Common.{ℤ, ◌≤◌, ◌^◌}
use Rattle.std.specs.Prelude.{FitsSigned, IfSome, decimal, nat_lt, option_map, neg_ℤ, pos, unwrap_or, ◌≤ℤ◌}
use Rattle.std.specs.Int.{w64}
use Rattle.std.specs.Str.Parse.{IsNumeral, digits_value, signed_digits_value, starts_with_minus, without_leading_plus, without_leading_sign}
use Rattle.std.proofs.lemmas.Bool.{ne_eqb, or_parts}
use Rattle.std.proofs.lemmas.Fmt.{decimal_is_IsNumeral}
use Rattle.std.proofs.lemmas.Int.{ints}
use Rattle.std.proofs.lemmas.Str.Parse.{digit_from_value}
use Rattle.clap.specs.ValueTests.{accepts}
use Rattle.clap.specs.declared.builder.value_parser.ValueParser.TheVariants.{Signed, Unsigned}
use Rattle.clap.proofs.ValueTestLemmas.{Accepts-accepts}
use Rattle.std.specs.List.{position, position_or_len}
use Rattle.clap.specs.Lexer.{has_byte, without_minus}
use Rattle.clap.specs.Walk.{Text}
use Rattle.command_words.specs.LayerWords.{equals_sign}
use Rattle.command_words.specs.Asked.{and_layer, Ordered, build, cells_of, geo, grid_at, layer_of, layers_of, number_in, order_of, simplify, stat}
use Rattle.command_words.specs.Written.{HasPlainNames, IsWritable, layer_word, written}
use Rattle.command_words.proofs.Laws.{geo_law, stat_law}
use Rattle.command_words.proofs.SimplifyLaw.{simplify_law}
use Rattle.command_words.proofs.BuildLaw.{build_law, is_taken}
use Rattle.command_words.specs.Requests.{IsCells}
use Rattle.clap.specs.Lexer.{usize_max}
use Rattle.command_words.proofs.Getters.{in_range}

-- the place of the first `=` is after the name
place : (name path : Text) → has_byte equals_sign name ≡ false → position_or_len (λ c. c == equals_sign) (name ++ equals_sign ∷ path) ≡ length name
place [] path none = refl
place (x ∷ name) path none =
    let parts = or_parts (x == equals_sign) (has_byte equals_sign name) none in
    let rest : position_or_len (λ c. c == equals_sign) (name ++ equals_sign ∷ path) ≡ length name = place name path parts.1 in
    let more : 1 + position_or_len (λ c. c == equals_sign) (name ++ equals_sign ∷ path) ≡ suc (length name) = omega arith in
    rw parts.0 more

taken : (name rest : Text) → take (length name) (name ++ rest) ≡ name
taken [] rest = refl
taken (x ∷ name) rest = ap (λ xs. x ∷ xs) (taken name rest)

dropped : (name path : Text) → drop (suc (length name)) (name ++ equals_sign ∷ path) ≡ path
dropped [] path = refl
dropped (x ∷ name) path = dropped name path

split : (name path : Text) → has_byte equals_sign name ≡ false → layer_of (name ++ equals_sign ∷ path) ≡ Some (name, path)
split name path none =
    let word = name ++ equals_sign ∷ path in
    let at = place name path none in
    let within : length name < length word = rw (length-append name (equals_sign ∷ path)) (omega arith) in
    let found : position (λ c. c == equals_sign) word ≡ Some (length name) =
    ap (λ (n : ℕ). cond (nat_lt n (length word)) (Some n) None) at ∙ ap (λ (b : Bool). cond b (Some (length name)) None) (lt-ltb (length name) (length word) within) in
    let one : length name + 1 ≡ suc (length name) = omega arith in
    ap (option_map (λ (i : ℕ). (take i word, drop (i + 1) word))) found
    ∙ (λ i. Some (taken name (equals_sign ∷ path) i, (ap (λ n. drop n word) one ∙ dropped name path) i))

pub all_split : (layers : List (Text × Text)) → HasPlainNames layers → layers_of (map layer_word layers) ≡ Some layers
all_split [] plain = refl
all_split (layer ∷ layers) plain = ap₂ and_layer (split layer.0 layer.1 plain.0) (all_split layers plain.1)

length_words : (layers : List (Text × Text)) → length (map layer_word layers) ≡ length layers
length_words [] = refl
length_words (layer ∷ layers) = ap suc (length_words layers)

-- ---- the grid

no_sign : (t : Text) → IsNumeral 10 t → (starts_with_minus t ≡ false) × (without_leading_plus t ≡ t) × (without_minus t ≡ t)
no_sign [] h = absurd (omega arith)
no_sign (d ∷ ds) h =
    let minus : (d == 45) ≡ false = ne_eqb _ _ (λ e. omega (arith, digit_from_value d h.1.0)) in
    let plus : (d == 43) ≡ false = ne_eqb _ _ (λ e. omega (arith, digit_from_value d h.1.0)) in
    (minus, ap (λ (b : Bool). drop (cond b 1 0) (d ∷ ds)) plus, ap (λ (b : Bool). unwrap_or (cond b (Some ds) None) (d ∷ ds)) minus)

cells_taken : (t : Text) (n : ℕ) → IsNumeral 10 t → digits_value 10 t ≡ n → 2 ≤ n → n ≤ 1000000000
    → accepts false (Signed (pos 2) (pos 1000000000)) t ≡ true
cells_taken t n h v low high =
    let s = no_sign t h in
    let bare : without_leading_sign t ≡ t = ap (λ (b : Bool). cond b (drop 1 t) (without_leading_plus t)) s.0 ∙ s.1 in
    let value : signed_digits_value 10 t ≡ pos n =
    ap (λ (b : Bool). cond b (neg_ℤ (pos (digits_value 10 (without_leading_sign t)))) (pos (digits_value 10 (without_leading_sign t)))) s.0
    ∙ ap (λ (w : Text). pos (digits_value 10 w)) bare ∙ ap (λ k. pos k) v in
    let small : FitsSigned w64 (pos n) = record { sfits = omega arith } in
    let least : pos 2 ≤ℤ pos n = omega (arith, ints) in
    let most : pos n ≤ℤ pos 1000000000 = omega (arith, ints) in
    Accepts-accepts false (Signed (pos 2) (pos 1000000000)) t
    (subst (IsNumeral 10) (sym bare) h, subst (FitsSigned w64) (sym value) small, subst (λ (z : ℤ). pos 2 ≤ℤ z) (sym value) least, subst (λ (z : ℤ). z ≤ℤ pos 1000000000) (sym value) most)

number_read : (least most : ℕ) (t : Text) (n : ℕ) → IsNumeral 10 t → digits_value 10 t ≡ n → least ≤ n → n ≤ most → n < 2 ^ 64 → number_in least most t ≡ Some n
number_read least most t n h v low high small =
    let s = no_sign t h in
    let value : digits_value 10 (without_leading_plus t) ≡ n = ap (digits_value 10) s.1 ∙ v in
    in_range least most t n (sym value)
    (Accepts-accepts false (Unsigned least most) t (subst (IsNumeral 10) (sym s.1) h, omega (arith, small), omega arith, omega arith))

cells_read : (t : Text) (n : ℕ) → IsNumeral 10 t → digits_value 10 t ≡ n → 2 ≤ n → n ≤ 1000000000 → cells_of (without_minus t) ≡ Some n
cells_read t n h v low high = ap cells_of (no_sign t h).2 ∙ number_read 2 (10 ^ 9) t n h v low (omega arith) (omega arith)

-- a number of cells is taken, and read back
grid_taken : (grid : Option ℕ) → IfSome grid IsCells → IfSome (option_map decimal grid) (λ c. is_taken c ≡ true)
grid_taken None cells = tt
grid_taken (Some n) cells =
    let low : 2 ≤ n = cells.0 in
    let high : n ≤ 1000000000 = cells.1 in
    let d = decimal_is_IsNumeral n (omega arith) in
    cells_taken (decimal n) n d.0 d.1 low high

grid_read : (grid : Option ℕ) → IfSome grid IsCells → grid_at (option_map without_minus (option_map decimal grid)) ≡ Some grid
grid_read None cells = refl
grid_read (Some n) cells =
    let low : 2 ≤ n = cells.0 in
    let high : n ≤ 1000000000 = cells.1 in
    let d = decimal_is_IsNumeral n (omega arith) in
    ap (option_map (λ k. Some k)) (cells_read (decimal n) n d.0 d.1 low high)

fits : (layers : List (Text × Text)) → suc (length layers) < usize_max → length (map layer_word layers) < usize_max
fits layers few = let same = length_words layers in omega (arith, few)

pub asked_as_written : (o : Ordered) → IsWritable o.0 → order_of (written o) ≡ Some o
asked_as_written (build [] exact grid area keep ring_area no_crossings keep_shapes, output) can = absurd (omega (arith, can.1))
asked_as_written (build (layer ∷ layers) exact grid area None ring_area no_crossings keep_shapes, output) can =
    build_law output (option_map decimal grid) (Some area) None ring_area no_crossings keep_shapes exact (layer_word layer) (map layer_word layers) (fits layers can.2)
    (grid_taken grid can.0) grid (layer ∷ layers) (grid_read grid can.0) (all_split (layer ∷ layers) can.3) refl
asked_as_written (build (layer ∷ layers) exact grid area (Some share) ring_area no_crossings keep_shapes, output) can =
    build_law output (option_map decimal grid) None (Some share) ring_area no_crossings keep_shapes exact (layer_word layer) (map layer_word layers) (fits layers can.2)
    (grid_taken grid can.0) grid (layer ∷ layers) (grid_read grid can.0) (all_split (layer ∷ layers) can.3) refl
    ∙ (λ i. Some (build (layer ∷ layers) exact grid (sym can.4 i) (Some share) ring_area no_crossings keep_shapes, output))
asked_as_written (simplify area None ring_area no_crossings keep_shapes path, output) can = simplify_law output (Some area) None ring_area path no_crossings keep_shapes refl
asked_as_written (simplify area (Some share) ring_area no_crossings keep_shapes path, output) can =
    simplify_law output None (Some share) ring_area path no_crossings keep_shapes refl ∙ (λ i. Some (simplify (sym can i) (Some share) ring_area no_crossings keep_shapes path, output))
asked_as_written (geo name None path, output) can = geo_law output None name path
asked_as_written (geo name (Some n) path, output) can =
    let d = decimal_is_IsNumeral n can in
    geo_law output (Some (decimal n)) name path
    ∙ ap (λ (o : Option ℕ). option_map (λ a. (a, output)) (option_map (λ m. geo name m path) (option_map (λ k. Some k) o)))
    (number_read 0 (2 ^ 64 - 1) (decimal n) n d.0 d.1 (omega arith) (omega (arith, can)) (omega (arith, can)))
asked_as_written (stat crossings path, output) can = stat_law output crossings path
