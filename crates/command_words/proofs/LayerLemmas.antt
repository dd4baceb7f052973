-- Layer words, one after another.
use Rattle.std.proofs.Common.{◌≡◌, ◌∙◌, ◌<◌, ◌+◌, ◌==◌, ◌||◌, Bool, true, false, cond, inl, inr, le-ltb, lt-ltb, subst, ℕ, zero, suc, List, [], ◌∷◌, ◌++◌, length, map, drop, get_or, Option, Some, None, option_map, refl, sym, ap, arith, Bor, append_assoc}
use Rattle.std.specs.List.{list_any, position, position_or_len}
use Rattle.std.specs.Prelude.{is_some, nat_lt, not, take}
use Rattle.std.proofs.lemmas.Bool.{cases_lt, or_parts}
use Rattle.std.proofs.lemmas.List.{length-map, map_push}
use Rattle.clap.specs.Lexer.{has_byte}
use Rattle.clap.specs.Walk.{Text}
use Rattle.command_words.specs.Asked.{and_layer, layer_of, layers_of}
use Rattle.command_words.specs.LayerWords.{equals_sign}

abbrev pub Layer : Type 0
Layer = Text × Text

-- a layer as its texts
abbrev pub as_texts : Bor Text × Bor Text → Layer
as_texts layer = (layer.0.now, layer.1.now)

-- the layers so far, before those of the words that are left
abbrev pub before : List Layer → Option (List Layer) → Option (List Layer)
before layers o = option_map (λ more. layers ++ more) o

none_before : (layers : List Layer) (o : Option (List Layer)) → before layers (and_layer None o) ≡ None
none_before layers None = refl
none_before layers (Some more) = refl

some_before : (layers : List Layer) (layer : Layer) (o : Option (List Layer)) → before layers (and_layer (Some layer) o) ≡ before (layers ++ layer ∷ []) o
some_before layers layer None = refl
some_before layers layer (Some more) = ap (λ ls. Some ls) (sym (append_assoc layers (layer ∷ []) more))

-- the layers from a word on
at_word : (words : List (Bor Text)) (i : ℕ) (word : Bor Text) → i < length words
    → layers_of (drop i (map (λ w. w.now) words)) ≡ and_layer (layer_of (get_or words i word).now) (layers_of (drop (suc i) (map (λ w. w.now) words)))
at_word [] i word within = absurd (omega arith)
at_word (w ∷ ws) zero word within = refl
at_word (w ∷ ws) (suc i) word within = at_word ws i word (omega arith)

-- where a layer word has no `=`, there are no layers
pub no_layer : (words : List (Bor Text)) (layers : List (Bor Text × Bor Text)) (i : ℕ) (word : Bor Text) → i < length words
    → layers_of (map (λ w. w.now) words) ≡ before (map as_texts layers) (layers_of (drop i (map (λ w. w.now) words)))
    → layer_of (get_or words i word).now ≡ None → layers_of (map (λ w. w.now) words) ≡ None
no_layer words layers i word within h none =
    let rest = layers_of (drop (suc i) (map (λ w. w.now) words)) in
    h ∙ ap (before (map as_texts layers)) (at_word words i word within)
    ∙ ap (λ (o : Option Layer). before (map as_texts layers) (and_layer o rest)) none ∙ none_before (map as_texts layers) rest

pub next_layer : (words : List (Bor Text)) (layers : List (Bor Text × Bor Text)) (i : ℕ) (word : Bor Text) (layer : Bor Text × Bor Text) → i < length words
    → layers_of (map (λ w. w.now) words) ≡ before (map as_texts layers) (layers_of (drop i (map (λ w. w.now) words)))
    → layer_of (get_or words i word).now ≡ Some (as_texts layer)
    → layers_of (map (λ w. w.now) words) ≡ before (map as_texts (layers ++ layer ∷ [])) (layers_of (drop (i + 1) (map (λ w. w.now) words)))
next_layer words layers i word layer within h some =
    let rest = layers_of (drop (suc i) (map (λ w. w.now) words)) in
    let one : suc i ≡ i + 1 = omega arith in
    h ∙ ap (before (map as_texts layers)) (at_word words i word within)
    ∙ ap (λ (o : Option Layer). before (map as_texts layers) (and_layer o rest)) some ∙ some_before (map as_texts layers) (as_texts layer) rest
    ∙ ap (λ ls. before ls rest) (sym (map_push as_texts layers layer))
    ∙ ap (λ k. before (map as_texts (layers ++ layer ∷ [])) (layers_of (drop k (map (λ w. w.now) words)))) one

-- ---- words that have no `=`

abbrev pub lacks : Bor Text → Bool
lacks word = not (has_byte equals_sign word.now)

go_on : (m n : ℕ) → nat_lt (1 + m) (suc n) ≡ nat_lt m n
go_on m n = elim (cases_lt m n) [
  | inl below ↦ lt-ltb (1 + m) (suc n) (omega arith) ∙ sym (lt-ltb m n below)
  | inr above ↦ le-ltb (1 + m) (suc n) (omega arith) ∙ sym (le-ltb m n above)
]

-- a test passes in a list where its first place is within
within : {X : Type 0} (p : X → Bool) (xs : List X) → nat_lt (position_or_len p xs) (length xs) ≡ list_any p xs
within p [] = refl
within p (x ∷ xs) = go (p x) (within p xs)
  where
    go : (b : Bool) → nat_lt (position_or_len p xs) (length xs) ≡ list_any p xs
        → nat_lt (cond (not b) (1 + position_or_len p xs) 0) (length (x ∷ xs)) ≡ (b || list_any p xs)
    go true h = lt-ltb 0 (length (x ∷ xs)) (omega arith)
    go false h = go_on (position_or_len p xs) (length xs) ∙ h

some_if : {X Y : Type 0} (f : X → Y) (b : Bool) (x : X) → is_some (option_map f (cond b (Some x) None)) ≡ b
some_if f true x = refl
some_if f false x = refl

-- a word is cut where it has an `=`
cut_at : (word : Text) → is_some (layer_of word) ≡ has_byte equals_sign word
cut_at word =
    let p = λ (c : ℕ). c == equals_sign in
    some_if (λ (i : ℕ). (take i word, drop (i + 1) word)) (nat_lt (position_or_len p word) (length word)) (position_or_len p word) ∙ within p word

none_more : (words : List (Bor Text)) (i : ℕ) (word : Bor Text) → i < length words → list_any lacks (take i words) ≡ false → lacks (get_or words i word) ≡ false
    → list_any lacks (take (i + 1) words) ≡ false
none_more [] i word inside none one = absurd (omega arith)
none_more (w ∷ ws) zero word inside none one = rw one refl
none_more (w ∷ ws) (suc i) word inside none one =
    let parts = or_parts (lacks w) (list_any lacks (take i ws)) none in
    let next : suc i + 1 ≡ suc (i + 1) = omega arith in
    ap (λ k. list_any lacks (take k (w ∷ ws))) next ∙ rw parts.0 (none_more ws i word (omega arith) parts.1 one)

-- the first word that has no `=` stands at this place
first_place : (words : List (Bor Text)) (i : ℕ) (word : Bor Text) → i < length words → list_any lacks (take i words) ≡ false → lacks (get_or words i word) ≡ true
    → position_or_len (λ w. not (has_byte equals_sign w)) (map (λ w. w.now) words) ≡ i
first_place [] i word inside none one = absurd (omega arith)
first_place (w ∷ ws) zero word inside none one = rw one refl
first_place (w ∷ ws) (suc i) word inside none one =
    let parts = or_parts (lacks w) (list_any lacks (take i ws)) none in
    let rest : position_or_len (λ w. not (has_byte equals_sign w)) (map (λ w. w.now) ws) ≡ i = first_place ws i word (omega arith) parts.1 one in
    let more : 1 + position_or_len (λ w. not (has_byte equals_sign w)) (map (λ w. w.now) ws) ≡ suc i = omega arith in
    rw parts.0 more

pub first_without : (words : List (Bor Text)) (i : ℕ) (word : Bor Text) → i < length words → list_any lacks (take i words) ≡ false
    → layer_of (get_or words i word).now ≡ None → position (λ w. not (has_byte equals_sign w)) (map (λ w. w.now) words) ≡ Some i
first_without words i word inside cut none =
    let ws = map (λ (w : Bor Text). w.now) words in
    let one : lacks (get_or words i word) ≡ true = ap not (sym (cut_at (get_or words i word).now) ∙ ap is_some none) in
    ap (λ (n : ℕ). cond (nat_lt n (length ws)) (Some n) None) (first_place words i word inside cut one)
    ∙ ap (λ (b : Bool). cond b (Some i) None) (lt-ltb i (length ws) (subst (λ n. i < n) (sym (length-map words (λ (w : Bor Text). w.now))) inside))

-- the words so far are cut, and one more
pub more_cut : (words : List (Bor Text)) (i : ℕ) (word : Bor Text) (layer : Layer) → i < length words → list_any lacks (take i words) ≡ false
    → layer_of (get_or words i word).now ≡ Some layer → list_any lacks (take (i + 1) words) ≡ false
more_cut words i word layer inside cut some =
    none_more words i word inside cut (ap not (sym (cut_at (get_or words i word).now) ∙ ap is_some some))
