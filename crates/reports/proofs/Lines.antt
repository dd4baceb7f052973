-- How a text falls into lines.
use Rattle.std.proofs.Common.{◌≡◌, ◌≢◌, ℕ, suc, ◌+◌, ◌<◌, List, [], ◌∷◌, ◌++◌, length, get_or, refl, arith, ap, ◌∙◌, Option, Some, None, MatchOption, Bor, Bool, false, ◌==◌, drop, map, append_assoc, length-append}
use Rattle.std.proofs.lemmas.Bool.{ne_eqb, true≢false}
use Rattle.std.proofs.lemmas.List.{append-nil}
use Rattle.std.specs.Prelude.{codes}
use Rattle.json_writer.proofs.Lists.{list_left}
use Rattle.owned_values.specs.Commas.{comma_unless, with_commas}
use Rattle.std.proofs.lemmas.Str.Pattern.{IsSplitOnceResult, split_parts, strip_prefix_char}
use Rattle.std.specs.Str.Pattern.{FindsCharPrefix}
use Rattle.reports.specs.Lines.{lines_of, line_text, one_line, without_blank}

regrouped : (comma text following closing : List ℕ) → (comma ++ (text ++ following)) ++ closing ≡ (comma ++ text) ++ (following ++ closing)
regrouped comma text following closing = simp append_assoc

-- no byte of a text is this one
abbrev pub Lacks : ℕ → List ℕ → Type 0
Lacks c text = (i : ℕ) → i < length text → get_or text i 0 ≢ c

following-first : (c b : ℕ) (text : List ℕ) → Lacks c (b ∷ text) → Lacks c text
following-first c b text free = λ i lt. free (suc i) (omega arith)

-- the line that a line feed ends
pub first-line : (line following : List ℕ) → Lacks 10 line → lines_of (line ++ (10 ∷ following)) ≡ line ∷ lines_of following
first-line [] following free = refl
first-line (b ∷ line) following free = grind (arith, first-line line following (following-first 10 b line free), free 0 (omega arith))

-- a text without line feeds
pub last-line : (text : List ℕ) → Lacks 10 text → lines_of text ≡ one_line text
last-line [] free = refl
last-line (b ∷ []) free = grind (arith, free 0 (omega arith))
last-line (b ∷ c ∷ text) free = grind (arith, last-line (c ∷ text) (following-first 10 b (c ∷ text) free), free 0 (omega arith))

kept : (text : List ℕ) → ((rest : List ℕ) → text ≢ 32 ∷ rest) → text ≡ without_blank text
kept [] free = refl
kept (b ∷ text) free = rw (ne_eqb b 32 (λ e. free text (ap (λ z. z ∷ text) e))) refl

pub blank-kept : (text : List ℕ) (r : Option (Bor (List ℕ))) → r ≡ None
    → MatchOption r (FindsCharPrefix 32 text None) (λ x. (n : ℕ) × FindsCharPrefix 32 text (Some n) × (x.now ≡ drop n text) × (length x.now + n ≡ length text))
    → text ≡ without_blank text
blank-kept text r is cases = kept text (strip_prefix_char 32 text None (rw is at cases) (omega arith))

pub rest-some : (is_first : Bool) (text : List ℕ) → (length text == 0) ≡ false
    → with_commas is_first (map line_text (one_line text)) ≡ comma_unless is_first ++ line_text text
rest-some is_first [] e = absurd (true≢false e)
rest-some is_first (b ∷ text) e = ap (λ z. comma_unless is_first ++ z) (append-nil (line_text (b ∷ text)))

-- ---- the lines that are left to write

-- in front of a line feed
pub next-line : (is_first : Bool) (text : List ℕ) (r : Option (Bor (List ℕ) × Bor (List ℕ))) (line following : Bor (List ℕ)) → r ≡ Some (line, following) → IsSplitOnceResult 10 text r
    → list_left line_text (codes "]") is_first (lines_of text) ≡ (comma_unless is_first ++ line_text line.now) ++ list_left line_text (codes "]") false (lines_of following.now)
next-line is_first text r line following is split =
    let parts = split_parts 10 text (Some (line, following)) (rw is at split) (omega arith) in
    ap (λ z. list_left line_text (codes "]") is_first (lines_of z)) parts.0
    ∙ ap (list_left line_text (codes "]") is_first) (first-line line.now following.now parts.1)
    ∙ regrouped (comma_unless is_first) (line_text line.now) (with_commas false (map line_text (lines_of following.now))) (codes "]")

-- after the last line feed
pub no-further-line : (is_first : Bool) (text : List ℕ) (r : Option (Bor (List ℕ) × Bor (List ℕ))) → r ≡ None → IsSplitOnceResult 10 text r
    → list_left line_text (codes "]") is_first (lines_of text) ≡ with_commas is_first (map line_text (one_line text)) ++ codes "]"
no-further-line is_first text r is split = ap (list_left line_text (codes "]") is_first) (last-line text (split_parts 10 text None (rw is at split) (omega arith)))

-- what is after a line is shorter
pub shorter : (text : List ℕ) (r : Option (Bor (List ℕ) × Bor (List ℕ))) (line following : Bor (List ℕ)) → r ≡ Some (line, following) → IsSplitOnceResult 10 text r
    → length following.now < length text
shorter text r line following is split =
    let parts = split_parts 10 text (Some (line, following)) (rw is at split) (omega arith) in
    omega (arith, ap length parts.0, length-append line.now (10 ∷ following.now))
