-- The texts of lines, and those of their arcs.
use Rattle.std.proofs.Common.{◌≡◌, ℕ, zero, suc, ◌+◌, ◌-◌, ◌<◌, ◌≤◌, ℤ, Bool, true, false, if◌then◌else◌, List, [], ◌∷◌, ◌++◌, map, drop, take, length, get_or, reverse, refl, ap, sym, ◌∙◌, append_assoc, add-one, drop-cons, arith}
use Rattle.std.proofs.lemmas.List.{drop_all, length-append, length-reverse}
use Rattle.std.proofs.lemmas.Bool.Decides.{nat_tests}
use Rattle.std.specs.Prelude.{◌==◌, Option, None, Some, codes}
use Rattle.std.specs.Borrow.{Bor}
use Rattle.std.specs.Option.{is_some, option_copied}
use Rattle.json_value.specs.Text.{json_text}
use Rattle.json_writer.proofs.Lists.{array-text}
use Rattle.geometry.specs.Joins.{AreInRange, arc_at, is_reversed, joined_after_first, number_of, stitched}
use Rattle.geometry.specs.Lists.{tail}
use Rattle.geometry.specs.Points.{Point}
use Rattle.topojson_types.specs.Topologies.{Contents}
use Rattle.topojson_types.specs.declared.transform.Transform.{Transform}
use Rattle.topojson_types.proofs.Opening.{AreLong, arc_is, arc_long}
use Rattle.topojson_writer.specs.Decoded.{arc_in, line_in}
use Rattle.topojson_writer.specs.FeatureValues.{position_value, positions_value}
use Rattle.topojson_writer.specs.LineTexts.{Begins, added, behind_bracket, positions_text}
use Rattle.topojson_writer.proofs.PositionBytes.{behind_position}
use Rattle.topojson_writer.proofs.SpelledArcs.{completed_long}

-- ---- the text of an arc

without_last : (xs ys : List ℕ) (x y : ℕ) → xs ++ x ∷ [] ≡ ys ++ y ∷ [] → xs ≡ ys
without_last [] [] x y h = refl
without_last [] (b ∷ []) x y h = absurd cc
without_last [] (b ∷ c ∷ ys) x y h = absurd cc
without_last (a ∷ []) [] x y h = absurd cc
without_last (a ∷ c ∷ xs) [] x y h = absurd cc
without_last (a ∷ xs) (b ∷ ys) x y h = grind (arith, without_last xs ys x y)

pub closed_text : (arc : List Point) → json_text (positions_value arc) ≡ (codes "[" ++ positions_text true arc) ++ codes "]"
closed_text arc = array-text position_value arc ∙ sym (append_assoc (codes "[") (positions_text true arc) (codes "]"))

-- what is left of it without the bracket at its end
pub first_added : (arc : List Point) (text inside : List ℕ) (last : ℕ) → text ≡ json_text (positions_value arc) → text ≡ inside ++ last ∷ [] → inside ≡ added true arc
first_added arc text inside last is split = without_last inside (added true arc) last 93 (sym split ∙ is ∙ closed_text arc)

later : (arc : List Point) → behind_bracket (added true arc) ≡ added false arc
later [] = refl
later (p ∷ ps) = behind_position p (positions_text false ps)

pub later_added : (arc : List Point) (text inside : List ℕ) (last : ℕ) → text ≡ json_text (positions_value arc) → text ≡ inside ++ last ∷ [] → behind_bracket inside ≡ added false arc
later_added arc text inside last is split = ap behind_bracket (first_added arc text inside last is split) ∙ later arc

-- ---- the text of a line

later_positions : (p q : List Point) → positions_text false (p ++ q) ≡ positions_text false p ++ positions_text false q
later_positions [] q = refl
later_positions (x ∷ p) q = rw (later_positions p q) (simp append_assoc)

positions_in_turn : (is_first : Bool) (p q : List Point) → 1 ≤ length p → positions_text is_first (p ++ q) ≡ positions_text is_first p ++ positions_text false q
positions_in_turn is_first [] q some = absurd (omega (arith, some))
positions_in_turn is_first (x ∷ p) q some = rw (later_positions p q) (simp append_assoc)

-- the index of this number by itself
pub only_index : (refs : List ℤ) (at : ℕ) (r : ℤ) → at < length refs → r ≡ get_or refs at r → take ((at + 1) - at) (drop at refs) ≡ r ∷ []
only_index refs at r within is =
    let one : (at + 1) - at ≡ 1 = omega arith in
    rw (one, drop-cons refs at r within) (ap (λ x. x ∷ []) (sym is))

module _ (t : Contents) where
  -- what is left of the text of a line in front of the arc of this number
  abbrev pub left_of : ℕ → List ℤ → List ℕ
  left_of zero refs = json_text (positions_value (line_in t false refs))
  left_of (suc at) refs = positions_text false (joined_after_first (map (arc_in t) (drop (suc at) refs))) ++ codes "]"

  pub next_arc : (refs : List ℤ) (at : ℕ) (r : ℤ) → Begins t refs → at < length refs → r ≡ get_or refs at r → left_of at refs ≡ added (at == 0) (arc_in t r) ++ left_of (at + 1) refs
  next_arc [] zero r begun within is = absurd begun
  next_arc (s ∷ refs) zero r begun within is =
      let q = joined_after_first (map (arc_in t) refs) in
      rw is (closed_text (arc_in t s ++ q) ∙ rw (positions_in_turn true (arc_in t s) q begun) (simp append_assoc))
  next_arc refs (suc at) r begun within is =
      let here : drop (suc at) refs ≡ r ∷ drop (suc (suc at)) refs = drop-cons refs (suc at) r within ∙ ap (λ z. z ∷ drop (suc (suc at)) refs) (sym is) in
      let q = joined_after_first (map (arc_in t) (drop (suc (suc at)) refs)) in
      let later : (suc at == 0) ≡ false = grind (arith, nat_tests) in
      rw (add-one, later, here, later_positions (tail (arc_in t r)) q) (simp append_assoc)

  pub no_more : (refs : List ℤ) (at : ℕ) → Begins t refs → length refs ≤ at → left_of at refs ≡ codes "]"
  no_more [] at begun past = absurd begun
  no_more (s ∷ refs) zero begun past = absurd (omega (arith, past))
  no_more (s ∷ refs) (suc at) begun past = rw (drop_all (suc at) (s ∷ refs) past) refl

-- ---- how many positions arcs have in a row

either_length : (backwards : Bool) (arc : List Point) → length (if backwards then reverse arc else arc) ≡ length arc
either_length true arc = length-reverse arc
either_length false arc = refl

after_first : (p q : List Point) → length (tail p ++ q) ≡ (length p - 1) + length q
after_first [] q = grind arith
after_first (x ∷ p) q = grind (arith, length-append)

module _ (arcs : List (List Point)) where
  abbrev in_a_row : List ℤ → List Point
  in_a_row refs = joined_after_first (map (arc_at arcs) refs)

  pub arc_length : (r : ℤ) (number : ℕ) (arc : List Point) → number ≡ number_of r → number_of r < length arcs → arc ≡ get_or arcs number arc → length arc ≡ length (arc_at arcs r)
  arc_length r number arc e within is = sym (either_length (is_reversed r) arc) ∙ ap length (arc_is arcs r number (is_reversed r) arc within e refl is)

  after_one : (r : ℤ) (refs : List ℤ) → length (in_a_row (r ∷ refs)) ≡ (length (arc_at arcs r) - 1) + length (in_a_row refs)
  after_one r refs = after_first (arc_at arcs r) (in_a_row refs)

  pub one_more : (refs : List ℤ) (i : ℕ) (r : ℤ) (missing left many total : ℕ) → i < length refs → r ≡ get_or refs i r → many ≡ length (arc_at arcs r) → missing ≤ 3 → left ≡ missing - (many - 1)
      → (3 - missing) + length (in_a_row (drop i refs)) ≤ total → (3 - left) + length (in_a_row (drop (i + 1) refs)) ≤ total
  one_more refs i r missing left many total within is e few l h =
      let here : drop i refs ≡ r ∷ drop (i + 1) refs = rw add-one (drop-cons refs i r within ∙ ap (λ z. z ∷ drop (suc i) refs) (sym is)) in
      omega (arith, e, l, few, rw here at h, after_one r (drop (i + 1) refs))

  pub long_enough : (refs : List ℤ) → AreLong arcs → AreInRange (length arcs) refs → 3 ≤ length (in_a_row refs) → 4 ≤ length (stitched (map (arc_at arcs) refs))
  long_enough [] long ranged h = absurd (omega (arith, h))
  long_enough (r ∷ refs) long ranged h = grind (arith, arc_long, after_one)

-- ---- lines of which texts of arcs are copied

unplaced : (o : Option (Bor Transform)) (transform : Option Transform) → option_copied o ≡ transform → is_some o ≡ false → transform ≡ None
unplaced None transform e h = sym e
unplaced (Some t) transform e h = absurd cc

module _ (t : Contents) (refs : List ℤ) (ranged : AreInRange (length t.arcs) refs) (o : Option (Bor Transform)) (is : option_copied o ≡ t.transform) (none : is_some o ≡ false) where
  pub begins : AreLong t.arcs → (length refs == 0) ≡ false → Begins t refs
  begins long some = begins_at refs ranged some long where
    begins_at : (rs : List ℤ) → AreInRange (length t.arcs) rs → (length rs == 0) ≡ false → AreLong t.arcs → Begins t rs
    begins_at [] h some long = absurd cc
    begins_at (r ∷ rs) h some long = rw (unplaced o t.transform is none) (omega (arith, arc_long t.arcs r long h.0))

  pub not_filled : (closed : Bool) → (closed ≡ true → 4 ≤ length (stitched (map (arc_at t.arcs) refs))) → line_in t closed refs ≡ line_in t false refs
  not_filled closed long = rw (unplaced o t.transform is none) (completed_long closed (stitched (map (arc_at t.arcs) refs)) long)
