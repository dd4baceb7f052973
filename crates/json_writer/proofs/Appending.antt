-- A text that is appended part by part, and a list with commas.
use Rattle.std.proofs.Common.{◌≡◌, ℕ, ◌+◌, ◌<◌, ◌≤◌, Bool, false, List, [], ◌++◌, length, drop, get_or, append_assoc, ap, sym, ◌∙◌}
use Rattle.std.proofs.lemmas.List.{append-nil, drop_all}
use Rattle.owned_values.specs.Commas.{comma_unless}
use Rattle.json_writer.specs.Standing.{Start}
use Rattle.json_writer.proofs.Lists.{list_left, element-next}

-- one part and then another
pub then : (old : List ℕ) {mid new : List ℕ} (a b : List ℕ) → mid ≡ old ++ a → new ≡ mid ++ b → new ≡ old ++ (a ++ b)
then old a b e f = f ∙ ap (λ t. t ++ b) e ∙ append_assoc old a b

-- a part that is this one
pub as_part : (old : List ℕ) {new a b : List ℕ} → b ≡ a → new ≡ old ++ a → new ≡ old ++ b
as_part old is e = e ∙ ap (λ t. old ++ t) (sym is)

-- `whole` is put behind what `old` has, up to `left`
pub record UpTo {S : Type 0} (text : S → List ℕ) (good : S → Start → Type 0) (old now : S) (whole left : List ℕ) : Type 0 where
  pub is : text now ++ left ≡ text old ++ whole
  pub kept : (start : Start) → good old start → good now start

module _ {S : Type 0} {text : S → List ℕ} {good : S → Start → Type 0} {old now : S} {whole : List ℕ} where
  pub begins : (part : List ℕ) {left : List ℕ} → whole ≡ part ++ left → text now ≡ text old ++ part → ((start : Start) → good old start → good now start) → UpTo text good old now whole left
  begins part {left} e f kept = record { is = rw (e, f) (append_assoc (text old) part left); kept = kept }

  pub goes : {new : S} (part : List ℕ) {left rest : List ℕ} → UpTo text good old now whole left → left ≡ part ++ rest
      → text new ≡ text now ++ part → ((start : Start) → good now start → good new start) → UpTo text good old new whole rest
  goes {new} part {left} {rest} up e f kept = record { is = rw f (append_assoc (text now) part rest) ∙ (rw e at up.is); kept = λ start h. kept start (up.kept start h) }

  pub done : UpTo text good old now whole [] → text now ≡ text old ++ whole
  done up = sym (append-nil (text now)) ∙ up.is

  pub ends : {new : S} {left : List ℕ} → UpTo text good old now whole left → text new ≡ text now ++ left → text new ≡ text old ++ whole
  ends up e = e ∙ up.is

  -- the state of the loop in front of the element at i
  module _ {A : Type 0} (text_of : A → List ℕ) (closing : List ℕ) (is_first : Bool) (items : List A) (i : ℕ) (up : UpTo text good old now whole (list_left text_of closing is_first (drop i items))) where
    pub list-goes : {mid new : S} (item : A) → i < length items → item ≡ get_or items i item
        → text mid ≡ text now ++ comma_unless is_first → ((start : Start) → good now start → good mid start)
        → text new ≡ text mid ++ text_of item → ((start : Start) → good mid start → good new start)
        → UpTo text good old new whole (list_left text_of closing false (drop (i + 1) items))
    list-goes {mid} {new} item within is e to_mid f to_new =
        goes (comma_unless is_first ++ text_of item) up (element-next text_of closing is_first items i item within is) (then (text now) (comma_unless is_first) (text_of item) e f) (λ start h. to_new start (to_mid start h))

    pub list-ends : {new : S} → length items ≤ i → text new ≡ text now ++ closing → text new ≡ text old ++ whole
    list-ends past e = ends (rw (drop_all i items past) at up) e
