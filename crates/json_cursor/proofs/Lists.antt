-- The elements of an array, one turn after another.
use Rattle.std.proofs.Common.{◌≡◌, ◌≢◌, ℕ, zero, suc, ◌+◌, ◌-◌, ◌<◌, ◌≤◌, ◌++◌, append_assoc, Bool, true, false, eqb, if◌then◌else◌, List, [], ◌∷◌, Option, Some, None, Result, Ok, Err, refl, sym, ap, ◌∙◌, arith}
use Rattle.std.specs.Borrow.{Bor}
use Rattle.json_value.specs.declared.json.Json.{Json}
use Rattle.json_value.specs.Reading.{Parse, ◌>>=◌, skip, list_after, list_at}
use Rattle.json_value.specs.Readers.{Counting}
use Rattle.json_reading.specs.declared.fault.Fault.{Fault}
use Rattle.json_reading.specs.declared.fault.Fault.TheVariants as fault
use Rattle.json_reading.specs.Gives.{Fails}
use Rattle.json_reading.specs.Passes.{Passes}
use Rattle.json_reading.proofs.Steps.{not_equal, pair_is}
use Rattle.json_cursor.specs.declared.stop.Stop.{Stop}
use Rattle.json_cursor.specs.declared.stop.Stop.TheVariants as stop
use Rattle.json_cursor.specs.Answers.{Stops}
use Rattle.json_cursor.proofs.Steps.{made, unmade, bound}

-- a comma with no white space before it
pub comma_first : (bytes rest : List ℕ) → bytes ≡ 44 ∷ rest → skip bytes ≡ 44 ∷ rest
unfolding skip
comma_first bytes rest h = rw h refl

-- after a thing stands nothing that goes on with it
pub nothing_after : (bytes : List ℕ) → skip bytes ≡ [] → (more : Parse (List Json)) (v : Json) → list_after 93 more v (skip bytes) ≡ None
unfolding list_after
nothing_after bytes h more v = rw h refl

pub other_after : (bytes rest : List ℕ) (b : ℕ) → skip bytes ≡ b ∷ rest → b ≢ 93 → b ≢ 44 → (more : Parse (List Json)) (v : Json) → list_after 93 more v (skip bytes) ≡ None
unfolding list_after
other_after bytes rest b h close comma more v = rw (h, not_equal b 44 comma, not_equal b 93 close) refl

module _ {A : Type 0} (more : Parse (List A)) (x : A) (bytes rest : List ℕ) where
  pub at_close : skip bytes ≡ 93 ∷ rest → list_after 93 more x (skip bytes) ≡ Some (x ∷ [], rest)
  unfolding list_after
  at_close h = rw h refl

  pub at_comma : skip bytes ≡ 44 ∷ rest → list_after 93 more x (skip bytes) ≡ made (λ xs. x ∷ xs) (more rest)
  unfolding list_after
  at_comma h = rw h refl

-- what goes on with a thing begins with it
by_tests : {A : Type 0} (comma close : Bool) (more : Option (List A × List ℕ)) (x : A) (bs : List ℕ) (xs : List A) (rest : List ℕ)
    → (if comma then made (λ xs. x ∷ xs) more else (if close then Some (x ∷ [], bs) else None)) ≡ Some (xs, rest) → (ys : List A) × (xs ≡ x ∷ ys)
by_tests true close more x bs xs rest h = let u = unmade (λ xs. x ∷ xs) more xs rest h in (u.0, u.1.1)
by_tests false true more x bs xs rest h = ([], sym (pair_is (x ∷ []) bs (xs, rest) h).0)
by_tests false false more x bs xs rest h = absurd cc

pub begins : {A : Type 0} (more : Parse (List A)) (x : A) (bs : List ℕ) (xs : List A) (rest : List ℕ) → list_after 93 more x bs ≡ Some (xs, rest) → (ys : List A) × (xs ≡ x ∷ ys)
unfolding list_after
begins more x [] xs rest h = absurd cc
begins more x (b ∷ bs) xs rest h = by_tests (eqb b 44) (eqb b 93) (more bs) x bs xs rest h

pub no_turn : {A : Type 0} (item : Parse A) (n : ℕ) (bs : List ℕ) → n ≡ 0 → list_at 93 item n bs ≡ None
unfolding list_at
no_turn item n bs h = rw h refl

-- one turn of the elements
module _ {A : Type 0} (item : Parse A) (n : ℕ) (bs : List ℕ) (some : 0 < n) where
  one_turn : list_at 93 item n bs ≡ (item (skip bs) >>= λ x. list_after 93 (list_at 93 item (n - 1)) x.0 (skip x.1))
  one_turn = unfold list_at in
      let k : n ≡ suc (n - 1) = omega arith in
      let one : list_at 93 item n bs ≡ list_at 93 item (suc (n - 1)) bs = ap (λ m. list_at 93 item m bs) k in
      one

  pub no_element : item (skip bs) ≡ None → list_at 93 item n bs ≡ None
  no_element h = one_turn ∙ rw h refl

  -- some thing stands there and begins the list
  pub first_is : (xs : List A) (rest : List ℕ) → list_at 93 item n bs ≡ Some (xs, rest) → (x : A) × ((after : List ℕ) × ((item (skip bs) ≡ Some (x, after)) × ((ys : List A) × (xs ≡ x ∷ ys))))
  first_is xs rest h =
      let b = bound (item (skip bs)) (λ x after. list_after 93 (list_at 93 item (n - 1)) x (skip after)) xs rest (sym one_turn ∙ h) in
      (b.0, (b.1.0, (b.1.1.0, begins (list_at 93 item (n - 1)) b.0 (skip b.1.0) xs rest b.1.1.1)))

  -- what stops the reader of the first stops the reader of all
  pub first_stops : {C E B D : Type 0} (read : List A → Counting C E B) (one : A → Counting C E D) (old : C) → ((v : A) (vs : List A) (e : E) → one v old ≡ Err e → read (v ∷ vs) old ≡ Err e)
      → (s : Stop E) → Stops one (item (skip bs)) old s → Stops read (list_at 93 item n bs) old s
  first_stops read one old law (stop.Fault e) h = λ xs rest found.
      let f = first_is xs rest found in
      ap (λ z. read z old) f.1.1.1.1 ∙ law f.0 f.1.1.1.0 e (h f.0 f.1.0 f.1.1.0)
  first_stops read one old law stop.NoValue h = no_element h
  first_stops read one old law stop.Memory h = tt

  module _ (x : A) (after : List ℕ) (found : item (skip bs) ≡ Some (x, after)) where
    goes_by : list_at 93 item n bs ≡ list_after 93 (list_at 93 item (n - 1)) x (skip after)
    goes_by = one_turn ∙ rw found refl

    pub ends : (rest : List ℕ) → skip after ≡ 93 ∷ rest → list_at 93 item n bs ≡ Some (x ∷ [], rest)
    ends rest h = goes_by ∙ at_close (list_at 93 item (n - 1)) x after rest h

    pub goes_on : (rest : List ℕ) → skip after ≡ 44 ∷ rest → list_at 93 item n bs ≡ made (λ xs. x ∷ xs) (list_at 93 item (n - 1) rest)
    goes_on rest h = goes_by ∙ at_comma (list_at 93 item (n - 1)) x after rest h

    pub breaks : list_after 93 (list_at 93 item (n - 1)) x (skip after) ≡ None → list_at 93 item n bs ≡ None
    breaks h = goes_by ∙ h

-- what passes the others passes them all
pub others_pass : {A : Type 0} (item : Parse A) (n : ℕ) (bs : List ℕ) → 0 < n → (x : A) (after : List ℕ) → item (skip bs) ≡ Some (x, after) → (rest : List ℕ) → skip after ≡ 44 ∷ rest
    → (answer : Result (Bor (List ℕ)) Fault) → Passes answer (list_at 93 item (n - 1) rest) → Passes answer (list_at 93 item n bs)
others_pass item n bs some x after found rest comma (Ok end) h = (x ∷ h.0, goes_on item n bs some x after found rest comma ∙ ap (made (λ xs. x ∷ xs)) h.1)
others_pass item n bs some x after found rest comma (Err (fault.Malformed why left)) h = goes_on item n bs some x after found rest comma ∙ ap (made (λ xs. x ∷ xs)) h
others_pass item n bs some x after found rest comma (Err fault.Memory) h = tt

-- a list that was found has a first thing
pub some_listed : {A : Type 0} (item : Parse A) (n : ℕ) (bs : List ℕ) (xs : List A) (rest : List ℕ) → list_at 93 item n bs ≡ Some (xs, rest) → (y : A) × ((ys : List A) × (xs ≡ y ∷ ys))
some_listed item zero bs xs rest h = let wrong = sym (no_turn item zero bs refl) ∙ h in absurd cc
some_listed item (suc n) bs xs rest h = let f = first_is item (suc n) bs (omega arith) xs rest h in (f.0, f.1.1.1)

-- ---- a loop over elements

twice : {A : Type 0} (vs : List A) (v : A) (o : Option (List A × List ℕ)) → made (λ xs. vs ++ xs) (made (λ xs. v ∷ xs) o) ≡ made (λ xs. (vs ++ v ∷ []) ++ xs) o
twice vs v None = refl
twice vs v (Some x) = ap (λ zs. Some (zs, x.1)) (sym (append_assoc vs (v ∷ []) x.0))

-- these were passed, and the elements from here on make the whole
module _ {A : Type 0} (item : Parse A) (n i : ℕ) (bs : List ℕ) (vs : List A) (total : Option (List A × List ℕ)) (so_far : total ≡ made (λ xs. vs ++ xs) (list_at 93 item (n - i) bs)) where
  pub turns_over : n ≤ i → total ≡ None
  turns_over le = so_far ∙ ap (made (λ xs. vs ++ xs)) (no_turn item (n - i) bs (omega arith))

  module _ (lt : i < n) where
    some : 0 < n - i
    some = omega arith

    pub turn_none : item (skip bs) ≡ None → total ≡ None
    turn_none h = so_far ∙ ap (made (λ xs. vs ++ xs)) (no_element item (n - i) bs some h)

    pub turn_fails : (e : Fault) → Fails e (item (skip bs)) → Fails e total
    turn_fails (fault.Malformed why left) h = turn_none h
    turn_fails fault.Memory h = tt

    module _ (v : A) (after : List ℕ) (found : item (skip bs) ≡ Some (v, after)) where
      pub turn_ends : (rest : List ℕ) → skip after ≡ 93 ∷ rest → total ≡ Some (vs ++ v ∷ [], rest)
      turn_ends rest h = so_far ∙ ap (made (λ xs. vs ++ xs)) (ends item (n - i) bs some v after found rest h)

      pub turn_goes_on : (rest : List ℕ) → skip after ≡ 44 ∷ rest → total ≡ made (λ xs. (vs ++ v ∷ []) ++ xs) (list_at 93 item (n - (i + 1)) rest)
      turn_goes_on rest h =
          let k : n - i - 1 ≡ n - (i + 1) = omega arith in
          so_far ∙ ap (made (λ xs. vs ++ xs)) (goes_on item (n - i) bs some v after found rest h)
          ∙ twice vs v (list_at 93 item (n - i - 1) rest)
          ∙ ap (λ m. made (λ xs. (vs ++ v ∷ []) ++ xs) (list_at 93 item m rest)) k

      pub turn_breaks : ((more : Parse (List A)) (x : A) → list_after 93 more x (skip after) ≡ None) → total ≡ None
      turn_breaks h = so_far ∙ ap (made (λ xs. vs ++ xs)) (breaks item (n - i) bs some v after found (h (list_at 93 item (n - i - 1)) v))

-- nothing was passed yet
pub made_nothing : {A : Type 0} (o : Option (List A × List ℕ)) → o ≡ made (λ xs. [] ++ xs) o
made_nothing None = refl
made_nothing (Some x) = refl
