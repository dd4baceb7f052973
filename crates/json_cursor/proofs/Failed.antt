-- What is copied where its last part is, and is none where a part is none.
use Rattle.std.proofs.Common.{◌≡◌, ℕ, List, ◌∷◌, ◌++◌, Result, Ok, Err, Bor}
use Rattle.std.specs.Prelude.{codes, MatchResult}
use Rattle.json_value.specs.Reading.{Parse, after_word, after_number, word_at, number_at, name_at, string_at, value_at}
use Rattle.json_reading.specs.declared.fault.Fault.{Fault}
use Rattle.json_reading.specs.Gives.{Fails}
use Rattle.json_reading.proofs.Opened.{at_n, at_t, at_f}
use Rattle.json_reading.proofs.Passed.{first_fails}
use Rattle.json_cursor.specs.Copying.{any, Copies, CopiesOr}

abbrev pub Answer : Type 0
Answer = Result (Bor (List ℕ)) Fault

-- the whole is copied where its last part is, and is none where that is none
pub copies_on : {A B : Type 0} (part : Parse A) (one : A → List ℕ) (whole : Parse B) (all : B → List ℕ) (inside bytes old mid new : List ℕ)
    → ((rest : Bor (List ℕ)) → Copies part one inside rest.now mid new → Copies whole all bytes rest.now old new) → ((e : Fault) → Fails e (part inside) → Fails e (whole bytes))
    → (answer : Answer) → CopiesOr part one inside mid new answer → CopiesOr whole all bytes old new answer
copies_on part one whole all inside bytes old mid new found none (Ok rest) c = found rest c
copies_on part one whole all inside bytes old mid new found none (Err e) c = none e c

-- a word that is copied, and then more, is the whole
pub word_on : {B : Type 0} (word : List ℕ) (whole : Parse B) (all : B → List ℕ) (bytes old new : List ℕ)
    → ((rest : Bor (List ℕ)) → bytes ≡ word ++ rest.now → new ≡ old ++ word → Copies whole all bytes rest.now old new) → ((e : Fault) → Fails e (after_word word bytes) → Fails e (whole bytes))
    → (answer : Answer) → MatchResult answer (λ rest. (bytes ≡ word ++ rest.now) × (new ≡ old ++ word)) (λ e. Fails e (after_word word bytes)) → CopiesOr whole all bytes old new answer
word_on word whole all bytes old new found none (Ok rest) c = found rest c.0 c.1
word_on word whole all bytes old new found none (Err e) c = none e c

module _ (d b : ℕ) (bytes inside : List ℕ) (first : bytes ≡ b ∷ inside) where
  pub null_fails : b ≡ 110 → (e : Fault) → Fails e (after_word (codes "null") bytes) → Fails e (value_at any d bytes)
  unfolding word_at after_word
  null_fails is e h = rw (at_n any d b bytes inside first is) (first_fails (after_word (codes "ull") inside) _ e (rw (first, is) at h))

  pub true_fails : b ≡ 116 → (e : Fault) → Fails e (after_word (codes "true") bytes) → Fails e (value_at any d bytes)
  unfolding word_at after_word
  true_fails is e h = rw (at_t any d b bytes inside first is) (first_fails (after_word (codes "rue") inside) _ e (rw (first, is) at h))

  pub false_fails : b ≡ 102 → (e : Fault) → Fails e (after_word (codes "false") bytes) → Fails e (value_at any d bytes)
  unfolding word_at after_word
  false_fails is e h = rw (at_f any d b bytes inside first is) (first_fails (after_word (codes "alse") inside) _ e (rw (first, is) at h))

-- a string after its quotation mark
pub inside_fails : (bytes inside : List ℕ) → bytes ≡ 34 ∷ inside → (e : Fault) → Fails e (string_at any inside) → Fails e (name_at any bytes)
unfolding name_at after_word
inside_fails bytes inside first e h = rw first h

pub quoted_fails : (d b : ℕ) (bytes inside : List ℕ) → bytes ≡ b ∷ inside → b ≡ 34 → ((e : Fault) → Fails e (string_at any inside) → Fails e (value_at any d bytes)) → (e : Fault) → Fails e (name_at any bytes) → Fails e (value_at any d bytes)
unfolding name_at after_word
quoted_fails d b bytes inside first is none e h = none e (rw (first, is) at h)

pub number_fails : (bytes : List ℕ) (e : Fault) → Fails e (after_number bytes) → Fails e (number_at bytes)
unfolding number_at
number_fails bytes e h = first_fails (after_number bytes) _ e h
