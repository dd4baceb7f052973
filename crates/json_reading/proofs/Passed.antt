-- What follows a thing is what follows the one that it is in, or ends.
use Rattle.std.proofs.Common.{◌≡◌, ℕ, ◌-◌, List, ◌∷◌, [], length, take, Option, Some, Result, Ok, Err, Bool, refl, Bor}
use Rattle.json_value.specs.declared.json.Json.{Json}
use Rattle.json_value.specs.Reading.{◌>>=◌, after_word, word_at, after_number, number_at, skip, name_at, string_at, Parse, member_at}
use Rattle.json_reading.specs.declared.fault.Fault.{Fault}
use Rattle.json_reading.specs.declared.fault.Fault.TheVariants as fault
use Rattle.json_reading.specs.Gives.{Fails, Gives}
use Rattle.json_reading.specs.Passes.{Passes}

abbrev pub Answer : Type 0
Answer = Result (Bor (List ℕ)) Fault

-- where the first part fails, the whole does
pub first_fails : {A B : Type 0} (first : Option A) (next : A → Option B) (e : Fault) → Fails e first → Fails e (first >>= next)
first_fails first next fault.Memory h = tt
first_fails first next (fault.Malformed why left) h = rw h refl

-- the whole ends where its last part does
pub passes_on : {A B : Type 0} (f : A → B) (part : Option (A × List ℕ)) (whole : Option (B × List ℕ)) → ((x : A) (after : List ℕ) → part ≡ Some (x, after) → whole ≡ Some (f x, after))
    → ((e : Fault) → Fails e part → Fails e whole) → (answer : Answer) → Passes answer part → Passes answer whole
passes_on f part whole found fails (Ok after) p = (f p.0, found p.0 after.now p.1)
passes_on f part whole found fails (Err e) p = fails e p

pub word_passed : (word : List ℕ) (v : Json) (bs : List ℕ) (answer : Answer) → Gives (λ x. x.now) answer (after_word word bs) → Passes answer (word_at word v bs)
unfolding word_at
word_passed word v bs (Ok after) h = (v, rw h refl)
word_passed word v bs (Err e) h = first_fails (after_word word bs) _ e h

pub number_passed : (bs : List ℕ) (answer : Answer) → Gives (λ x. x.now) answer (after_number bs) → Passes answer (number_at bs)
unfolding number_at
number_passed bs (Ok after) h = (take (length bs - length after.now) bs, rw h refl)
number_passed bs (Err e) h = first_fails (after_number bs) _ e h

-- a member without its colon
pub colon_fails : (fits : List ℕ → Bool) (value : Parse Json) (bs name after : List ℕ) → name_at fits bs ≡ Some (name, after) → (e : Fault) → Fails e (after_word (58 ∷ []) (skip after)) → Fails e (member_at fits value bs)
unfolding member_at
colon_fails fits value bs name after named e h = rw named (first_fails (after_word (58 ∷ []) (skip after)) _ e h)

-- what follows a name, after the quotation mark that opens it
pub name_passed : (fits : List ℕ → Bool) (bs rest : List ℕ) → after_word (34 ∷ []) bs ≡ Some rest → (answer : Answer) → Passes answer (string_at fits rest) → Passes answer (name_at fits bs)
unfolding name_at
name_passed fits bs rest quote answer h = rw quote h
