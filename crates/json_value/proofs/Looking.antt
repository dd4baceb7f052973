-- The turns of the loop that looks a member up.
use Rattle.std.proofs.Common.{◌≡◌, ℕ, ◌+◌, ◌<◌, ◌≤◌, Bool, true, false, not, List, ◌∷◌, length, get_or, drop, Option, Some, None, Ok, Err, refl, sym, ap, ◌∙◌, subst}
use Rattle.std.proofs.lemmas.Bool.{not-false, not-true}
use Rattle.std.specs.Prelude.{bytes_eq, is_some}
use Rattle.json_value.specs.declared.fault.LookupFault.TheVariants.{Duplicate}
use Rattle.json_value.specs.Members.{named, only, find}
use Rattle.json_value.specs.Places.{StandsAt, IsPlace}
use Rattle.json_value.proofs.Turns.{drop_end}
use Rattle.owned_values.proofs.Lists.{drop_here}

-- how the test of the code finds the name
pub not_named : (r : Bool) (a m name : List ℕ) → r ≡ true → r ≡ not (bytes_eq a name) → a ≡ m → bytes_eq m name ≡ false
not_named r a m name t e is = subst (λ z. bytes_eq z name ≡ false) is (not-true (bytes_eq a name) (sym e ∙ t))

pub is_named : (r : Bool) (a m name : List ℕ) → r ≡ false → r ≡ not (bytes_eq a name) → a ≡ m → bytes_eq m name ≡ true
is_named r a m name t e is = subst (λ z. bytes_eq z name ≡ true) is (not-false (bytes_eq a name) (sym e ∙ t))

-- what was found in front of a place, and what of this name is after it
abbrev pub Met : {V : Type 0} → List ℕ → List (List ℕ × V) → ℕ → Option ℕ → Type 0
Met name ms k None = named name ms ≡ named name (drop k ms)
Met {V} name ms k (Some i) = (m : List ℕ × V) × (StandsAt name ms i m × (named name ms ≡ m.1 ∷ named name (drop k ms)))

module _ {V : Type 0} (name : List ℕ) (ms : List (List ℕ × V)) (k : ℕ) (m : List ℕ × V) (lt : k < length ms) (is : m ≡ get_or ms k m) where
  another_name : bytes_eq m.0 name ≡ false → named name (drop k ms) ≡ named name (drop (k + 1) ms)
  another_name e = unfold named in rw (drop_here ms k m lt is, e) refl

  this_name : bytes_eq m.0 name ≡ true → named name (drop k ms) ≡ m.1 ∷ named name (drop (k + 1) ms)
  this_name e = unfold named in rw (drop_here ms k m lt is, e) refl

  pub goes_on : (found : Option ℕ) → bytes_eq m.0 name ≡ false → Met name ms k found → Met name ms (k + 1) found
  goes_on None e now = now ∙ another_name e
  goes_on (Some i) e now = (now.0, (now.1.0, now.1.1 ∙ ap (λ z. now.0.1 ∷ z) (another_name e)))

  pub first : (found : Option ℕ) → is_some found ≡ false → bytes_eq m.0 name ≡ true → Met name ms k found → Met name ms (k + 1) (Some k)
  first None n e now = (m, ((lt, (is, e)), now ∙ this_name e))
  first (Some i) n e now = absurd cc

  pub second : (found : Option ℕ) → is_some found ≡ true → bytes_eq m.0 name ≡ true → Met name ms k found → find name ms ≡ Err Duplicate
  second None n e now = absurd cc
  second (Some i) n e now = ap only (now.1.1 ∙ ap (λ z. now.0.1 ∷ z) (this_name e))

pub ends : {V : Type 0} (name : List ℕ) (ms : List (List ℕ × V)) (k : ℕ) (found : Option ℕ) → length ms ≤ k → Met name ms k found → IsPlace name ms (Ok found)
unfolding named
ends name ms k None le now = ap only (now ∙ ap (named name) (drop_end k ms le))
ends name ms k (Some i) le now = (now.0, (now.1.0, ap only (now.1.1 ∙ ap (λ z. now.0.1 ∷ named name z) (drop_end k ms le))))
