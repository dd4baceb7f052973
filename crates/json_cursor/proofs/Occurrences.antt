-- Members that are looked up, seen one after another.
use Rattle.std.proofs.Common.{◌≡◌, ℕ, Bool, true, false, cond, List, [], ◌∷◌, ◌++◌, Option, Some, Ok, Err, refl, sym, subst, ap, ◌∙◌}
use Rattle.std.specs.Prelude.{bytes_eq}
use Rattle.std.proofs.lemmas.List.{append-nil}
use Rattle.std.proofs.lemmas.Slice.Eq.{bytes_eq-Decides}
use Rattle.json_value.specs.declared.json.Json.{Json}
use Rattle.json_value.specs.Members.{Members, named}
use Rattle.json_value.specs.Readers.{Counting}
use Rattle.json_value.specs.Reading.{◌>>=◌}
use Rattle.json_reading.proofs.Steps.{pair_is}
use Rattle.json_cursor.specs.Answers.{Judges, Reads, Stops}
use Rattle.json_cursor.specs.Arrays.{prefix_value}
use Rattle.json_cursor.specs.Members.{prefix_member}
use Rattle.json_cursor.specs.Occurrences.{IsOccurrence, see}
use Rattle.json_cursor.specs.declared.occurrence.Occurrence.{Occurrence}
use Rattle.json_cursor.specs.declared.occurrence.Occurrence.TheVariants.{Never, Once, Again}
use Rattle.json_cursor.specs.declared.stop.Stop.{Stop}
use Rattle.json_cursor.specs.declared.stop.Stop.TheVariants as stop

by_test : {V : Type 0} (t : Bool) (v : V) (xs ys : List V) → cond t (v ∷ (xs ++ ys)) (xs ++ ys) ≡ cond t (v ∷ xs) xs ++ ys
by_test true v xs ys = refl
by_test false v xs ys = refl

named_append : (name : List ℕ) (ms ns : Members) → named name (ms ++ ns) ≡ named name ms ++ named name ns
unfolding named
named_append name [] ns = refl
named_append name (m ∷ ms) ns = ap (λ z. cond (bytes_eq m.0 name) (m.1 ∷ z) z) (named_append name ms ns) ∙ by_test (bytes_eq m.0 name) m.1 (named name ms) (named name ns)

module _ (name : List ℕ) (ms : Members) (v : Json) where
  this_named : (n : List ℕ) → bytes_eq n name ≡ true → named name ((n, v) ∷ []) ≡ v ∷ []
  unfolding named
  this_named n h = rw h refl

  other_named : (n : List ℕ) → bytes_eq n name ≡ false → named name ((n, v) ∷ []) ≡ []
  unfolding named
  other_named n h = rw h refl

  pub one_more : (n : List ℕ) → bytes_eq n name ≡ true → named name (ms ++ (n, v) ∷ []) ≡ named name ms ++ v ∷ []
  one_more n h = named_append name ms ((n, v) ∷ []) ∙ ap (λ z. named name ms ++ z) (this_named n h)

  pub no_more : (n : List ℕ) → bytes_eq n name ≡ false → named name (ms ++ (n, v) ∷ []) ≡ named name ms
  no_more n h = named_append name ms ((n, v) ∷ []) ∙ ap (λ z. named name ms ++ z) (other_named n h) ∙ append-nil (named name ms)

one_seen : {A : Type 0} (Is : Json → A → Type 0) (vs : List Json) (s : Occurrence A) (v : Json) (x : A) → IsOccurrence Is vs s → Is v x → IsOccurrence Is (vs ++ v ∷ []) (see s x)
one_seen Is vs Never v x h is = (v, ap (λ us. us ++ v ∷ []) h, is)
one_seen Is vs (Once y) v x (w, same, k) is = (w, v, [], ap (λ us. us ++ v ∷ []) same)
one_seen Is vs Again v x (w, u, us, same) is = (w, u, us ++ v ∷ [], ap (λ ws. ws ++ v ∷ []) same)

module _ {A : Type 0} (Is : Json → A → Type 0) (word : List ℕ) (ms : Members) (name : List ℕ) (v : Json) (s : Occurrence A) (h : IsOccurrence Is (named word ms) s) where
  -- a member of this name
  pub sees : (x : A) → bytes_eq name word ≡ true → Is v x → IsOccurrence Is (named word (ms ++ (name, v) ∷ [])) (see s x)
  sees x same is = subst (λ us. IsOccurrence Is us (see s x)) (sym (one_more word ms v name same)) (one_seen Is (named word ms) s v x h is)

  -- a member of another name
  pub passes : bytes_eq name word ≡ false → IsOccurrence Is (named word (ms ++ (name, v) ∷ [])) s
  passes other = subst (λ us. IsOccurrence Is us s) (sym (no_more word ms v name other)) h

-- a name that is one word is no other
pub not_other : (name word other : List ℕ) → bytes_eq name word ≡ true → bytes_eq word other ≡ false → bytes_eq name other ≡ false
not_other name word other same apart = ap (λ n. bytes_eq n other) ((bytes_eq-Decides name word).0 same) ∙ apart

-- a member, as soon as its value was found
pub member_found : (d : ℕ) (bytes name value rest : List ℕ) (v : Json) → prefix_member d bytes ≡ (prefix_value d value >>= λ x. Some ((name, x.0), x.1)) → prefix_value d value ≡ Some (v, rest)
    → prefix_member d bytes ≡ Some ((name, v), rest)
member_found d bytes name value rest v named found = named ∙ rw found refl

-- what is answered of the value that is known to stand at a front
pub judged : {C E B : Type 0} (read : Json → Counting C E B) (prefix : Option (Json × List ℕ)) (v : Json) (rest : List ℕ) (old new : C) → prefix ≡ Some (v, rest)
    → (why : Stop E) → Stops read prefix old why → Judges (read v) old new (Err why)
judged read prefix v rest old new is (stop.Fault e) h = h v rest is
judged read prefix v rest old new is stop.NoValue h = let wrong = sym h ∙ is in cc
judged read prefix v rest old new is stop.Memory h = tt

pub judged_read : {C E B : Type 0} (read : Json → Counting C E B) (prefix : Option (Json × List ℕ)) (v : Json) (rest : List ℕ) (old new : C) → prefix ≡ Some (v, rest)
    → (x : B) (end : List ℕ) → Reads read prefix x end old new → read v old ≡ Ok (x, new)
judged_read read prefix v rest old new is x end r = ap (λ w. read w old) (pair_is v rest (r.value, end) (sym is ∙ r.prefix_is)).0 ∙ r.means
