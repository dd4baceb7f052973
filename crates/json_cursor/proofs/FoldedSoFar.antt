-- The elements of an array that went in so far, and how reading ends.
use Rattle.std.proofs.Common.{◌≡◌, ℕ, ◌+◌, ◌-◌, ◌<◌, ◌≤◌, List, [], ◌∷◌, ◌++◌, Option, None, Ok, Err, refl, ap, ◌∙◌, append_assoc, arith}
use Rattle.json_value.specs.declared.json.Json.{Json}
use Rattle.json_value.specs.Reading.{Parse, skip, list_after, list_at}
use Rattle.json_value.specs.Readers.{Counting}
use Rattle.json_cursor.specs.declared.stop.Stop.{Stop}
use Rattle.json_cursor.specs.Answers.{Reads, Stops}
use Rattle.json_cursor.specs.Folds.{fold}
use Rattle.json_cursor.proofs.Steps.{made, made_stops}
use Rattle.json_cursor.proofs.Lists as list

-- nothing went in
pub nothing_in : {C E V S : Type 0} (take : S → V → Counting C E S) (start : S) (c : C) → fold take start [] c ≡ Ok (start, c)
unfolding fold
nothing_in take start c = refl

module _ {C E S : Type 0} (take : S → Json → Counting C E S) (item : Parse Json) (n : ℕ) (total : Option (List Json × List ℕ)) (start : S) (old : C) where
  -- some values went in, and the elements from here on make the whole
  pub record FoldedSoFar (i : ℕ) (rest : List ℕ) (now : S) (mid : C) : Type 0 where
    pub values : List Json
    pub so_far : total ≡ made (λ xs. values ++ xs) (list_at 93 item (n - i) rest)
    pub means : (vs : List Json) → fold take start (values ++ vs) old ≡ fold take now vs mid

  pub starts : (bs : List ℕ) → total ≡ list_at 93 item n bs → FoldedSoFar 0 bs start old
  starts bs is =
      let k : n ≡ n - 0 = omega arith in
      record { values = []; so_far = is ∙ list.made_nothing (list_at 93 item n bs) ∙ ap (λ m. made (λ xs. [] ++ xs) (list_at 93 item m bs)) k; means = λ vs. refl }

  module _ (i : ℕ) (rest : List ℕ) (now : S) (mid : C) (s : FoldedSoFar i rest now mid) where
    pub turns_over : n ≤ i → total ≡ None
    turns_over le = list.turns_over item n i rest s.values total s.so_far le

    module _ (lt : i < n) where
      fault_law : (v : Json) (vs : List Json) (e : E) → take now v mid ≡ Err e → fold take now (v ∷ vs) mid ≡ Err e
      unfolding fold
      fault_law v vs e h = rw h refl

      pub stops : (why : Stop E) → Stops (take now) (item (skip rest)) mid why → Stops (fold take start) total old why
      stops why h =
          let some : 0 < n - i = omega arith in
          made_stops (λ vs. s.values ++ vs) (fold take start) (fold take now) total (list_at 93 item (n - i) rest) s.so_far old mid (λ vs end k. s.means vs) why
          (list.first_stops item (n - i) rest some (fold take now) (take now) mid fault_law why h)

      module _ (next : S) (after : List ℕ) (new : C) (r : Reads (take now) (item (skip rest)) next after mid new) where
        more : (vs : List Json) → fold take now (r.value ∷ vs) mid ≡ fold take next vs new
        unfolding fold
        more vs = rw r.means refl

        none : fold take next [] new ≡ Ok (next, new)
        unfolding fold
        none = refl

        pub ends : (end : List ℕ) → skip after ≡ 93 ∷ end → Reads (fold take start) total next end old new
        ends end h = record {
          value = s.values ++ r.value ∷ [];
          prefix_is = list.turn_ends item n i rest s.values total s.so_far lt r.value after r.prefix_is end h;
          means = s.means (r.value ∷ []) ∙ more [] ∙ none;
        }

        pub goes_on : (following : List ℕ) → skip after ≡ 44 ∷ following → FoldedSoFar (i + 1) following next new
        goes_on following h = record {
          values = s.values ++ r.value ∷ [];
          so_far = list.turn_goes_on item n i rest s.values total s.so_far lt r.value after r.prefix_is following h;
          means = λ vs. ap (λ zs. fold take start zs old) (append_assoc s.values (r.value ∷ []) vs) ∙ s.means (r.value ∷ vs) ∙ more vs;
        }

        pub breaks : ((others : Parse (List Json)) (v : Json) → list_after 93 others v (skip after) ≡ None) → total ≡ None
        breaks h = list.turn_breaks item n i rest s.values total s.so_far lt r.value after r.prefix_is h
