-- What is read in two steps.
use Rattle.std.proofs.Common.{◌≡◌, ℕ, List, [], ◌∷◌, Option, Result, Ok, Err, refl, ◌∙◌}
use Rattle.std.specs.Borrow.{Bor}
use Rattle.json_value.specs.Readers.{Counting, and_then, give}
use Rattle.json_cursor.specs.declared.stop.Stop.{Stop}
use Rattle.json_cursor.specs.declared.stop.Stop.TheVariants as stop
use Rattle.json_cursor.specs.Answers.{Answers, Reads, Stops}
use Rattle.json_cursor.specs.Folds.{one}
use Rattle.json_cursor.proofs.Steps.{found_stops, then_stops}

module _ {C E V A B : Type 0} (first : V → Counting C E A) (then : A → Counting C E B) (read : V → Counting C E B) (prefix : Option (V × List ℕ)) (old : C) (law : (v : V) → read v old ≡ and_then then (first v old))
    (x : A) (rest : List ℕ) (mid : C) (r : Reads first prefix x rest old mid) where
  pub then_reads : (y : B) (new : C) → then x mid ≡ Ok (y, new) → Reads read prefix y rest old new
  then_reads y new h = record { value = r.value; prefix_is = r.prefix_is; means = law r.value ∙ rw r.means h }

  pub then_faults : (e : E) → then x mid ≡ Err e → Stops read prefix old (stop.Fault e)
  then_faults e h = found_stops read prefix old r.value rest e r.prefix_is (law r.value ∙ rw r.means h)

module _ {C E V B X : Type 0} (read other : V → Counting C E B) (prefix : Option (V × List ℕ)) (old : C) (law : (v : V) → other v old ≡ read v old) where
  -- readers that read the same answer the same
  pub same_answers : (view : X → B) (new : C) (answer : Result (X × Bor (List ℕ)) (Stop E)) → Answers view read prefix old new answer → Answers view other prefix old new answer
  same_answers view new (Ok x) r = record { value = r.value; prefix_is = r.prefix_is; means = law r.value ∙ r.means }
  same_answers view new (Err (stop.Fault e)) h = λ v rest found. law v ∙ h v rest found
  same_answers view new (Err stop.NoValue) h = h
  same_answers view new (Err stop.Memory) h = tt

-- ---- elements of lists

module _ {C E V B : Type 0} where
  pub one_stops : (read : V → Counting C E B) (prefix : Option (V × List ℕ)) (old : C) (why : Stop E) → Stops read prefix old why → Stops (one read) prefix old why
  one_stops read prefix old why h = then_stops read (λ x. give (x ∷ [])) (one read) prefix old (λ v. refl) why h
