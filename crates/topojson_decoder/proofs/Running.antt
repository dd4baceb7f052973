-- What is read of values one after another, by what is made of them one after another.
use Rattle.std.proofs.Common.{◌≡◌, ℕ, List, [], ◌∷◌, ◌++◌, Option, Result, Ok, Err, refl, sym, ap, ◌∙◌, append_assoc}
use Rattle.std.proofs.lemmas.List.{append-nil}
use Rattle.json_value.specs.declared.json.Json.{Json}
use Rattle.geojson_types.specs.declared.counts.Counts.{Counts}
use Rattle.topojson_meaning.specs.declared.fault.TopoFault.{TopoFault}
use Rattle.topojson_meaning.specs.Reader.{Reader, ◌>>=◌, and_then, give}
use Rattle.json_cursor.specs.declared.stop.Stop.{Stop}
use Rattle.json_cursor.specs.Answers.{Stops}
use Rattle.json_cursor.specs.Folds.{fold}
use Rattle.json_cursor.proofs.Steps.{then_stops}
use Rattle.topojson_decoder.specs.Running.{running}

-- what is read, after these
abbrev following : {B : Type 0} → List B → Result (List B × Counts) TopoFault → Result (List B × Counts) TopoFault
following xs r = and_then (λ ys. give (xs ++ ys)) r

after_one : {B : Type 0} (xs : List B) (x : B) (r : Result (List B × Counts) TopoFault) → following (xs ++ x ∷ []) r ≡ following xs (and_then (λ ys. give (x ∷ ys)) r)
after_one xs x (Ok r) = ap (λ z. Ok (z, r.1)) (append_assoc xs (x ∷ []) r.0)
after_one xs x (Err e) = refl

after_none : {B : Type 0} (r : Result (List B × Counts) TopoFault) → following [] r ≡ r
after_none (Ok r) = refl
after_none (Err e) = refl

module _ {S B : Type 0} (read : S → Json → Reader B) (next : S → B → S) where
  pub one_stops : (prefix : Option (Json × List ℕ)) (old : Counts) (why : Stop TopoFault) (s : S × List B) → Stops (read s.0) prefix old why → Stops (running read next s) prefix old why
  one_stops prefix old why s h = then_stops (read s.0) (λ x. give (next s.0 x, s.1 ++ x ∷ [])) (running read next s) prefix old (λ v. refl) why h

  -- what was read of all
  abbrev all_of : Result ((S × List B) × Counts) TopoFault → Result (List B × Counts) TopoFault
  all_of r = and_then (λ s. give s.1) r

  module _ (many : S → List Json → Reader (List B)) (none : (s : S) (c : Counts) → many s [] c ≡ Ok ([], c))
      (more : (s : S) (v : Json) (vs : List Json) (c : Counts) → many s (v ∷ vs) c ≡ (read s v >>= λ x. many (next s x) vs >>= λ xs. give (x ∷ xs)) c) where
    one_more : (vs : List Json) → ((s : S) (xs : List B) (d : Counts) → all_of (fold (running read next) (s, xs) vs d) ≡ following xs (many s vs d))
        → (s : S) (xs : List B) (r : Result (B × Counts) TopoFault)
        → all_of (and_then (λ t. fold (running read next) t vs) (and_then (λ x. give (next s x, xs ++ x ∷ [])) r)) ≡ following xs (and_then (λ x. many (next s x) vs >>= λ ys. give (x ∷ ys)) r)
    one_more vs others s xs (Ok x) = others (next s x.0) (xs ++ x.0 ∷ []) x.1 ∙ after_one xs x.0 (many (next s x.0) vs x.1)
    one_more vs others s xs (Err e) = refl

    run : (vs : List Json) (s : S) (xs : List B) (c : Counts) → all_of (fold (running read next) (s, xs) vs c) ≡ following xs (many s vs c)
    unfolding fold
    run [] s xs c = ap (λ z. Ok (z, c)) (sym (append-nil xs)) ∙ ap (following xs) (sym (none s c))
    run (v ∷ vs) s xs c = one_more vs (run vs) s xs (read s v c) ∙ ap (following xs) (sym (more s v vs c))

    -- from nothing on
    pub run_through : (s : S) (vs : List Json) (c : Counts) → all_of (fold (running read next) (s, []) vs c) ≡ many s vs c
    run_through s vs c = run vs s [] c ∙ after_none (many s vs c)

    -- what is read of all elements in two steps, and then what is made of them
    module _ {D : Type 0} (end : List B → Reader D) where
      in_two : (r : Result ((S × List B) × Counts) TopoFault) → and_then end (all_of r) ≡ and_then (λ t. end t.1) r
      in_two (Ok x) = refl
      in_two (Err e) = refl

      pub run_to_end : (s : S) (vs : List Json) (c : Counts) → and_then end (many s vs c) ≡ and_then (λ t. end t.1) (fold (running read next) (s, []) vs c)
      run_to_end s vs c = ap (and_then end) (sym (run_through s vs c)) ∙ in_two (fold (running read next) (s, []) vs c)

-- ---- what is made of what is read, one after another

module _ {S B K : Type 0} (read : S → Json → Reader B) (next : S → B → S) (step : K → B → K) where
  -- one more value: what it is read as goes into what was made, and what the next one is read by comes of it
  abbrev pub stepping : S × K → Json → Reader (S × K)
  stepping s v = do
    x ← read s.0 v
    give (next s.0 x, step s.1 x)

  pub step_stops : (prefix : Option (Json × List ℕ)) (old : Counts) (why : Stop TopoFault) (s : S × K) → Stops (read s.0) prefix old why → Stops (stepping s) prefix old why
  step_stops prefix old why s h = then_stops (read s.0) (λ x. give (next s.0 x, step s.1 x)) (stepping s) prefix old (λ v. refl) why h

  module _ (of : List B → K) (law : (xs : List B) (x : B) → step (of xs) x ≡ of (xs ++ x ∷ [])) where
    abbrev pub made_so : S × List B → Reader (S × K)
    made_so s = give (s.0, of s.1)

    stepped : (vs : List Json) → ((s : S) (xs : List B) (d : Counts) → fold stepping (s, of xs) vs d ≡ and_then made_so (fold (running read next) (s, xs) vs d))
        → (s : S) (xs : List B) (r : Result (B × Counts) TopoFault)
        → and_then (λ t. fold stepping t vs) (and_then (λ x. give (next s x, step (of xs) x)) r) ≡ and_then made_so (and_then (λ t. fold (running read next) t vs) (and_then (λ x. give (next s x, xs ++ x ∷ [])) r))
    stepped vs others s xs (Ok x) = ap (λ k. fold stepping (next s x.0, k) vs x.1) (law xs x.0) ∙ others (next s x.0) (xs ++ x.0 ∷ []) x.1
    stepped vs others s xs (Err e) = refl

    pub step_through : (vs : List Json) (s : S) (xs : List B) (c : Counts) → fold stepping (s, of xs) vs c ≡ and_then made_so (fold (running read next) (s, xs) vs c)
    unfolding fold
    step_through [] s xs c = refl
    step_through (v ∷ vs) s xs c = stepped vs (step_through vs) s xs (read s v c)
