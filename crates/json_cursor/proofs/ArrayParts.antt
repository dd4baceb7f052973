-- Arrays by their elements.
use Rattle.std.proofs.Common.{◌≡◌, ℕ, List, [], ◌∷◌, ◌++◌, Option, Some, None, Result, Ok, Err, refl, sym, ap, ◌∙◌, append_assoc}
use Rattle.std.specs.Borrow.{Bor}
use Rattle.std.proofs.lemmas.List.{append-nil}
use Rattle.json_value.specs.declared.json.Json.{Json}
use Rattle.json_value.specs.declared.json.Json.TheVariants as j
use Rattle.json_value.proofs.KindsOf.{array_of-array}
use Rattle.json_value.specs.Kinds.{array_of}
use Rattle.json_value.specs.Reading.{Parse, list_at}
use Rattle.json_value.specs.Readers.{Counting, and_then, give, gather, if_some}
use Rattle.geojson_types.specs.declared.counts.Counts.{Counts}
use Rattle.geojson_types.specs.Counting.{count_empty}
use Rattle.json_cursor.specs.declared.stop.Stop.{Stop}
use Rattle.json_cursor.specs.declared.stop.Stop.TheVariants as stop
use Rattle.json_cursor.specs.Answers.{Answers, Reads, Stops}
use Rattle.json_cursor.specs.Arrays.{array_by, list_by, some_array_by, some_of, always}
use Rattle.json_cursor.specs.Folds.{fold, with_read}
use Rattle.json_cursor.proofs.Steps.{made, made_found, made_reads, made_stops, then_stops}
use Rattle.json_cursor.proofs.Lists.{some_listed}

-- ---- an array, of whose elements something is read

module _ {C E B : Type 0} (wrong : E) (read : List Json → Counting C E B) (c : C) (prefix : Option (Json × List ℕ)) where
  pub not_an_array : ((v : Json) (rest : List ℕ) → prefix ≡ Some (v, rest) → array_of v ≡ None) → Stops (array_by wrong read) prefix c (stop.Fault wrong)
  unfolding array_by
  not_an_array h v rest is = ap (λ o. list_by wrong read o c) (h v rest is)

  by_list : (vs : List Json) → array_by wrong read (j.Array vs) c ≡ read vs c
  unfolding array_by
  by_list vs = ap (λ o. list_by wrong read o c) (array_of-array vs)

  pub empty_array : (rest : List ℕ) (x : B) (new : C) → prefix ≡ Some (j.Array [], rest) → read [] c ≡ Ok (x, new) → Reads (array_by wrong read) prefix x rest c new
  empty_array rest x new is h = record { value = j.Array []; prefix_is = is; means = by_list [] ∙ h }

  module _ (elements : Option (List Json × List ℕ)) (filled : prefix ≡ made j.Array elements) where
    pub array_reads : (x : B) (rest : List ℕ) (new : C) → Reads read elements x rest c new → Reads (array_by wrong read) prefix x rest c new
    array_reads x rest new r = made_reads j.Array (array_by wrong read) read prefix elements filled c c (λ vs end k. by_list vs) x rest new r

    pub array_stops : (s : Stop E) → Stops read elements c s → Stops (array_by wrong read) prefix c s
    array_stops s h = made_stops j.Array (array_by wrong read) read prefix elements filled c c (λ vs end k. by_list vs) s h

    pub array_answers : {X : Type 0} (view : X → B) (new : C) (answer : Result (X × Bor (List ℕ)) (Stop E)) → Answers view read elements c new answer → Answers view (array_by wrong read) prefix c new answer
    array_answers view new (Ok x) h = array_reads (view x.0) x.1.now new h
    array_answers view new (Err s) h = array_stops s h

    -- the fault at which reading of the elements stopped is that of the array, once all of them were found
    pub array_fault : (vs : List Json) (rest : List ℕ) (e : E) → elements ≡ Some (vs, rest) → Stops read elements c (stop.Fault e) → (v : Json) × (prefix ≡ Some (v, rest)) × (array_by wrong read v c ≡ Err e)
    array_fault vs rest e found h = (j.Array vs, made_found j.Array prefix elements filled vs rest found, by_list vs ∙ h vs rest found)

-- ---- an array that is to have elements

module _ {E B : Type 0} (wrong : E) (read : List Json → Counting Counts E (Option B)) (c : Counts) (prefix : Option (Json × List ℕ)) where
  abbrev by_kind : Option (List Json) → Result (Option B × Counts) E
  by_kind o = and_then (if_some read) (list_by wrong some_of o c)

  pub no_array : ((v : Json) (rest : List ℕ) → prefix ≡ Some (v, rest) → array_of v ≡ None) → Stops (some_array_by wrong read) prefix c (stop.Fault wrong)
  unfolding array_by
  no_array h v rest is = ap by_kind (h v rest is)

  pub counted_array : (rest : List ℕ) → prefix ≡ Some (j.Array [], rest) → Reads (some_array_by wrong read) prefix None rest c (count_empty c)
  unfolding array_by
  counted_array rest is = record { value = j.Array []; prefix_is = is; means = ap by_kind (array_of-array []) }

  module _ (item : Parse Json) (n : ℕ) (inside : List ℕ) (filled : prefix ≡ made j.Array (list_at 93 item n inside)) where
    by_first : (vs : List Json) (w : Json) (ws : List Json) → vs ≡ w ∷ ws → some_array_by wrong read (j.Array vs) c ≡ read vs c
    unfolding array_by
    by_first vs w ws is = ap by_kind (array_of-array vs) ∙ rw is refl

    law : (vs : List Json) (rest : List ℕ) → list_at 93 item n inside ≡ Some (vs, rest) → some_array_by wrong read (j.Array vs) c ≡ read vs c
    law vs rest h = let f = some_listed item n inside vs rest h in by_first vs f.0 f.1.0 f.1.1

    pub filled_reads : (x : Option B) (rest : List ℕ) (new : Counts) → Reads read (list_at 93 item n inside) x rest c new → Reads (some_array_by wrong read) prefix x rest c new
    filled_reads x rest new r = made_reads j.Array (some_array_by wrong read) read prefix (list_at 93 item n inside) filled c c law x rest new r

    pub filled_stops : (s : Stop E) → Stops read (list_at 93 item n inside) c s → Stops (some_array_by wrong read) prefix c s
    filled_stops s h = made_stops j.Array (some_array_by wrong read) read prefix (list_at 93 item n inside) filled c c law s h

    pub filled_answers : {X : Type 0} (view : X → Option B) (new : Counts) (answer : Result (X × Bor (List ℕ)) (Stop E)) → Answers view read (list_at 93 item n inside) c new answer → Answers view (some_array_by wrong read) prefix c new answer
    filled_answers view new (Ok x) h = filled_reads (view x.0) x.1.now new h
    filled_answers view new (Err s) h = filled_stops s h

-- what is read is given, whatever it is
module _ {C E V B : Type 0} (read : V → Counting C E B) (prefix : Option (V × List ℕ)) (old : C) where
  pub always_reads : (x : B) (rest : List ℕ) (new : C) → Reads read prefix x rest old new → Reads (λ v c. and_then (λ y. give (Some y)) (read v c)) prefix (Some x) rest old new
  always_reads x rest new r = record { value = r.value; prefix_is = r.prefix_is; means = rw r.means refl }

  pub always_stops : (s : Stop E) → Stops read prefix old s → Stops (λ v c. and_then (λ y. give (Some y)) (read v c)) prefix old s
  always_stops s h = then_stops read (λ y. give (Some y)) (λ v c. and_then (λ y. give (Some y)) (read v c)) prefix old (λ v. refl) s h

-- ---- readers that read the same

module _ {C E V B : Type 0} (read other : V → Counting C E B) (prefix : Option (V × List ℕ)) (old : C) (same : (v : V) → read v old ≡ other v old) where
  pub same_reads : (x : B) (rest : List ℕ) (new : C) → Reads read prefix x rest old new → Reads other prefix x rest old new
  same_reads x rest new r = record { value = r.value; prefix_is = r.prefix_is; means = sym (same r.value) ∙ r.means }

  pub same_stops : (s : Stop E) → Stops read prefix old s → Stops other prefix old s
  same_stops (stop.Fault e) h = λ v rest found. sym (same v) ∙ h v rest found
  same_stops stop.NoValue h = h
  same_stops stop.Memory h = tt

  pub same_answers : {X : Type 0} (view : X → B) (new : C) (answer : Result (X × Bor (List ℕ)) (Stop E)) → Answers view read prefix old new answer → Answers view other prefix old new answer
  same_answers view new (Ok x) h = same_reads (view x.0) x.1.now new h
  same_answers view new (Err s) h = same_stops s h

module _ {C E B : Type 0} (wrong : E) (read other : List Json → Counting C E B) (same : (vs : List Json) (c : C) → read vs c ≡ other vs c) where
  same_of : (o : Option (List Json)) (c : C) → list_by wrong read o c ≡ list_by wrong other o c
  same_of None c = refl
  same_of (Some vs) c = same vs c

  pub same_array : (v : Json) (c : C) → array_by wrong read v c ≡ array_by wrong other v c
  unfolding array_by
  same_array v c = same_of (array_of v) c

module _ {E B : Type 0} (wrong : E) (read other : List Json → Counting Counts E (Option B)) (same : (vs : List Json) (c : Counts) → read vs c ≡ other vs c) where
  same_if : (o : Option (List Json)) (c : Counts) → if_some read o c ≡ if_some other o c
  same_if None c = refl
  same_if (Some vs) c = same vs c

  same_then : (r : Result (Option (List Json) × Counts) E) → and_then (if_some read) r ≡ and_then (if_some other) r
  same_then (Ok x) = same_if x.0 x.1
  same_then (Err e) = refl

  pub same_some_array : (v : Json) (c : Counts) → some_array_by wrong read v c ≡ some_array_by wrong other v c
  same_some_array v c = same_then (array_by wrong some_of v c)

-- ---- what is read of a list, and what is made of that where the list ends

module _ {E B D : Type 0} (wrong : E) (read : List Json → Counting Counts E B) (end : B → Counting Counts E (Option D)) where
  at_end : (r : Result (B × Counts) E) → and_then end r ≡ and_then (if_some end) (and_then (λ x. give (Some x)) r)
  at_end (Ok x) = refl
  at_end (Err e) = refl

  if_ends : (o : Option (List Json)) (c : Counts) → if_some (λ vs d. and_then end (read vs d)) o c ≡ and_then (if_some end) (if_some (always read) o c)
  if_ends None c = refl
  if_ends (Some vs) c = at_end (read vs c)

  then_ends : (r : Result (Option (List Json) × Counts) E) → and_then (if_some (λ vs d. and_then end (read vs d))) r ≡ and_then (if_some end) (and_then (if_some (always read)) r)
  then_ends (Ok x) = if_ends x.0 x.1
  then_ends (Err e) = refl

  pub made_at_end : (v : Json) (c : Counts) → some_array_by wrong (λ vs d. and_then end (read vs d)) v c ≡ and_then (if_some end) (some_array_by wrong (always read) v c)
  made_at_end v c = then_ends (array_by wrong some_of v c)

-- ---- lists are what is made of their elements one after another

-- what is read, after these
abbrev pub following : {C E B : Type 0} → List B → Result (List B × C) E → Result (List B × C) E
following xs r = and_then (λ ys. give (xs ++ ys)) r

after_none : {C E B : Type 0} (r : Result (List B × C) E) → following [] r ≡ r
after_none (Ok r) = refl
after_none (Err e) = refl

after_twice : {C E B : Type 0} (xs ys : List B) (r : Result (List B × C) E) → following (xs ++ ys) r ≡ following xs (following ys r)
after_twice xs ys (Ok r) = ap (λ z. Ok (z, r.1)) (append_assoc xs ys r.0)
after_twice xs ys (Err e) = refl

module _ {C E V B : Type 0} (read : V → Counting C E (List B)) where
  one_more : (vs : List V) → ((ys : List B) (d : C) → fold (with_read read) ys vs d ≡ following ys (gather read vs d))
      → (xs : List B) (r : Result (List B × C) E) → and_then (λ t. fold (with_read read) t vs) (and_then (λ x. give (xs ++ x)) r) ≡ following xs (and_then (λ x c. and_then (λ ys. give (x ++ ys)) (gather read vs c)) r)
  one_more vs others xs (Ok x) = others (xs ++ x.0) x.1 ∙ after_twice xs x.0 (gather read vs x.1)
  one_more vs others xs (Err e) = refl

  pub folded : (vs : List V) (xs : List B) (c : C) → fold (with_read read) xs vs c ≡ following xs (gather read vs c)
  unfolding fold gather
  folded [] xs c = ap (λ z. Ok (z, c)) (sym (append-nil xs))
  folded (v ∷ vs) xs c = one_more vs (folded vs) xs (read v c)

  pub as_list : (vs : List V) (c : C) → fold (with_read read) [] vs c ≡ gather read vs c
  as_list vs c = folded vs [] c ∙ after_none (gather read vs c)

  always_list : (r s : Result (List B × C) E) → r ≡ s → and_then (λ x. give (Some x)) r ≡ and_then (λ x. give (Some x)) s
  always_list r s h = ap (and_then (λ x. give (Some x))) h

  pub always_as_list : (vs : List V) (c : C) → and_then (λ x. give (Some x)) (fold (with_read read) [] vs c) ≡ and_then (λ x. give (Some x)) (gather read vs c)
  always_as_list vs c = always_list (fold (with_read read) [] vs c) (gather read vs c) (as_list vs c)
