-- Objects by name, and where a name is repeated.
use Rattle.std.proofs.Common.{◌≡◌, ◌≢◌, ℕ, ◌+◌, Bool, true, false, List, [], ◌∷◌, ◌++◌, length, Option, None, Result, Ok, Err, if◌then◌else◌, refl, sym, ap, ◌∙◌, append-nil, arith}
use Rattle.json_value.specs.declared.json.Json.{Json}
use Rattle.json_value.specs.declared.json.Json.TheVariants as j
use Rattle.json_value.specs.Kinds.{object_of}
use Rattle.json_value.proofs.KindsOf.{object_of-object}
use Rattle.json_value.specs.Members.{Members}
use Rattle.json_value.proofs.Turns.{with_prefix}
use Rattle.geojson_types.specs.declared.counts.Counts.{Counts}
use Rattle.geometry.specs.Points.{Point}
use Rattle.topojson_types.specs.declared.object.TopoObject.{TopoObject}
use Rattle.topojson_types.specs.declared.transform.Transform.{Transform}
use Rattle.topojson_meaning.specs.declared.fault.TopoFault.{TopoFault}
use Rattle.topojson_meaning.specs.declared.fault.TopoFault.TheVariants.{Duplicate, WrongKind}
use Rattle.topojson_meaning.specs.Members.{members}
use Rattle.topojson_meaning.specs.Objects.{is_met, object, objects, objects_after}
use Rattle.topojson_meaning.specs.Reader.{Reader, ◌>>=◌, and_then, each, gather, give, or_fail, pure}
use Rattle.topojson_decoder.proofs.Repeating.{met_among, met_with, names_of}
use Rattle.topojson_decoder.specs.declared.keeping.Keeping.{Keeping}
use Rattle.topojson_decoder.specs.Kept.{held_objects, kept_objects, making}
use Rattle.topojson_decoder.specs.Names.{names_before_repeat}
use Rattle.topojson_decoder.proofs.KeptParts.{made_alike, made_fault}

-- objects by name
abbrev pub Named : Type 0
Named = List (List ℕ × TopoObject)

-- ---- what is read of one more

module _ {A B : Type 0} (read : A → Reader B) (m : A) where
  -- it goes after the others
  abbrev following : Result (List B × Counts) TopoFault → Result (List B × Counts) TopoFault
  following = and_then (λ os. λ d. and_then (λ o. give (os ++ o ∷ [])) (read m d))

  last_of_all : (x : B) (xs : List B) (r : Result (B × Counts) TopoFault) → and_then (λ ys. give (x ∷ ys)) (and_then (λ o. give (xs ++ o ∷ [])) r) ≡ and_then (λ o. give ((x ∷ xs) ++ o ∷ [])) r
  last_of_all x xs (Err e) = refl
  last_of_all x xs (Ok y) = refl

  after_more : (x : B) (r : Result (List B × Counts) TopoFault) → and_then (λ ys. give (x ∷ ys)) (following r) ≡ following (and_then (λ ys. give (x ∷ ys)) r)
  after_more x (Err e) = refl
  after_more x (Ok y) = last_of_all x y.0 (read m y.1)

  alone : (r : Result (B × Counts) TopoFault) → and_then (λ xs. λ d. and_then (λ ys. give (xs ++ ys)) (each read [] d)) (and_then (λ o. give (o ∷ [])) r) ≡ and_then (λ o. give (o ∷ [])) r
  unfolding gather
  alone (Err e) = refl
  alone (Ok x) = refl

  with_first : (ms : List A) (same : (d : Counts) → each read (ms ++ m ∷ []) d ≡ following (each read ms d)) (r : Result (B × Counts) TopoFault)
      → and_then (λ xs. λ d. and_then (λ ys. give (xs ++ ys)) (each read (ms ++ m ∷ []) d)) (and_then (λ o. give (o ∷ [])) r) ≡ following (and_then (λ xs. λ d. and_then (λ ys. give (xs ++ ys)) (each read ms d)) (and_then (λ o. give (o ∷ [])) r))
  with_first ms same (Err e) = refl
  with_first ms same (Ok x) = ap (and_then (λ ys. give (x.0 ∷ ys))) (same x.1) ∙ after_more x.0 (each read ms x.1)

  each_more : (ms : List A) (c : Counts) → each read (ms ++ m ∷ []) c ≡ following (each read ms c)
  unfolding gather
  each_more [] c = alone (read m c)
  each_more (k ∷ ms) c = with_first ms (each_more ms) (read k c)

  pub read_more : (ms : List A) (c d e : Counts) (os : List B) (o : B) → each read ms c ≡ Ok (os, d) → read m d ≡ Ok (o, e) → each read (ms ++ m ∷ []) c ≡ Ok (os ++ o ∷ [], e)
  read_more ms c d e os o h k = each_more ms c ∙ rw (h, k) refl

-- ---- what was read of the first

abbrev list_in : {B : Type 0} → List B → Result (List B × Counts) TopoFault → List B
list_in xs (Ok x) = x.0
list_in xs (Err e) = xs

abbrev counts_in : {B : Type 0} → Counts → Result (List B × Counts) TopoFault → Counts
counts_in c (Ok x) = x.1
counts_in c (Err e) = c

first_is_new : (again : Bool) (n l : ℕ) → (if again then 0 else n + 1) ≡ l + 1 → (again ≡ false) × (n ≡ l)
first_is_new true n l h = absurd (omega (arith, h))
first_is_new false n l h = (refl, omega (arith, h))

cons_prefix : {B : Type 0} (x : B) (xs : List B) (r : Result (List B × Counts) TopoFault) → and_then (λ ys. give (x ∷ ys)) (with_prefix xs r) ≡ with_prefix (x ∷ xs) r
cons_prefix x xs (Err e) = refl
cons_prefix x xs (Ok y) = refl

nothing_before : {B : Type 0} (r : Result (List B × Counts) TopoFault) → r ≡ with_prefix [] r
nothing_before (Err e) = refl
nothing_before (Ok y) = refl

module _ (t : Option Transform) (arcs : List (List Point)) where
  abbrev named : List ℕ × Json → Reader (List ℕ × TopoObject)
  named m = do
    o ← object t arcs m.1
    give (m.0, o)

  -- what was read of the first of some members, and of the others
  record FirstRead (m : List ℕ × Json) (ms : Members) (c : Counts) (os : Named) (d : Counts) : Type 0 where
    first : TopoObject
    mid : Counts
    others : Named
    reads : object t arcs m.1 c ≡ Ok (first, mid)
    more : each named ms mid ≡ Ok (others, d)
    are : os ≡ (m.0, first) ∷ others

  module _ (m : List ℕ × Json) (ms : Members) (c : Counts) (os : Named) (d : Counts) where
    with_others : (o : TopoObject) (mid : Counts) → object t arcs m.1 c ≡ Ok (o, mid) → (r : Result (Named × Counts) TopoFault) → each named ms mid ≡ r → and_then (λ ys. give ((m.0, o) ∷ ys)) r ≡ Ok (os, d) → FirstRead m ms c os d
    with_others o mid reads (Err e) more h = absurd cc
    with_others o mid reads (Ok y) more h =
        let counted : y.1 ≡ d = ap (counts_in d) h in
        record { first = o; mid = mid; others = y.0; reads = reads; more = more ∙ ap (λ z. Ok (y.0, z)) counted; are = sym (ap (list_in os) h) }

    by_first : (r : Result (TopoObject × Counts) TopoFault) → object t arcs m.1 c ≡ r → and_then (λ xs. λ e. and_then (λ ys. give (xs ++ ys)) (each named ms e)) (and_then (λ p. give (p ∷ [])) (and_then (λ o. give (m.0, o)) r)) ≡ Ok (os, d) → FirstRead m ms c os d
    by_first (Err e) reads h = absurd cc
    by_first (Ok x) reads h = with_others x.0 x.1 reads (each named ms x.1) refl h

    first_read : each named (m ∷ ms) c ≡ Ok (os, d) → FirstRead m ms c os d
    unfolding gather
    first_read h = by_first (object t arcs m.1 c) refl h

  -- ---- names that are not repeated

  nothing_read : (met : List (List ℕ)) (more : Members) (c d : Counts) (os : Named) → each named [] c ≡ Ok (os, d) → objects_after t arcs met more c ≡ with_prefix os (objects_after t arcs (met_with met (names_of os)) more d)
  unfolding gather
  nothing_read met more c d os h =
      let none : [] ≡ os = ap (list_in os) h in
      let counted : c ≡ d = ap (counts_in d) h in
      rw (sym none, sym counted) (nothing_before (objects_after t arcs met more c))

  rest_after_first : (m : List ℕ × Json) (ms : Members) (met : List (List ℕ)) (c mid : Counts) (o : TopoObject) → is_met m.0 met ≡ false → object t arcs m.1 c ≡ Ok (o, mid)
      → objects_after t arcs met (m ∷ ms) c ≡ and_then (λ os. give ((m.0, o) ∷ os)) (objects_after t arcs (m.0 ∷ met) ms mid)
  unfolding objects_after
  rest_after_first m ms met c mid o new reads = rw (new, reads) refl

  after_repeat : (m : List ℕ × Json) (ms : Members) (met : List (List ℕ)) (c : Counts) → is_met m.0 met ≡ true → objects_after t arcs met (m ∷ ms) c ≡ Err Duplicate
  unfolding objects_after
  after_repeat m ms met c again = rw again refl

  after_fault : (m : List ℕ × Json) (ms : Members) (met : List (List ℕ)) (c : Counts) (e : TopoFault) → is_met m.0 met ≡ false → object t arcs m.1 c ≡ Err e → objects_after t arcs met (m ∷ ms) c ≡ Err e
  unfolding objects_after
  after_fault m ms met c e new fails = rw (new, fails) refl

  after_nothing : (met : List (List ℕ)) (c : Counts) → objects_after t arcs met [] c ≡ Ok ([], c)
  unfolding objects_after
  after_nothing met c = refl

  differ : (ms more : Members) (met : List (List ℕ)) (c d : Counts) (os : Named) → each named ms c ≡ Ok (os, d) → names_before_repeat met (names_of os) ≡ length os
      → objects_after t arcs met (ms ++ more) c ≡ with_prefix os (objects_after t arcs (met_with met (names_of os)) more d)
  differ [] more met c d os h k = nothing_read met more c d os h
  differ (m ∷ ms) more met c d os h k =
      let f = first_read m ms c os d h in
      let here : (if is_met m.0 met then 0 else names_before_repeat (m.0 ∷ met) (names_of f.others) + 1) ≡ length f.others + 1 = (rw f.are at k) ∙ omega arith in
      let new = first_is_new (is_met m.0 met) (names_before_repeat (m.0 ∷ met) (names_of f.others)) (length f.others) here in
      rw f.are (rest_after_first m (ms ++ more) met c f.mid f.first new.0 f.reads ∙ ap (and_then (λ ys. give ((m.0, f.first) ∷ ys))) (differ ms more (m.0 ∷ met) f.mid d f.others f.more new.1)
      ∙ cons_prefix (m.0, f.first) f.others (objects_after t arcs (met_with (m.0 ∷ met) (names_of f.others)) more d))

  -- ---- names that are repeated

  either_name : (m : List ℕ × Json) (ms : Members) (met : List (List ℕ)) (c mid : Counts) (o : TopoObject) → object t arcs m.1 c ≡ Ok (o, mid) → (again : Bool) → is_met m.0 met ≡ again
      → (again ≡ false → objects_after t arcs (m.0 ∷ met) ms mid ≡ Err Duplicate) → objects_after t arcs met (m ∷ ms) c ≡ Err Duplicate
  either_name m ms met c mid o reads true is later = after_repeat m ms met c is
  either_name m ms met c mid o reads false is later = rest_after_first m ms met c mid o is reads ∙ ap (and_then (λ ys. give ((m.0, o) ∷ ys))) (later refl)

  repeat : (ms more : Members) (met : List (List ℕ)) (c d : Counts) (os : Named) → each named ms c ≡ Ok (os, d) → names_before_repeat met (names_of os) ≢ length os
      → objects_after t arcs met (ms ++ more) c ≡ Err Duplicate
  unfolding gather
  repeat [] more met c d os h k =
      let none : os ≡ [] = sym (ap (list_in os) h) in
      absurd (k (rw none refl))
  repeat (m ∷ ms) more met c d os h k =
      let f = first_read m ms c os d h in
      either_name m (ms ++ more) met c f.mid f.first f.reads (is_met m.0 met) refl (λ new.
      repeat ms more (m.0 ∷ met) f.mid d f.others f.more (λ same. k (rw f.are (rw new (rw same (omega arith))))))

  -- ---- all of them

  module _ (ms : Members) (c d : Counts) (os : Named) (h : each named ms c ≡ Ok (os, d)) where
    pub all_differ : names_before_repeat [] (names_of os) ≡ length os → objects_after t arcs [] ms c ≡ Ok (os, d)
    all_differ k =
        ap (λ z. objects_after t arcs [] z c) (sym (append-nil ms)) ∙ differ ms [] [] c d os h k ∙ ap (with_prefix os) (after_nothing (met_with [] (names_of os)) d) ∙ ap (λ z. Ok (z, d)) (append-nil os)

    pub one_repeats : names_before_repeat [] (names_of os) ≢ length os → objects_after t arcs [] ms c ≡ Err Duplicate
    one_repeats k = ap (λ z. objects_after t arcs [] z c) (sym (append-nil ms)) ∙ repeat ms [] [] c d os h k

  module _ (before : Members) (name : List ℕ) (v : Json) (after : Members) (c d : Counts) (os : Named) (h : each named before c ≡ Ok (os, d)) where
    pub repeats_before : names_before_repeat [] (names_of os) ≢ length os → objects_after t arcs [] (before ++ (name, v) ∷ after) c ≡ Err Duplicate
    repeats_before k = repeat before ((name, v) ∷ after) [] c d os h k

    module _ (k : names_before_repeat [] (names_of os) ≡ length os) where
      pub repeats_there : is_met name (names_of os) ≡ true → objects_after t arcs [] (before ++ (name, v) ∷ after) c ≡ Err Duplicate
      repeats_there again =
          differ before ((name, v) ∷ after) [] c d os h k ∙ ap (with_prefix os) (after_repeat (name, v) after (met_with [] (names_of os)) d (met_among name (names_of os) ∙ again))

      pub fails_there : (e : TopoFault) → object t arcs v d ≡ Err e → is_met name (names_of os) ≡ false → objects_after t arcs [] (before ++ (name, v) ∷ after) c ≡ Err e
      fails_there e fails new =
          differ before ((name, v) ∷ after) [] c d os h k ∙ ap (with_prefix os) (after_fault (name, v) after (met_with [] (names_of os)) d e (met_among name (names_of os) ∙ new) fails)

  -- ---- by their value

  whole : (ms : Members) (c : Counts) → objects t arcs (j.Object ms) c ≡ objects_after t arcs [] ms c
  unfolding objects members
  whole ms c = ap (λ o. (pure (or_fail WrongKind o) >>= objects_after t arcs []) c) (object_of-object ms)

  none : (v : Json) (c : Counts) → object_of v ≡ None → objects t arcs v c ≡ Err WrongKind
  unfolding objects members
  none v c h = ap (λ o. (pure (or_fail WrongKind o) >>= objects_after t arcs []) c) h

-- ---- what is kept of them, by their value

module _ (k : Keeping) (t : Option Transform) (arcs : List (List Point)) where
  pub objects_are : (ms : Members) (c : Counts) → kept_objects k t arcs (j.Object ms) c ≡ making (held_objects k) (objects_after t arcs [] ms) c
  objects_are ms c = made_alike (held_objects k) (objects t arcs (j.Object ms)) c (objects_after t arcs [] ms) (whole t arcs ms c)

  pub no_objects : (v : Json) (c : Counts) → object_of v ≡ None → kept_objects k t arcs v c ≡ Err WrongKind
  no_objects v c h = made_fault (held_objects k) (objects t arcs v) c WrongKind (none t arcs v c h)
