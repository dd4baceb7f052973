-- What is kept of what is read.
use Rattle.std.proofs.Common.{◌≡◌, ◌⊎◌, inl, inr, ℕ, List, [], ◌∷◌, ◌++◌, Option, Some, None, Result, Ok, Err, refl, ap, sym, ◌∙◌}
use Rattle.std.specs.Prelude.{map}
use Rattle.std.specs.Borrow.{Bor}
use Rattle.std.proofs.lemmas.List.{map-append}
use Rattle.json_value.specs.declared.json.Json.{Json}
use Rattle.geojson_types.specs.declared.counts.Counts.{Counts}
use Rattle.geometry.specs.Points.{Point}
use Rattle.topojson_types.specs.Topologies.{Contents}
use Rattle.topojson_types.specs.declared.feature.TopoFeature.{TopoFeature}
use Rattle.topojson_types.specs.declared.object.TopoObject.{TopoObject}
use Rattle.topojson_types.specs.declared.object.TopoObject.TheVariants.{One, Many}
use Rattle.topojson_meaning.specs.declared.fault.TopoFault.{TopoFault}
use Rattle.topojson_meaning.specs.Reader.{Reader, and_then, each, gather, give}
use Rattle.json_cursor.specs.Answers.{Answers}
use Rattle.json_cursor.specs.declared.stop.Stop.{Stop}
use Rattle.json_cursor.specs.declared.stop.Stop.TheVariants as stop
use Rattle.topojson_decoder.specs.declared.keeping.Keeping.{Keeping}
use Rattle.topojson_decoder.specs.declared.keeping.Keeping.TheVariants.{Whole, Shapes, Counted}
use Rattle.topojson_decoder.specs.Kept.{features_in, features_of, held_arcs, if_counted, listed, making, of_contents, of_feature, of_named, of_object, of_option, parts_contents}
use Rattle.topojson_decoder.specs.Members.{Judges}

-- ---- what is made of what is read

-- the same is read, and this is made of it
pub record Unmade {A B : Type 0} (f : A → B) (r : Result (A × Counts) TopoFault) (x : B) (d : Counts) : Type 0 where
  pub whole : A
  pub reads : r ≡ Ok (whole, d)
  pub is : x ≡ f whole

module _ {A B : Type 0} (f : A → B) where
  abbrev make : Result (A × Counts) TopoFault → Result (B × Counts) TopoFault
  make = and_then (λ x. give (f x))

  unmade_of : (r : Result (A × Counts) TopoFault) (x : B) (d : Counts) → make r ≡ Ok (x, d) → Unmade f r x d
  unmade_of (Err e) x d h = absurd cc
  unmade_of (Ok y) x d h =
      let same : ◌≡◌ {A = B × Counts} (f y.0, y.1) (x, d) = cc in
      record { whole = y.0; reads = ap (λ z. Ok (y.0, z)) (ap (λ p. p.1) same); is = sym (ap (λ p. p.0) same) }

  fault_of : (r : Result (A × Counts) TopoFault) (e : TopoFault) → make r ≡ Err e → r ≡ Err e
  fault_of (Err k) e h = cc
  fault_of (Ok y) e h = absurd cc

  module _ (read : Reader A) (c : Counts) where
    pub made : (x : A) (d : Counts) → read c ≡ Ok (x, d) → making f read c ≡ Ok (f x, d)
    made x d h = rw h refl

    pub made_fault : (e : TopoFault) → read c ≡ Err e → making f read c ≡ Err e
    made_fault e h = rw h refl

    pub unmade : (x : B) (d : Counts) → making f read c ≡ Ok (x, d) → Unmade f (read c) x d
    unmade x d h = unmade_of (read c) x d h

    pub unmade_fault : (e : TopoFault) → making f read c ≡ Err e → read c ≡ Err e
    unmade_fault e h = fault_of (read c) e h

    pub made_alike : (other : Reader A) → read c ≡ other c → making f read c ≡ making f other c
    made_alike other h = ap make h

    -- it stops where the reader stops
    pub made_stop : (new other : Counts) (why : Stop TopoFault) → Judges read c new (Err why) → Judges (making f read) c other (Err why)
    made_stop new other (stop.Fault e) h = made_fault e h
    made_stop new other stop.NoValue h = h
    made_stop new other stop.Memory h = tt

    pub unmade_stop : (new other : Counts) (why : Stop TopoFault) → Judges (making f read) c new (Err why) → Judges read c other (Err why)
    unmade_stop new other (stop.Fault e) h = unmade_fault e h
    unmade_stop new other stop.NoValue h = h
    unmade_stop new other stop.Memory h = tt

  -- ---- of each of a list

  module _ (element : Json → Reader A) where
    join : (x : A) (r : Result (List A × Counts) TopoFault) → and_then (λ ys. give (f x ∷ ys)) (and_then (λ ys. give (map f ys)) r) ≡ and_then (λ xs. give (map f xs)) (and_then (λ ys. give (x ∷ ys)) r)
    join x (Err e) = refl
    join x (Ok y) = refl

    each_step : (vs : List Json) → ((d : Counts) → each (λ v. making f (element v)) vs d ≡ making (map f) (each element vs) d) → (r : Result (A × Counts) TopoFault)
        → and_then (λ xs. λ d. and_then (λ ys. give (xs ++ ys)) (each (λ v. making f (element v)) vs d)) (and_then (λ x. give (x ∷ [])) (make r))
        ≡ and_then (λ xs. give (map f xs)) (and_then (λ xs. λ d. and_then (λ ys. give (xs ++ ys)) (each element vs d)) (and_then (λ x. give (x ∷ [])) r))
    each_step vs same (Err e) = refl
    each_step vs same (Ok x) = ap (and_then (λ ys. give (f x.0 ∷ ys))) (same x.1) ∙ join x.0 (each element vs x.1)

    pub made_each : (vs : List Json) (c : Counts) → each (λ v. making f (element v)) vs c ≡ making (map f) (each element vs) c
    unfolding gather
    made_each [] c = refl
    made_each (v ∷ vs) c = each_step vs (made_each vs) (element v c)

-- ---- the whole

-- what is answered of the reader that makes this is answered of the reader, where it can be made again
module _ {A B : Type 0} (f : A → B) (back : B → A) (same : (x : A) → back (f x) ≡ x) where
  pub answers_back : (read : Json → Reader A) (prefix : Option (Json × List ℕ)) (old new : Counts) (answer : Result (B × Bor (List ℕ)) (Stop TopoFault))
      → Answers (λ p. p) (λ v. making f (read v)) prefix old new answer → Answers back read prefix old new answer
  answers_back read prefix old new (Ok x) r =
      let u = unmade f (read r.value) old x.0 new r.means in
      record { value = r.value; prefix_is = r.prefix_is; means = u.reads ∙ ap (λ z. Ok (z, new)) (sym (same u.whole) ∙ ap back (sym u.is)) }
  answers_back read prefix old new (Err (stop.Fault e)) h = λ v rest is. unmade_fault f (read v) old e (h v rest is)
  answers_back read prefix old new (Err stop.NoValue) h = h
  answers_back read prefix old new (Err stop.Memory) h = tt

-- all of arcs
pub all_held : (k : Keeping) → ((t : Option (Bor (List ℕ))) × (k ≡ Whole t)) ⊎ (k ≡ Shapes) → (arcs : List (List Point)) → held_arcs k arcs ≡ record { list = arcs; positions = None }
all_held (Whole t) is arcs = refl
all_held Shapes is arcs = refl
all_held Counted (inl h) arcs = absurd cc
all_held Counted (inr h) arcs = absurd cc

module _ (text : Option (Bor (List ℕ))) where
  pub whole_option : {A : Type 0} (x : Option A) → of_option (Whole text) x ≡ x
  whole_option None = refl
  whole_option (Some x) = refl

  pub whole_feature : (f : TopoFeature) → of_feature (Whole text) f ≡ f
  whole_feature f = rw (whole_option f.id, whole_option f.properties) refl

  pub whole_features : (fs : List TopoFeature) → map (of_feature (Whole text)) fs ≡ fs
  whole_features [] = refl
  whole_features (f ∷ fs) = rw (whole_feature f, whole_features fs) refl

  pub whole_object : (o : TopoObject) → of_object (Whole text) o ≡ o
  whole_object (One f) = ap One (whole_feature f)
  whole_object (Many fs) = ap Many (whole_features fs)

  pub whole_named : (o : List ℕ × TopoObject) → of_named (Whole text) o ≡ o
  whole_named o = ap (λ z. (o.0, z)) (whole_object o.1)

  pub whole_objects : (os : List (List ℕ × TopoObject)) → map (of_named (Whole text)) os ≡ os
  whole_objects [] = refl
  whole_objects (o ∷ os) = rw (whole_named o, whole_objects os) refl

  pub whole_contents : (t : Contents) → parts_contents (of_contents (Whole text) t) ≡ t
  whole_contents t = ap (λ z. record { objects = z; arcs = t.arcs; transform = t.transform }) (whole_objects t.objects)

-- ---- lists of features, and how many these are

pub none_listed : (k : Keeping) → listed k [] ≡ []
none_listed (Whole t) = refl
none_listed Shapes = refl
none_listed Counted = refl

pub listed_more : (k : Keeping) (fs : List TopoFeature) (f : TopoFeature) → listed k (fs ++ f ∷ []) ≡ listed k fs ++ listed k (f ∷ [])
listed_more (Whole t) fs f = refl
listed_more Shapes fs f = refl
listed_more Counted fs f = refl

abbrev numbers_in : List ℕ → Option (List ℕ) → List ℕ
numbers_in ns None = ns
numbers_in ns (Some ms) = ms

pub counted_more : (k : Keeping) (os : List (List ℕ × TopoObject)) (o : List ℕ × TopoObject) (ns after : List ℕ) → features_of k os ≡ if_counted k ns → if_counted k after ≡ if_counted k (ns ++ features_in o.1 ∷ []) → features_of k (os ++ o ∷ []) ≡ if_counted k after
counted_more (Whole t) os o ns after h is = refl
counted_more Shapes os o ns after h is = refl
counted_more Counted os o ns after h is =
    ap Some (map-append (λ p. features_in p.1) os (o ∷ [])) ∙ ap (λ ms. Some (ms ++ features_in o.1 ∷ [])) (ap (numbers_in ns) h) ∙ sym is

pub none_counted : (k : Keeping) → features_of k [] ≡ if_counted k []
none_counted (Whole t) = refl
none_counted Shapes = refl
none_counted Counted = refl

-- ---- the names of objects

module _ (k : Keeping) where
  pub names_kept : (os : List (List ℕ × TopoObject)) → map (λ o. o.0) (map (of_named k) os) ≡ map (λ o. o.0) os
  names_kept [] = refl
  names_kept (o ∷ os) = ap (λ z. o.0 ∷ z) (names_kept os)
