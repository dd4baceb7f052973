-- The names of layers, as a loop goes over them.
use Rattle.std.proofs.Common.{◌≡◌, ℕ, ◌+◌, ◌<◌, ◌≤◌, ◌==◌, true, false, List, [], ◌∷◌, ◌++◌, length, get_or, drop, take, map, sym, ap, ◌∙◌, subst, refl, Option, Some, None, Ok, Err, arith}
use Rattle.std.proofs.lemmas.Bool.{eqb-true}
use Rattle.std.proofs.lemmas.List.{length-map, length-take-le, map-append, drop_all}
use Rattle.inputs.specs.declared.fault.BuildFault.{BuildFault}
use Rattle.inputs.specs.declared.fault.BuildFault.TheVariants.{EmptyName, DuplicateName}
use Rattle.inputs.specs.Names.{is_among, fault_of_name, or_else, name_fault_after, IsRefusedFor}
use Rattle.owned_values.proofs.Lists.{drop_here, take_here}

empty_fault : (before : List (List ℕ)) (name : List ℕ) → (length name == 0) ≡ true → fault_of_name before name ≡ Some (EmptyName (length before))
empty_fault before name h = grind (arith, eqb-true)

among_fault : (before : List (List ℕ)) (name : List ℕ) → (length name == 0) ≡ false → is_among name before ≡ true → fault_of_name before name ≡ Some (DuplicateName (length before))
among_fault before name h a = grind arith

no_fault : (before : List (List ℕ)) (name : List ℕ) → (length name == 0) ≡ false → is_among name before ≡ false → fault_of_name before name ≡ None
no_fault before name h a = grind arith

refused : (whole : Option BuildFault) (e : BuildFault) → whole ≡ Some e → IsRefusedFor whole (Err e)
refused whole e h = subst (λ z. IsRefusedFor z (Err e)) (sym h) refl

module _ {A : Type 0} (name_of : A → List ℕ) (xs : List A) (i : ℕ) (whole : Option BuildFault)
    (so_far : name_fault_after (map name_of (take i xs)) (map name_of (drop i xs)) ≡ whole) where
  module _ (x : A) (lt : i < length xs) (item : x ≡ get_or xs i x) where
    unfolded : or_else (fault_of_name (map name_of (take i xs)) (name_of x)) (name_fault_after (map name_of (take i xs) ++ name_of x ∷ []) (map name_of (drop (i + 1) xs))) ≡ whole
    unfolding name_fault_after
    unfolded = sym (ap (λ z. name_fault_after (map name_of (take i xs)) (map name_of z)) (drop_here xs i x lt item)) ∙ so_far

    prefix-length : length (map name_of (take i xs)) ≡ i
    prefix-length = length-map (take i xs) name_of ∙ length-take-le i xs (omega arith)

    found : (e : BuildFault) → fault_of_name (map name_of (take i xs)) (name_of x) ≡ Some e → whole ≡ Some e
    found e h = sym unfolded ∙ ap (λ z. or_else z (name_fault_after (map name_of (take i xs) ++ name_of x ∷ []) (map name_of (drop (i + 1) xs)))) h

    pub empty_name : (length (name_of x) == 0) ≡ true → IsRefusedFor whole (Err (EmptyName i))
    empty_name h = refused whole (EmptyName i) (found (EmptyName i) (empty_fault (map name_of (take i xs)) (name_of x) h ∙ ap (λ n. Some (EmptyName n)) prefix-length))

    pub doubled_name : (length (name_of x) == 0) ≡ false → is_among (name_of x) (map name_of (take i xs)) ≡ true → IsRefusedFor whole (Err (DuplicateName i))
    doubled_name h a = refused whole (DuplicateName i) (found (DuplicateName i) (among_fault (map name_of (take i xs)) (name_of x) h a ∙ ap (λ n. Some (DuplicateName n)) prefix-length))

    pub one_more : map name_of (take (i + 1) xs) ≡ map name_of (take i xs) ++ name_of x ∷ []
    one_more = ap (map name_of) (take_here xs i x lt item) ∙ map-append name_of (take i xs) (x ∷ [])

    pub goes_on : (length (name_of x) == 0) ≡ false → is_among (name_of x) (map name_of (take i xs)) ≡ false
        → name_fault_after (map name_of (take (i + 1) xs)) (map name_of (drop (i + 1) xs)) ≡ whole
    goes_on h a =
        ap (λ z. name_fault_after z (map name_of (drop (i + 1) xs))) one_more
        ∙ sym (ap (λ z. or_else z (name_fault_after (map name_of (take i xs) ++ name_of x ∷ []) (map name_of (drop (i + 1) xs)))) (no_fault (map name_of (take i xs)) (name_of x) h a))
        ∙ unfolded

  pub no_more : length xs ≤ i → IsRefusedFor whole (Ok tt)
  unfolding name_fault_after
  no_more le = subst (λ z. IsRefusedFor z (Ok tt)) (ap (λ z. name_fault_after (map name_of (take i xs)) (map name_of z)) (sym (drop_all i xs le)) ∙ so_far) refl
