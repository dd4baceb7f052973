-- The number texts of a value, one equation a variant.
use Rattle.std.proofs.Common.{◌≡◌, ℕ, Bool, List, [], ◌∷◌, map, refl, sym, ap, ◌∙◌}
use Rattle.owned_values.proofs.Elements.{all_append}
use Rattle.std.specs.List.{flat_map, AllByRecursion}
use Rattle.json_value.specs.declared.json.Json.{Json, fold-Json, fold-roll-Json}
use Rattle.json_value.specs.declared.json.Json.TheOpen.{Json-F}
use Rattle.json_value.specs.declared.json.Json.TheVariants as j
use Rattle.json_value.specs.Numbers.{numbers_of, numbers_step}

pub numbers-null : numbers_of j.Null ≡ []
numbers-null = unfold numbers_of in ap (fold-Json _ numbers_step) (sym j.rolls-Null) ∙ fold-roll-Json _ numbers_step Json-F.Null

pub numbers-bool : (b : Bool) → numbers_of (j.Bool b) ≡ []
numbers-bool b = unfold numbers_of in ap (fold-Json _ numbers_step) (sym (j.rolls-Bool b)) ∙ fold-roll-Json _ numbers_step (Json-F.Bool b)

pub numbers-number : (t : List ℕ) → numbers_of (j.Number t) ≡ t ∷ []
numbers-number t = unfold numbers_of in ap (fold-Json _ numbers_step) (sym (j.rolls-Number t)) ∙ fold-roll-Json _ numbers_step _

pub numbers-text : (t : List ℕ) → numbers_of (j.Text t) ≡ []
numbers-text t = unfold numbers_of in ap (fold-Json _ numbers_step) (sym (j.rolls-Text t)) ∙ fold-roll-Json _ numbers_step (Json-F.Text t)

-- one by one is the lists of a map, joined
pub gathered : {A B : Type 0} (h : B → List (List ℕ)) (g : A → B) (k : A → List (List ℕ)) → ((a : A) → h (g a) ≡ k a) → (xs : List A) → flat_map h (map g xs) ≡ flat_map k xs
gathered h g k e [] = refl
gathered h g k e (x ∷ xs) = rw (e x, gathered h g k e xs) refl

-- what holds of the parts of each element holds of them all
pub all_flat : {A B : Type 0} (X : B → Type 0) (f : A → List B) (xs : List A) → AllByRecursion (λ x. AllByRecursion X (f x)) xs → AllByRecursion X (flat_map f xs)
all_flat X f [] h = tt
all_flat X f (x ∷ xs) h = all_append X (f x) (flat_map f xs) h.0 (all_flat X f xs h.1)

pub numbers-array : (vs : List Json) → numbers_of (j.Array vs) ≡ flat_map numbers_of vs
numbers-array vs = unfold numbers_of in ap (fold-Json _ numbers_step) (sym (j.rolls-Array vs)) ∙ fold-roll-Json _ numbers_step _
    ∙ gathered (λ ns. ns) _ numbers_of (λ v. refl) vs

pub numbers-object : (ms : List (List ℕ × Json)) → numbers_of (j.Object ms) ≡ flat_map (λ m. numbers_of m.1) ms
numbers-object ms = unfold numbers_of in ap (fold-Json _ numbers_step) (sym (j.rolls-Object ms)) ∙ fold-roll-Json _ numbers_step _
    ∙ gathered (λ m. m.1) _ (λ m. numbers_of m.1) (λ m. refl) ms

pub ruleset numbers = (numbers-null, numbers-bool, numbers-number, numbers-text, numbers-array, numbers-object)
