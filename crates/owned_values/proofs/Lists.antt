-- Lists made of lists, and lists that a loop goes over.
use Rattle.std.proofs.Common.{◌≡◌, ℕ, zero, suc, ◌+◌, ◌<◌, ◌≤◌, true, List, [], ◌∷◌, ◌++◌, map, length, get_or, slice_get, drop, take, Option, Some, refl, ap, sym, ◌∙◌, arith, add-one, append_assoc, drop-cons}
use Rattle.std.proofs.lemmas.List.{map-append, take_all, take_more}
use Rattle.std.specs.List.{AllByRecursion}
use Rattle.owned_values.specs.Lists.{some_of, unless_empty, joined, is_some_list}

-- from here on: this element, and those after it
pub drop_here : {A : Type 0} (xs : List A) (i : ℕ) (x : A) → i < length xs → x ≡ get_or xs i x → drop i xs ≡ x ∷ drop (i + 1) xs
drop_here xs i x within is = rw add-one (drop-cons xs i x within ∙ ap (λ z. z ∷ drop (suc i) xs) (sym is))

-- up to here, with this element
pub take_here : {A : Type 0} (xs : List A) (i : ℕ) (x : A) → i < length xs → x ≡ get_or xs i x → take (i + 1) xs ≡ take i xs ++ (x ∷ [])
take_here xs i x within is = take_more xs i x within ∙ ap (λ z. take i xs ++ z ∷ []) (sym is)

pub take_got : {A : Type 0} (xs : List A) (i : ℕ) (x : A) → slice_get xs i ≡ Some x → take (i + 1) xs ≡ take i xs ++ (x ∷ [])
take_got [] i x e = cc
take_got (y ∷ ys) zero x e = let is : y ≡ x = cc in ap (λ z. z ∷ []) is
take_got (y ∷ ys) (suc i) x e =
    let more : suc i + 1 ≡ suc (i + 1) = omega arith in
    ap (λ n. take n (y ∷ ys)) more ∙ ap (λ zs. y ∷ zs) (take_got ys i x e)

-- ---- a list of what is made of each element, from the front on

pub mapped_more : {A B : Type 0} (f : A → B) (xs : List A) (i : ℕ) (x : A) (ys zs : List B) (y : B) → i < length xs → x ≡ get_or xs i x
    → ys ≡ map f (take i xs) → y ≡ f x → zs ≡ ys ++ (y ∷ []) → zs ≡ map f (take (i + 1) xs)
mapped_more f xs i x ys zs y within is so e pushed =
    pushed ∙ ap (λ ws. ws ++ (y ∷ [])) so ∙ ap (λ w. map f (take i xs) ++ (w ∷ [])) e
    ∙ sym (map-append f (take i xs) (x ∷ [])) ∙ sym (ap (map f) (take_here xs i x within is))

pub mapped_all : {A B : Type 0} (f : A → B) (xs : List A) (i : ℕ) (ys : List B) → length xs ≤ i → ys ≡ map f (take i xs) → ys ≡ map f xs
mapped_all f xs i ys past so = so ∙ ap (map f) (take_all i xs past)

pub map_back : {A B : Type 0} (f : B → A) (g : A → B) → ((x : A) → f (g x) ≡ x) → (xs : List A) → map f (map g xs) ≡ xs
map_back f g e [] = refl
map_back f g e (x ∷ xs) = rw (e x, map_back f g e xs) refl

pub map_agree : {A B : Type 0} (f g : A → B) (xs : List A) → AllByRecursion (λ x. f x ≡ g x) xs → map f xs ≡ map g xs
map_agree f g [] h = refl
map_agree f g (x ∷ xs) h = rw (h.0, map_agree f g xs h.1) refl

pub some_agree : {A B : Type 0} (f g : A → Option B) (xs : List A) → AllByRecursion (λ x. f x ≡ g x) xs → some_of f xs ≡ some_of g xs
some_agree f g [] h = refl
some_agree f g (x ∷ xs) h = rw (h.0, some_agree f g xs h.1) refl

-- ---- lists one after another

pub joined_append : {A : Type 0} (xss yss : List (List A)) → joined (xss ++ yss) ≡ joined xss ++ joined yss
joined_append [] yss = refl
joined_append (xs ∷ xss) yss = ap (λ zs. xs ++ zs) (joined_append xss yss) ∙ sym (append_assoc xs (joined xss) (joined yss))

pub made_of_some : {A B : Type 0} (make : List A → B) (xs : List A) → is_some_list xs ≡ true → unless_empty make xs ≡ Some (make xs)
made_of_some make [] h = cc
made_of_some make (x ∷ xs) h = refl
