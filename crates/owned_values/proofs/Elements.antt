-- What holds of each element of a list.
use Rattle.std.proofs.Common.{◌≡◌, ℕ, zero, suc, ◌+◌, ◌<◌, Bool, true, ◌&&◌, List, [], ◌∷◌, ◌++◌, map, length, get_or, drop, take, reverse, refl, subst, sym, inl, inr, arith}
use Rattle.std.proofs.lemmas.Bool.{and_parts}
use Rattle.std.proofs.lemmas.List.{reverse-append}
use Rattle.std.specs.List.{AllByRecursion, list_all}
use Rattle.owned_values.specs.Lists.{joined, In}

pub all_weaker : {A : Type 0} (X Y : A → Type 0) → ((a : A) → X a → Y a) → (xs : List A) → AllByRecursion X xs → AllByRecursion Y xs
all_weaker X Y f [] h = tt
all_weaker X Y f (x ∷ xs) h = (f x h.0, all_weaker X Y f xs h.1)

pub all_two : {A : Type 0} (X Y Z : A → Type 0) → ((a : A) → X a → Y a → Z a) → (xs : List A) → AllByRecursion X xs → AllByRecursion Y xs → AllByRecursion Z xs
all_two X Y Z f [] h k = tt
all_two X Y Z f (x ∷ xs) h k = (f x h.0 k.0, all_two X Y Z f xs h.1 k.1)

-- ---- of lists made of lists

pub all_append : {A : Type 0} (X : A → Type 0) (xs ys : List A) → AllByRecursion X xs → AllByRecursion X ys → AllByRecursion X (xs ++ ys)
all_append X [] ys h k = k
all_append X (x ∷ xs) ys h k = (h.0, all_append X xs ys h.1 k)

pub all_left : {A : Type 0} (X : A → Type 0) (xs ys : List A) → AllByRecursion X (xs ++ ys) → AllByRecursion X xs
all_left X [] ys h = tt
all_left X (x ∷ xs) ys h = (h.0, all_left X xs ys h.1)

pub all_right : {A : Type 0} (X : A → Type 0) (xs ys : List A) → AllByRecursion X (xs ++ ys) → AllByRecursion X ys
all_right X [] ys h = h
all_right X (x ∷ xs) ys h = all_right X xs ys h.1

pub all_joined : {A : Type 0} (X : A → Type 0) (xss : List (List A)) → AllByRecursion (AllByRecursion X) xss → AllByRecursion X (joined xss)
all_joined X [] h = tt
all_joined X (xs ∷ xss) h = all_append X xs (joined xss) h.0 (all_joined X xss h.1)

pub all_reverse : {A : Type 0} (X : A → Type 0) (xs : List A) → AllByRecursion X xs → AllByRecursion X (reverse xs)
all_reverse X [] h = tt
all_reverse X (x ∷ xs) h = subst (AllByRecursion X) (sym (reverse-append (x ∷ []) xs)) (all_append X (reverse xs) (x ∷ []) (all_reverse X xs h.1) (h.0, tt))

pub all_drop : {A : Type 0} (X : A → Type 0) (n : ℕ) (xs : List A) → AllByRecursion X xs → AllByRecursion X (drop n xs)
all_drop X zero xs h = h
all_drop X (suc n) [] h = tt
all_drop X (suc n) (x ∷ xs) h = all_drop X n xs h.1

pub all_take : {A : Type 0} (X : A → Type 0) (n : ℕ) (xs : List A) → AllByRecursion X xs → AllByRecursion X (take n xs)
all_take X zero xs h = tt
all_take X (suc n) [] h = tt
all_take X (suc n) (x ∷ xs) h = (h.0, all_take X n xs h.1)

-- ---- of what is made of the elements

pub all_map : {A B : Type 0} (X : B → Type 0) (f : A → B) (xs : List A) → AllByRecursion (λ x. X (f x)) xs → AllByRecursion X (map f xs)
all_map X f [] h = tt
all_map X f (x ∷ xs) h = (h.0, all_map X f xs h.1)

pub all_of_map : {A B : Type 0} (X : B → Type 0) (f : A → B) (xs : List A) → AllByRecursion X (map f xs) → AllByRecursion (λ x. X (f x)) xs
all_of_map X f [] h = h
all_of_map X f (x ∷ xs) h = (h.0, all_of_map X f xs h.1)

pub all_parts : {A B : Type 0} (X : B → Type 0) (f : A → List B) (xs : List A) → AllByRecursion (λ x. AllByRecursion X (f x)) xs → AllByRecursion X (joined (map f xs))
all_parts X f [] h = tt
all_parts X f (x ∷ xs) h = all_append X (f x) (joined (map f xs)) h.0 (all_parts X f xs h.1)

-- ---- of those that a list has

pub all_of : {A : Type 0} (X : A → Type 0) (xs : List A) → ((x : A) → In x xs → X x) → AllByRecursion X xs
all_of X [] h = tt
all_of X (x ∷ xs) h = (h x (inl refl), all_of X xs (λ y k. h y (inr k)))

pub all_made : {A B : Type 0} (X : B → Type 0) (f : A → B) (xs : List A) → ((x : A) → In x xs → X (f x)) → AllByRecursion X (map f xs)
all_made X f xs h = all_map X f xs (all_of (λ x. X (f x)) xs h)

pub each_of : {A : Type 0} (X : A → Type 0) (xs : List A) (x : A) → AllByRecursion X xs → In x xs → X x
each_of X [] x h k = elim k [ ]
each_of X (y ∷ ys) x h (inl e) = subst X (sym e) h.0
each_of X (y ∷ ys) x h (inr k) = each_of X ys x h.1 k

-- the element of a number
pub all_at : {A : Type 0} (X : A → Type 0) (xs : List A) (i : ℕ) (x : A) → i < length xs → x ≡ get_or xs i x → AllByRecursion X xs → X x
all_at X [] i x within is h = absurd (omega arith)
all_at X (y ∷ ys) zero x within is h = subst X (sym is) h.0
all_at X (y ∷ ys) (suc i) x within is h = all_at X ys i x (omega arith) is h.1

-- ---- of those that pass a test

pub all_passed : {A : Type 0} (p : A → Bool) (xs : List A) → list_all p xs ≡ true → AllByRecursion (λ x. p x ≡ true) xs
all_passed p [] h = tt
all_passed p (x ∷ xs) h = let k = and_parts (p x) (list_all p xs) h in (k.0, all_passed p xs k.1)

pub list_all_of : {A : Type 0} (p : A → Bool) (xs : List A) → AllByRecursion (λ x. p x ≡ true) xs → list_all p xs ≡ true
list_all_of p [] h = refl
list_all_of p (x ∷ xs) h = rw (h.0, list_all_of p xs h.1) refl
