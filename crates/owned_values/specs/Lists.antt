-- Lists and options of which parts are left out, and what holds of lists.
use Rattle.std.specs.Prelude.{◌≡◌, ◌≢◌, ◌⊎◌, Bool, true, false, List, [], ◌∷◌, ◌++◌, Option, None, Some}
use Rattle.std.specs.List.{AllByRecursion}

-- what is made of it, if there is one
abbrev pub map_some : {A B : Type 0} → (A → B) → Option A → Option B
map_some f None = None
map_some f (Some x) = Some (f x)

-- what is given for it, if there is one
abbrev pub then_some : {A B : Type 0} → (A → Option B) → Option A → Option B
then_some f None = None
then_some f (Some x) = f x

-- the list after it, if there is one
abbrev pub with_some : {A : Type 0} → Option A → List A → List A
with_some None xs = xs
with_some (Some x) xs = x ∷ xs

-- what is given for each, where something is
abbrev pub some_of : {A B : Type 0} → (A → Option B) → List A → List B
some_of f [] = []
some_of f (x ∷ xs) = with_some (f x) (some_of f xs)

-- what is made of the list, unless it is empty
abbrev pub unless_empty : {A B : Type 0} → (List A → B) → List A → Option B
unless_empty make [] = None
unless_empty make (x ∷ xs) = Some (make (x ∷ xs))

-- lists one after another
abbrev pub joined : {A : Type 0} → List (List A) → List A
joined [] = []
joined (xs ∷ xss) = xs ++ joined xss

-- the list without its first element
abbrev pub tail : {X : Type 0} → List X → List X
tail [] = []
tail (x ∷ xs) = xs

-- an element and more of them, without the last
abbrev pub all_but_last_of : {X : Type 0} → X → List X → List X
all_but_last_of x [] = []
all_but_last_of x (y ∷ ys) = x ∷ all_but_last_of y ys

-- the list without its last element
abbrev pub all_but_last : {X : Type 0} → List X → List X
all_but_last [] = []
all_but_last (x ∷ xs) = all_but_last_of x xs

-- the elements between the ends
abbrev pub interior : {X : Type 0} → List X → List X
interior xs = all_but_last (tail xs)

-- there is an element
abbrev pub is_some_list : {A : Type 0} → List A → Bool
is_some_list [] = false
is_some_list (x ∷ xs) = true

-- it is one of them
abbrev pub In : {X : Type 0} → X → List X → Type 0
In x [] = ⊥
In x (y ∷ ys) = (x ≡ y) ⊎ In x ys

-- no two are equal
abbrev pub AreDistinct : {X : Type 0} → List X → Type 0
AreDistinct [] = Unit {0}
AreDistinct (x ∷ xs) = AllByRecursion (λ y. x ≢ y) xs × AreDistinct xs
