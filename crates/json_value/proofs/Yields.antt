-- What holds of all that a reader gives.
use Rattle.owned_values.proofs.Elements.{all_of, all_append}
use Rattle.std.proofs.Common.{◌≡◌, Bool, true, false, cond, List, [], ◌∷◌, ◌++◌, Option, Some, None, Result, Ok, Err, refl, ap, subst}
use Rattle.std.specs.Prelude.{option_to_list}
use Rattle.std.specs.List.{AllByRecursion}
use Rattle.json_value.specs.Readers.{Counting, and_then, ◌>>=◌, give, fail, pure, or_fail, gather, each, kept, if_some}

-- whatever the reader gives is a P
abbrev pub Yields : {C E A : Type 0} → (A → Type 0) → Counting C E A → Type 0
Yields {C} {E} {A} P m = (c d : C) (x : A) → m c ≡ Ok (x, d) → P x

-- nothing, or a P
abbrev pub IfThere : {A : Type 0} → (A → Type 0) → Option A → Type 0
IfThere P None = Unit {0}
IfThere P (Some x) = P x

-- ---- lists

pub all_trivial : {A : Type 0} (xs : List A) → AllByRecursion (λ x. Unit {0}) xs
all_trivial xs = all_of (λ x. Unit {0}) xs (λ x k. tt)

-- ---- what was given

-- what two readers gave was given by the first and then by the second
pub taken : {C E A B : Type 0} (m : Result (A × C) E) (f : A → Counting C E B) (y : B × C) → and_then f m ≡ Ok y → (x : A) × ((c : C) × ((m ≡ Ok (x, c)) × (f x c ≡ Ok y)))
taken (Ok x) f y e = (x.0, (x.1, (refl, e)))
taken (Err d) f y e = absurd cc

-- a success
abbrev pub okay : {C E A : Type 0} → A × C → Result (A × C) E
okay x = Ok x

-- equal successes give the same, and have equal counts
pub first_is : {C E A : Type 0} {a b : A} {c d : C} → okay {C = C} {E = E} (a, c) ≡ okay (b, d) → a ≡ b
first_is {C} {E} {A} {a} {b} {c} {d} h = let same : ◌≡◌ {A = A × C} (a, c) (b, d) = cc in ap (λ p. p.0) same

pub second_is : {C E A : Type 0} {a b : A} {c d : C} → okay {C = C} {E = E} (a, c) ≡ okay (b, d) → c ≡ d
second_is {C} {E} {A} {a} {b} {c} {d} h = let same : ◌≡◌ {A = A × C} (a, c) (b, d) = cc in ap (λ p. p.1) same

-- ---- readers

pub weaker_yields : {C E A : Type 0} (P Q : A → Type 0) (m : Counting C E A) → ((x : A) → P x → Q x) → Yields P m → Yields Q m
weaker_yields P Q m f h c d x e = f x (h c d x e)

pub then_yields : {C E A B : Type 0} (P : A → Type 0) (Q : B → Type 0) (m : Counting C E A) (f : A → Counting C E B) → Yields P m → ((x : A) → P x → Yields Q (f x)) → Yields Q (m >>= f)
then_yields P Q m f first second c d y e = let t = taken (m c) f (y, d) e in second t.0 (first c t.1.0 t.0 t.1.1.0) t.1.0 d y t.1.1.1

pub give_yields : {C E A : Type 0} (P : A → Type 0) (x : A) → P x → Yields {C = C} {E = E} P (give x)
give_yields P x h c d y e = subst P (first_is e) h

-- it is given, and counted
pub count_yields : {C E A : Type 0} (P : A → Type 0) (x : A) (count : C → C) → P x → Yields {C = C} {E = E} P (λ c. Ok (x, count c))
count_yields P x count h c d y e = subst P (first_is e) h

pub fail_yields : {C E A : Type 0} (P : A → Type 0) (f : E) → Yields {C = C} P (fail f)
fail_yields P f c d y e = absurd cc

pub pure_yields : {C E A : Type 0} (r : Result A E) → Yields {C = C} (λ x. r ≡ Ok x) (pure r)
pure_yields {C = C} {E = E} (Ok y) c d x e = let k : y ≡ x = first_is e in rw k refl
pure_yields (Err f) c d x e = absurd cc

-- one reader after what counts nothing
pub pure_then : {C E A B : Type 0} (Q : B → Type 0) (r : Result A E) (f : A → Counting C E B) → ((x : A) → r ≡ Ok x → Yields Q (f x)) → Yields Q (pure r >>= f)
pure_then Q r f h = then_yields (λ x. r ≡ Ok x) Q (pure r) f (pure_yields r) h

-- one of two readers, by a test
pub if_yields : {C E A : Type 0} (P : A → Type 0) (b : Bool) (m n : Counting C E A) → (b ≡ true → Yields P m) → (b ≡ false → Yields P n) → Yields P (cond b m n)
if_yields P true m n h k = h refl
if_yields P false m n h k = k refl

pub there_weaker : {A : Type 0} (P Q : A → Type 0) → ((x : A) → P x → Q x) → (o : Option A) → IfThere P o → IfThere Q o
there_weaker P Q f None h = tt
there_weaker P Q f (Some x) h = f x h

pub if_some_yields : {C E A B : Type 0} (Q : A → Type 0) (P : B → Type 0) (read : A → Counting C E (Option B)) → ((x : A) → Q x → Yields (IfThere P) (read x)) → (o : Option A) → IfThere Q o → Yields (IfThere P) (if_some read o)
if_some_yields Q P read h None k = give_yields (IfThere P) None tt
if_some_yields Q P read h (Some x) k = h x k

-- each part is a P where each element is a Q
pub gather_yields : {C E A B : Type 0} (Q : A → Type 0) (P : B → Type 0) (read : A → Counting C E (List B)) → ((v : A) → Q v → Yields (AllByRecursion P) (read v)) → (vs : List A) → AllByRecursion Q vs → Yields (AllByRecursion P) (gather read vs)
unfolding gather
gather_yields Q P read h [] k = give_yields (AllByRecursion P) [] tt
gather_yields Q P read h (v ∷ vs) k = then_yields (AllByRecursion P) (AllByRecursion P) (read v) _ (h v k.0)
    (λ x p. then_yields (AllByRecursion P) (AllByRecursion P) (gather read vs) _ (gather_yields Q P read h vs k.1)
    (λ xs q. give_yields (AllByRecursion P) (x ++ xs) (all_append P x xs p q)))

pub each_of_yields : {C E A B : Type 0} (Q : A → Type 0) (P : B → Type 0) (read : A → Counting C E B) → ((v : A) → Q v → Yields P (read v)) → (vs : List A) → AllByRecursion Q vs → Yields (AllByRecursion P) (each read vs)
each_of_yields Q P read h = gather_yields Q P _ (λ v k. then_yields P (AllByRecursion P) (read v) _ (h v k) (λ x p. give_yields (AllByRecursion P) (x ∷ []) (p, tt)))

pub each_yields : {C E A B : Type 0} (P : B → Type 0) (read : A → Counting C E B) → ((v : A) → Yields P (read v)) → (vs : List A) → Yields (AllByRecursion P) (each read vs)
each_yields P read h vs = each_of_yields (λ v. Unit {0}) P read (λ v k. h v) vs (all_trivial vs)

one_or_none : {A : Type 0} (P : A → Type 0) (o : Option A) → IfThere P o → AllByRecursion P (option_to_list o)
one_or_none P None h = tt
one_or_none P (Some x) h = (h, tt)

pub kept_of_yields : {C E A B : Type 0} (Q : A → Type 0) (P : B → Type 0) (read : A → Counting C E (Option B)) → ((v : A) → Q v → Yields (IfThere P) (read v)) → (vs : List A) → AllByRecursion Q vs → Yields (AllByRecursion P) (kept read vs)
kept_of_yields Q P read h = gather_yields Q P _ (λ v k. then_yields (IfThere P) (AllByRecursion P) (read v) _ (h v k) (λ o p. give_yields (AllByRecursion P) (option_to_list o) (one_or_none P o p)))

pub kept_yields : {C E A B : Type 0} (P : B → Type 0) (read : A → Counting C E (Option B)) → ((v : A) → Yields (IfThere P) (read v)) → (vs : List A) → Yields (AllByRecursion P) (kept read vs)
kept_yields P read h vs = kept_of_yields (λ v. Unit {0}) P read (λ v k. h v) vs (all_trivial vs)

pub or_fail_is : {E A : Type 0} (e : E) (o : Option A) (x : A) → or_fail e o ≡ Ok x → o ≡ Some x
or_fail_is e None x h = absurd cc
or_fail_is e (Some y) x h = cc
