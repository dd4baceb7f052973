-- Readers of which one is stricter: what it gives the other gives too, with the same counts, and it counts no rounding.
use Rattle.std.proofs.Common.{◌≡◌, ℕ, Bool, true, false, cond, List, [], ◌∷◌, Option, Some, None, Result, Ok, sym, ap, ◌∙◌, arith}
use Rattle.std.specs.Prelude.{option_to_list}
use Rattle.geojson_meaning.proofs.Names.{AllByRecursion, given, taken, second_is, Counts, Counting, Reader, ◌>>=◌, give, fail, pure, within, gather, each, kept, if_some}

-- what the strict reader gives the lax one gives, and the strict one counts no rounding
abbrev pub Stricter : {E A : Type 0} → Counting E A → Counting E A → Type 0
Stricter {A = A} strict lax = (c d : Counts) (x : A) → strict c ≡ Ok (x, d) → (lax c ≡ Ok (x, d)) × (d.rounded ≡ c.rounded)

pub then_stricter : {E A B : Type 0} (m n : Counting E A) (f g : A → Counting E B) → Stricter m n → ((x : A) → Stricter (f x) (g x)) → Stricter (m >>= f) (n >>= g)
then_stricter m n f g first second c d y e = grind (arith, taken)

pub give_stricter : {E A : Type 0} (x : A) → Stricter (give {E = E} x) (give x)
give_stricter x c d y e = (e, sym (ap (λ (k : Counts). k.rounded) (second_is e)))

-- a fault is stricter than anything
pub fail_stricter : {E A : Type 0} (f : E) (lax : Counting E A) → Stricter (fail f) lax
fail_stricter f lax c d y e = absurd cc

pub pure_stricter : {E A : Type 0} (r : Result A E) → Stricter (pure r) (pure r)
pure_stricter r = grind (arith, give_stricter, fail_stricter)

-- after one step that counts nothing, stricter readers make a stricter reader
pub after_stricter : {E A B : Type 0} (r : Result A E) (f g : A → Counting E B) → ((x : A) → Stricter (f x) (g x)) → Stricter (pure r >>= f) (pure r >>= g)
after_stricter r f g = then_stricter (pure r) (pure r) f g (pure_stricter r)

-- what counts, but no rounding
pub count_stricter : {E A : Type 0} (x : A) (count : Counts → Counts) → ((c : Counts) → (count c).rounded ≡ c.rounded) → Stricter {E = E} (λ c. Ok (x, count c)) (λ c. Ok (x, count c))
count_stricter x count kept c d y e = (e, sym (ap (λ (k : Counts). k.rounded) (second_is e)) ∙ kept c)

pub if_stricter : {E A : Type 0} (b : Bool) (m n k l : Counting E A) → Stricter m k → Stricter n l → Stricter (cond b m n) (cond b k l)
if_stricter true m n k l h i = h
if_stricter false m n k l h i = i

pub within_stricter : {A : Type 0} (n : Option ℕ) (m l : Reader A) → Stricter m l → Stricter (within n m) (within n l)
within_stricter n m l h c d x e = grind (arith, given)

pub if_some_stricter : {A B : Type 0} (m n : A → Reader (Option B)) → ((x : A) → Stricter (m x) (n x)) → (o : Option A) → Stricter (if_some m o) (if_some n o)
if_some_stricter m n h None = give_stricter None
if_some_stricter m n h (Some x) = h x

-- ---- lists

pub gather_stricter : {A B : Type 0} (m n : A → Reader (List B)) → ((v : A) → Stricter (m v) (n v)) → (vs : List A) → Stricter (gather m vs) (gather n vs)
unfolding gather
gather_stricter m n h [] = give_stricter []
gather_stricter m n h (v ∷ vs) = search (then_stricter, give_stricter, gather_stricter m n h vs)

pub each_stricter : {A B : Type 0} (m n : A → Reader B) → ((v : A) → Stricter (m v) (n v)) → (vs : List A) → Stricter (each m vs) (each n vs)
each_stricter m n h = gather_stricter _ _ (λ v. then_stricter (m v) (n v) _ _ (h v) (λ x. give_stricter (x ∷ [])))

pub kept_stricter : {A B : Type 0} (m n : A → Reader (Option B)) → ((v : A) → Stricter (m v) (n v)) → (vs : List A) → Stricter (kept m vs) (kept n vs)
kept_stricter m n h = gather_stricter _ _ (λ v. then_stricter (m v) (n v) _ _ (h v) (λ x. give_stricter (option_to_list x)))

-- where each element of a list is a Q
pub kept_stricter_of : {A B : Type 0} (Q : A → Type 0) (m n : A → Reader (Option B)) → ((v : A) → Q v → Stricter (m v) (n v)) → (vs : List A) → AllByRecursion Q vs → Stricter (kept m vs) (kept n vs)
unfolding gather
kept_stricter_of Q m n h [] k = give_stricter []
kept_stricter_of Q m n h (v ∷ vs) k = search (then_stricter, give_stricter, kept_stricter_of Q m n h vs k.1)
