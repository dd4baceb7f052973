-- Readers: from what was counted so far to what is read beside what is counted after it, or to the first fault.
use Rattle.std.specs.Prelude.{List, [], ◌∷◌, ◌++◌, Option, None, Some, Result, Ok, Err, option_to_list}

-- a reader of an A that counts in a C and whose faults are of the type E
abbrev pub Counting : Type 0 → Type 0 → Type 0 → Type 0
Counting C E A = C → Result (A × C) E

-- the second reader on what the first gave, or the first one's fault
abbrev pub and_then : {C E A B : Type 0} → (A → Counting C E B) → Result (A × C) E → Result (B × C) E
and_then f (Ok x) = f x.0 x.1
and_then f (Err e) = Err e

-- one reader after another
infixl 10 ◌>>=◌
abbrev pub ◌>>=◌ : {C E A B : Type 0} → Counting C E A → (A → Counting C E B) → Counting C E B
m >>= f = λ c. and_then f (m c)

-- nothing is read, and this is given
abbrev pub give : {C E A : Type 0} → A → Counting C E A
give x = λ c. Ok (x, c)

-- this is the fault
abbrev pub fail : {C E A : Type 0} → E → Counting C E A
fail e = λ c. Err e

-- what counts nothing
abbrev pub pure : {C E A : Type 0} → Result A E → Counting C E A
pure (Ok x) = give x
pure (Err e) = fail e

-- it, or this fault where there is none
abbrev pub or_fail : {E A : Type 0} → E → Option A → Result A E
or_fail e None = Err e
or_fail e (Some x) = Ok x

-- a result whose fault is replaced by another one
abbrev pub with_fault : {E F A : Type 0} → (E → F) → Result A E → Result A F
with_fault f (Ok x) = Ok x
with_fault f (Err e) = Err (f e)

-- the parts that each gives, in order
unfoldable pub gather : {C E A B : Type 0} → (A → Counting C E (List B)) → List A → Counting C E (List B)
gather read [] = give []
gather read (v ∷ vs) = do
  x ← read v
  xs ← gather read vs
  give (x ++ xs)

-- what each gives, in order
abbrev pub each : {C E A B : Type 0} → (A → Counting C E B) → List A → Counting C E (List B)
each read = gather (λ v. do x ← read v; give (x ∷ []))

-- nothing stays nothing
abbrev pub if_some : {C E A B : Type 0} → (A → Counting C E (Option B)) → Option A → Counting C E (Option B)
if_some read None = give None
if_some read (Some x) = read x

-- what each gives, in order, without those that give nothing
abbrev pub kept : {C E A B : Type 0} → (A → Counting C E (Option B)) → List A → Counting C E (List B)
kept read = gather (λ v. do x ← read v; give (option_to_list x))
