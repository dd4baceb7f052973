-- What is made of values, one after another.
use Rattle.std.specs.Prelude.{ℕ, List, [], ◌∷◌, ◌++◌, Option, Result, Ok, Err, option_to_list}
use Rattle.std.specs.Borrow.{Bor}
use Rattle.json_value.specs.Readers.{Counting, ◌>>=◌, give}
use Rattle.json_cursor.specs.declared.folds.Stopped.{Stopped}
use Rattle.json_cursor.specs.declared.stop.Stop.{Stop}
use Rattle.json_cursor.specs.Answers.{Reads, Stops}

-- each value goes into what was made of those before
unfoldable pub fold : {C E V S : Type 0} → (S → V → Counting C E S) → S → List V → Counting C E S
fold take s [] = give s
fold take s (v ∷ vs) = do
  t ← take s v
  fold take t vs

-- the thing at the front goes into what was made, and this follows it; or why reading stops
abbrev pub Goes : {C E V S : Type 0} → (V → Counting C E S) → Option (V × List ℕ) → C → S → C → Result (Bor (List ℕ)) (Stop E) → Type 0
Goes take prefix old made new (Ok rest) = Reads take prefix made rest.now old new
Goes take prefix old made new (Err stop) = Stops take prefix old stop

-- the elements at the front of an array go into what was made, and this follows them; or why reading stops
abbrev pub Folds : {C E V S : Type 0} → (V → Counting C E S) → Option (V × List ℕ) → C → C → Result (S × Bor (List ℕ)) (Stopped E) → Type 0
Folds read prefix old new (Ok x) = Reads read prefix x.0 x.1.now old new
Folds read prefix old new (Err stopped) = Stops read prefix old stopped.stop

-- what is read of one more goes after what was read before
abbrev pub with_read : {C E V B : Type 0} → (V → Counting C E (List B)) → List B → V → Counting C E (List B)
with_read read xs v = do
  x ← read v
  give (xs ++ x)

-- what a reader gives, as the elements that it gives of a list
abbrev pub one : {C E V B : Type 0} → (V → Counting C E B) → V → Counting C E (List B)
one read v = do
  x ← read v
  give (x ∷ [])

-- what a reader gives that may give nothing, as the elements that it gives of a list
abbrev pub some_one : {C E V B : Type 0} → (V → Counting C E (Option B)) → V → Counting C E (List B)
some_one read v = do
  x ← read v
  give (option_to_list x)
