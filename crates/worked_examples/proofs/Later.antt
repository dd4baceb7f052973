-- The files of a page, one after the other.
use Rattle.std.proofs.Common.{◌≡◌, ℕ, List, [], ◌∷◌, ◌++◌, Option, None, Some, refl, arith}
use Rattle.worked_examples.specs.Held.{entry_held, held, or_else}
use Rattle.worked_examples.specs.declared.memory_files.Entry.{Entry}

or_else_twice : {A : Type 0} (a b c : Option A) → or_else (or_else a b) c ≡ or_else a (or_else b c)
or_else_twice (Some x) b c = refl
or_else_twice None b c = refl

-- a file that comes last goes before all others
pub held_later : (es : List Entry) (e : Entry) (path : List ℕ) → held (es ++ e ∷ []) path ≡ or_else (entry_held e path) (held es path)
held_later [] e path = grind arith
held_later (f ∷ es) e path = rw (held_later es e path) (or_else_twice (entry_held e path) (held es path) (entry_held f path))
