-- What holds of each member holds of what is read of those that are looked up.
use Rattle.std.proofs.Common.{◌≡◌, ℕ, List, Ok}
use Rattle.topojson_meaning.proofs.Names.{AllByRecursion, given, need_part, Yields, pure_then, lookup_fault, need, need_as, Reader}
use Rattle.json_value.specs.Members as members_by

pub needed : {V : Type 0} (name : List ℕ) (ms : List (List ℕ × V)) (v : V) → need name ms ≡ Ok v → members_by.need name ms ≡ Ok v
unfolding need
needed name ms v e = given lookup_fault (members_by.need name ms) v e

-- what is read of the member of this name
pub need_as_yields : {V B : Type 0} (Q : V → Type 0) (P : B → Type 0) (name : List ℕ) (read : V → Reader B) (ms : List (List ℕ × V)) → ((v : V) → Q v → Yields P (read v)) → AllByRecursion (λ m. Q m.1) ms → Yields P (need_as name read ms)
need_as_yields Q P name read ms f h = pure_then P (need name ms) read (λ v e. f v (need_part Q name ms v (needed name ms v e) h))
