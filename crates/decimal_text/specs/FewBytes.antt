-- The bytes that a `FewBytes` holds.
use Rattle.std.specs.Prelude.{ℕ, ◌≤◌, List, take}
use Rattle.decimal_text.specs.declared.few_bytes.Held.{Held}
use Rattle.decimal_text.specs.declared.few_bytes.Held.TheVariants.{Few, Many}

-- the front of the room, or all of the memory
abbrev pub bytes_in : Held → List ℕ
bytes_in (Few len room) = take len room
bytes_in (Many many) = many.value.items

-- the front is within the room
abbrev pub IsWithin : Held → Type 0
IsWithin (Few len room) = len ≤ 22
IsWithin (Many many) = Unit {0}
