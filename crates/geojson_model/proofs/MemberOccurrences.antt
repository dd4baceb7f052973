-- Members that are looked up, seen one after another.
use Rattle.std.proofs.Common.{◌≡◌, ℕ, List, [], ◌∷◌, ◌++◌, Some, Result, Ok, Err, Bor}
use Rattle.json_value.specs.declared.json.Json.{Json}
use Rattle.json_value.specs.Reading.{◌>>=◌}
use Rattle.json_cursor.specs.Arrays.{prefix_value}
use Rattle.json_reading.specs.declared.fault.Fault.{Fault}
use Rattle.json_reading.proofs.Passed.{first_fails}
use Rattle.json_reading.specs.Passes.{Passes}
use Rattle.json_cursor.specs.Members.{GoesOn, Made, Members, prefix_member}
pub use Rattle.json_cursor.proofs.Occurrences.{judged, judged_read, member_found, not_other, passes, sees}
use Rattle.geojson_model.specs.Members.{Sees}

-- what goes on with a member, as soon as its value was found
pub member_sees : {S : Type 0} (Holds : Made S) (d : ℕ) (bytes name value : List ℕ) (before after : S) → prefix_member d bytes ≡ (prefix_value d value >>= λ x. Some ((name, x.0), x.1)) → (result : Result (Bor (List ℕ)) Fault)
    → Sees Holds d name value before after result → GoesOn Holds d before after bytes result
member_sees Holds d bytes name value before after named (Ok rest) s = record { member = (name, s.0); prefix = member_found d bytes name value rest.now s.0 named s.1; holds = s.2 }
member_sees Holds d bytes name value before after named (Err fault) h = rw named (first_fails (prefix_value d value) _ fault h)

-- a value that is passed over
pub passed_over : {S : Type 0} (Holds : Made S) (d : ℕ) (name value : List ℕ) (before after : S) → ((v : Json) (ms : Members) → Holds ms before → Holds (ms ++ (name, v) ∷ []) after) → (answer : Result (Bor (List ℕ)) Fault) → Passes answer (prefix_value d value)
    → Sees Holds d name value before after answer
passed_over Holds d name value before after law (Ok rest) h = (h.0, h.1, λ ms k. law h.0 ms k)
passed_over Holds d name value before after law (Err fault) h = h
