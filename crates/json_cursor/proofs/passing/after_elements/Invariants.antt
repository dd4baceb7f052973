use Rattle.std.proofs.Common.{◌≡◌, ◌-◌, ◌++◌, List}
use Rattle.std.specs.Str.{is_utf8}
use Rattle.json_value.specs.declared.json.Json.{Json}
use Rattle.json_value.specs.Reading.{elements_at}
use Rattle.json_cursor.proofs.Steps.{made}
use Rattle.json_cursor.proofs.passing.after_elements.Given as goal

-- some elements were passed, and how more of them go on
abbrev pub invariant-elements : goal.invariant-elements
invariant-elements l = (vs : List Json) × (elements_at is_utf8 l.depth_left l.turns l.bytes ≡ made (λ xs. vs ++ xs) (elements_at is_utf8 l.depth_left (l.turns - l.counter) l.rest))
