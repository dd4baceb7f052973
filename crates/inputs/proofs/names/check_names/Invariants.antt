use Rattle.std.proofs.Common.{◌≡◌, take, drop, map}
use Rattle.std.specs.List.{AllByRecursion}
use Rattle.std.specs.Prelude.{IsUtf8}
use Rattle.inputs.specs.Names.{name_fault, name_fault_after, Knows}
use Rattle.inputs.proofs.names.check_names.Given as goal

abbrev pub invariant-layers : goal.invariant-layers
invariant-layers g l =
    (name_fault_after (map (λ s. s.0) (take l.layer l.sources)) (map (λ s. s.0) (drop l.layer l.sources)) ≡ name_fault (map (λ s. s.0) l.sources))
    × AllByRecursion (λ s. IsUtf8 s.0) (take l.layer l.sources)
    × Knows l.met (map (λ s. s.0) (take l.layer l.sources))
