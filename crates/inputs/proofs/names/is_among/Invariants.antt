use Rattle.std.proofs.Common.{◌≡◌, drop, map}
use Rattle.inputs.specs.Names.{is_among}
use Rattle.inputs.proofs.names.is_among.Given as goal

abbrev pub invariant-loop-source : goal.invariant-loop-source
invariant-loop-source g l = is_among l.name (map (λ s. s.0) (drop l.source-index l.sources)) ≡ is_among l.name (map (λ s. s.0) l.sources)
