-- The neighbours of places, as they are kept.
use Rattle.std.specs.Prelude.{ℕ, List, map}
use Rattle.guarded_reduction.specs.declared.places.neighbours.Neighbours.{Neighbours}

-- the place before each
abbrev pub befores_in : List Neighbours → List ℕ
befores_in ns = map (λ (n : Neighbours). n.before) ns

-- the place after each
abbrev pub afters_in : List Neighbours → List ℕ
afters_in ns = map (λ (n : Neighbours). n.after) ns
