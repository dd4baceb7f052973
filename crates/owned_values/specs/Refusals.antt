-- What a call answers where memory is refused.
use Rattle.owned_values.specs.declared.memory.Memory.{Memory}

-- the one value of the error `Memory`
abbrev pub memory : Memory
memory = record {}
