-- What outputs and sources of a run were, which is noted where a run is done with them.
use Rattle.std.specs.Prelude.{ℕ, Bool, List, Option, None, Some}
use Rattle.std.specs.Option.{option_map}
use Rattle.byte_ends.specs.Ends.{Drained, Fed}
use Rattle.inputs.specs.Sources.{Sources}

-- what the device of an output was when it was kept or taken away: the bytes that it took, where they are known, how many calls of it
-- failed, and whether all that it took was passed on
pub record Ended : Type 0 where
  pub taken : Option (List ℕ)
  pub failures : ℕ
  pub flushed : Bool

-- the device of this sink
abbrev pub ended_of : Drained → Ended
ended_of output = record { taken = output.taken; failures = output.failures; flushed = output.flushed }

-- what an output was when it was begun, and its device when it was kept or taken away
pub record Output : Type 0 where
  pub fresh : Drained
  pub ended : Option Ended

-- what is noted of a run: the output that was begun last, the one before it, the source of a topology that the run was done with last, and
-- the sources of layers
pub record Noted : Type 0 where
  pub last : Option Output
  pub earlier : Option Output
  pub source : Option Fed
  pub sources : Option Sources

abbrev pub nothing_noted : Noted
nothing_noted = record { last = None; earlier = None; source = None; sources = None }

-- one more output is begun
abbrev pub with_fresh : Drained → Noted → Noted
with_fresh fresh n = record n { last = Some (record { fresh = fresh; ended = None }); earlier = n.last }

abbrev pub ends_as : Ended → Output → Output
ends_as ended o = record o { ended = Some ended }

-- the output that was begun last is kept or taken away
abbrev pub with_ended : Ended → Noted → Noted
with_ended ended n = record n { last = option_map (ends_as ended) n.last }

-- the run is done with the source of a topology
abbrev pub with_source : Fed → Noted → Noted
with_source source n = record n { source = Some source }

-- the run is done with the sources of layers
abbrev pub with_sources : Sources → Noted → Noted
with_sources sources n = record n { sources = Some sources }
