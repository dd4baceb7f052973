-- Where lines and rings stand that are dropped.
use Rattle.std.specs.Prelude.{List, ◌++◌, map}
use Rattle.geometry.specs.declared.address.Address.{Address}
use Rattle.geometry.specs.declared.address.Cause.{Cause}
use Rattle.geometry.specs.declared.address.Dropped.{Dropped}
use Rattle.geometry.specs.Paths.{Placed}

-- what is dropped inside of what stands at this address
abbrev pub dropped_at : Address → List (Placed Cause) → List Dropped
dropped_at a os = map (λ o. record { address = record { layer = a.layer; feature = a.feature; path = a.path ++ o.path }; cause = o.part }) os
