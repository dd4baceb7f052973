-- What calls answer with of what is left.
use Rattle.std.specs.Prelude.{◌≡◌, ℕ, List}
use Rattle.build_meaning.specs.Left.{Left}
use Rattle.byte_ends.specs.Ends.{saturated}
use Rattle.geometry.specs.declared.address.Dropped.{Dropped}
use Rattle.topojson_types.specs.Topologies.{Contents}

-- the topology, the lines and rings that are dropped and a count of positions are those of what is left
pub record IsLeft (left : Left) (topology : Contents) (dropped : List Dropped) (removed_count : ℕ) : Type 0 where
  pub topology_is : topology ≡ left.contents
  pub dropped_are : dropped ≡ left.dropped
  pub count_is : removed_count ≡ saturated left.removed_count
