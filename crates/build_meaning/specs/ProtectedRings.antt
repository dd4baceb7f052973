-- What holds of the protected rings of a valid topology.
use Rattle.std.specs.Prelude.{◌≡◌, ℤ, true, List, length, map}
use Rattle.std.specs.List.{AllByRecursion}
use Rattle.geometry.specs.Joins.{AreInRange, Meet, arc_at}
use Rattle.geometry.specs.Points.{Point}
use Rattle.guarded_meaning.specs.Guards.{is_long}
use Rattle.topojson_types.specs.Topologies.{Contents}
use Rattle.topojson_types.specs.Validity.{IsTopology}
use Rattle.build_meaning.specs.ArcPositions.{arc_positions}
use Rattle.build_meaning.specs.Protected.{greatest_ring, protected_rings}

-- rings of these arcs that can be asked to stay: each index names an arc, the arcs meet, and there are four positions or more
pub record CanStay (arcs : List (List Point)) (rings : List (List ℤ)) : Type 0 where
  pub in_range : AllByRecursion (AreInRange (length arcs)) rings
  pub meet : AllByRecursion (λ refs. Meet (map (arc_at arcs) refs)) rings
  pub long : AllByRecursion (λ refs. is_long arcs refs ≡ true) rings

abbrev pub ProtectedRingsCanStay : Type 0
ProtectedRingsCanStay = (y : Contents) → IsTopology y → CanStay (arc_positions y) (protected_rings (greatest_ring (arc_positions y)) y.objects)
