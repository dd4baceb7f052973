use Rattle.std.proofs.Common.{ℕ, List}
use Rattle.topojson_types.specs.declared.object.TopoObject.{TopoObject}
use Rattle.topojson_types.specs.Topologies.{object_features}
use Rattle.topojson_types.specs.Validity.{features_places}
use Rattle.topojson_types.proofs.Boxes.{Left}
use Rattle.topojson_types.proofs.bounding.with_objects.Given as goal

abbrev pub invariant-objects : goal.invariant-objects
invariant-objects l = Left (λ (o : List ℕ × TopoObject). features_places (object_features o.1)) l.objects l.object-index l.fn.bounds l.all
