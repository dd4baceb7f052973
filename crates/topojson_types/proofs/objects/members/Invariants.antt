use Rattle.std.proofs.Common.{◌≡◌, map, take}
use Rattle.topojson_types.specs.Decoding.{decoded_feature, placed_arcs}
use Rattle.topojson_types.specs.Transforms.{place}
use Rattle.topojson_types.proofs.objects.members.Given as goal

abbrev pub invariant-members : goal.invariant-members
invariant-members l = l.features.items ≡ map (decoded_feature (place l.topology.transform) (placed_arcs l.topology.transform l.topology.arcs)) (take l.member-index l.members)
