use Rattle.std.proofs.Common.{◌≡◌, drop}
use Rattle.topojson_types.specs.Decoding.{of_name}
use Rattle.topojson_types.proofs.objects.object.Given as goal

abbrev pub invariant-loop-key : goal.invariant-loop-key
invariant-loop-key l = of_name l.name (drop l.key-index l.objects) ≡ of_name l.name l.objects
