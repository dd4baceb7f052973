use Rattle.std.proofs.Common.{◌≡◌, List, length}
use Rattle.geojson_types.specs.declared.counts.Counts.{Counts}
use Rattle.inputs.specs.Sources.{HaveRead, added}
use Rattle.inputs.proofs.layer_reading.read_layers.Given as goal

abbrev pub invariant-sources : goal.invariant-sources
invariant-sources g l = (counts : List Counts) × HaveRead l.exact l.initial.sources l.sources l.layers.items counts × (l.layer ≡ length l.layers.items) × (l.counts ≡ added counts)
