-- How deep shapes nest, at each kind.
use Rattle.std.proofs.Common.{List}
use Rattle.geojson_meaning.proofs.Names.{AtKinds, Point, nesting, nesting_step}
use Rattle.geojson_types.proofs.Nestings.{nesting_at}

pub nest_at : AtKinds (nesting {P = Point} {L = List Point}) nesting_step
nest_at = nesting_at Point (List Point)
