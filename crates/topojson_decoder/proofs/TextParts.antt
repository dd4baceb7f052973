-- Whole texts of topologies.
use Rattle.std.proofs.Common.{◌≡◌, Ok, Err}
use Rattle.json_value.specs.declared.json.Json.{Json}
use Rattle.geojson_types.specs.declared.counts.Counts.{Counts}
use Rattle.geojson_types.specs.Counting.{no_counts}
use Rattle.topojson_types.specs.Topologies.{Contents}
use Rattle.topojson_meaning.specs.declared.fault.TopoFault.{TopoFault}
use Rattle.topojson_meaning.specs.Topologies.{topology, value_contents}

pub stands_for : (v : Json) (t : Contents) (c : Counts) → value_contents v no_counts ≡ Ok (t, c) → topology v ≡ Ok (t, c)
unfolding topology
stands_for v t c h = h

pub stands_for_none : (v : Json) (e : TopoFault) → value_contents v no_counts ≡ Err e → topology v ≡ Err e
unfolding topology
stands_for_none v e h = h

pub parts_stand : (v : Json) (t u : Contents) (c : Counts) → u ≡ t → topology v ≡ Ok (t, c) → topology v ≡ Ok (u, c)
parts_stand v t u c same h = rw same h
