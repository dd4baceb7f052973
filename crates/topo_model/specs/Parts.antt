-- The parts of a topology.
use Rattle.std.specs.Prelude.{ℕ, List, Option}
use Rattle.geometry.specs.Points.{Point}
use Rattle.topojson_types.specs.declared.object.TopoObject.{TopoObject}
use Rattle.topojson_types.specs.declared.transform.Transform.{Transform}
use Rattle.topojson_types.specs.Topologies.{Contents}

-- the contents of a topology of these objects and arcs, with this transform, if there is one
abbrev pub contents : List (List ℕ × TopoObject) → List (List Point) → Option Transform → Contents
contents os arcs transform = record { objects = os; arcs = arcs; transform = transform }
