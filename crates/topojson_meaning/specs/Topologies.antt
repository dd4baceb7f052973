-- The topology that a JSON value stands for (TopoJSON 1.0, section 2.1), with its counts, or the first fault on the way through its
-- `type`, `transform`, `arcs` and `objects`.
use Rattle.std.specs.Prelude.{ℕ, List, Option, Result, codes, bytes_eq, if◌then◌else◌}
use Rattle.json_value.specs.declared.json.Json.{Json}
use Rattle.json_value.specs.Kinds.{object_of, text_of}
use Rattle.geojson_types.specs.declared.counts.Counts.{Counts}
use Rattle.geojson_types.specs.Counting.{no_counts}
use Rattle.topojson_types.specs.declared.transform.Transform.{Transform}
use Rattle.topojson_types.specs.Topologies.{Contents}
use Rattle.topojson_meaning.specs.declared.fault.TopoFault.{TopoFault}
use Rattle.topojson_meaning.specs.declared.fault.TopoFault.TheVariants.{NotTopology, WrongKind}
use Rattle.topojson_meaning.specs.Arcs.{arc_list}
use Rattle.topojson_meaning.specs.Members.{Members, find, need, need_as}
use Rattle.topojson_meaning.specs.Objects.{objects}
use Rattle.topojson_meaning.specs.Reader.{Reader, ◌>>=◌, give, fail, pure, or_fail}
use Rattle.topojson_meaning.specs.Transforms.{transform_if}

-- the name of the type must be that of a topology
abbrev pub topology_type : List ℕ → Reader (Unit {0})
topology_type name = if bytes_eq name (codes "Topology") then give tt else fail NotTopology

-- the topology with this transform, of the arcs and the objects among these members
abbrev pub contents_on : Option Transform → Members → Reader Contents
contents_on transform ms = do
  arcs ← need_as (codes "arcs") (arc_list transform) ms
  os ← need_as (codes "objects") (objects transform arcs) ms
  give (record { objects = os; arcs = arcs; transform = transform })

-- the topology with these members, after its type
abbrev pub contents_after : Members → Reader Contents
contents_after ms = do
  r ← pure (find (codes "transform") ms)
  transform ← transform_if r
  contents_on transform ms

-- the topology with these members
unfoldable pub contents : Members → Reader Contents
contents ms = do
  t ← pure (need (codes "type") ms)
  name ← pure (or_fail WrongKind (text_of t))
  _ ← topology_type name
  contents_after ms

-- the topology of a value
unfoldable pub value_contents : Json → Reader Contents
value_contents v = do
  ms ← pure (or_fail NotTopology (object_of v))
  contents ms

-- the topology of a value beside what was counted, from nothing on
unfoldable pub topology : Json → Result (Contents × Counts) TopoFault
topology v = value_contents v no_counts
