-- What the members of a topology give, of which is known where they stand (TopoJSON 1.0, section 2.1).
use Rattle.std.specs.Prelude.{◌≡◌, ℕ, List, [], ◌∷◌, Option, Some, Result, Ok, Err, codes}
use Rattle.std.specs.Borrow.{Bor}
use Rattle.json_value.specs.declared.json.Json.{Json}
use Rattle.json_value.specs.Kinds.{text_of}
use Rattle.json_value.specs.Members.{Members, only, there}
use Rattle.geojson_types.specs.declared.counts.Counts.{Counts}
use Rattle.topojson_types.specs.declared.transform.Transform.{Transform}
use Rattle.topojson_meaning.specs.declared.fault.TopoFault.{TopoFault}
use Rattle.topojson_meaning.specs.declared.fault.TopoFault.TheVariants as topo
use Rattle.topojson_meaning.specs.Members.{find, need, lookup_fault}
use Rattle.topojson_meaning.specs.Reader.{Reader, ◌>>=◌, pure, or_fail, with_fault}
use Rattle.topojson_meaning.specs.Topologies.{topology_type}
use Rattle.topojson_meaning.specs.Transforms.{transform_if}
use Rattle.json_cursor.specs.declared.stop.Stop.{Stop}
use Rattle.json_cursor.specs.declared.stop.Stop.TheVariants as stop
use Rattle.json_cursor.specs.Arrays.{prefix_value}

-- this is read, or the fault is the reader's, or nothing is said
abbrev pub Gives : {X B : Type 0} → (X → B) → Reader B → Counts → Counts → Result X (Stop TopoFault) → Type 0
Gives view read old new (Ok x) = read old ≡ Ok (view x, new)
Gives view read old new (Err (stop.Fault e)) = read old ≡ Err e
Gives view read old new (Err stop.NoValue) = ⊥
Gives view read old new (Err stop.Memory) = Unit {0}

-- of these values the only one begins here, or the look-up has this fault
abbrev pub NeededAt : ℕ → List Json → Result (Bor (List ℕ)) TopoFault → Type 0
NeededAt d vs (Ok at) = (v : Json) × (rest : List ℕ) × (vs ≡ v ∷ []) × (prefix_value d at.now ≡ Some (v, rest))
NeededAt d vs (Err e) = with_fault lookup_fault (there (only vs)) ≡ Err e

-- what the member `type` is read as
abbrev pub type_in : Members → Reader (Unit {0})
type_in ms = do
  t ← pure (need (codes "type") ms)
  name ← pure (or_fail topo.WrongKind (text_of t))
  topology_type name

-- what the member `transform` is read as
abbrev pub transform_in : Members → Reader (Option Transform)
transform_in ms = do
  r ← pure (find (codes "transform") ms)
  transform_if r
