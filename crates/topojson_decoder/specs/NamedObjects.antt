-- The objects of a topology by name that were read so far (TopoJSON 1.0, section 2.1.5).
use Rattle.std.specs.Prelude.{◌≡◌, ℕ, List, [], ◌∷◌, ◌++◌, Option, Some, None, Ok, Err, map}
use Rattle.std.specs.Option.{option_copied}
use Rattle.json_value.specs.declared.json.Json.{Json}
use Rattle.json_value.specs.Members.{Members}
use Rattle.geojson_types.specs.declared.counts.Counts.{Counts}
use Rattle.topojson_types.specs.declared.object.TopoObject.{TopoObject}
use Rattle.topojson_meaning.specs.declared.fault.TopoFault.{TopoFault}
use Rattle.topojson_meaning.specs.Objects as objects
use Rattle.topojson_meaning.specs.Reader.{Reader, ◌>>=◌, give, each}
use Rattle.topojson_decoder.specs.Kept.{features_of, held_objects, if_counted, making, of_named}
use Rattle.topojson_decoder.specs.declared.geometry_parts.Start.{Start}
use Rattle.topojson_decoder.specs.declared.named_objects.KeptObjects.{KeptObjects}
use Rattle.topojson_decoder.specs.declared.named_objects.NamedObjects.{NamedObjects}

-- what a value is read as, and what a member is, by its name
abbrev pub object : Start → Json → Reader TopoObject
object start v = objects.object (option_copied start.transform) start.arcs.now v

abbrev pub named_object : Start → List ℕ × Json → Reader (List ℕ × TopoObject)
named_object start m = do
  o ← object start m.1
  give (m.0, o)

-- These are the objects of the members before one of this name, which has this fault. Names may be repeated.
pub record FailsAfter (start : Start) (ms : Members) (os : List (List ℕ × TopoObject)) (failed : List ℕ × TopoFault) : Type 0 where
  pub before : Members
  pub value : Json
  pub after : Members
  pub mid : Counts
  pub are : ms ≡ before ++ (failed.0, value) ∷ after
  pub read : each (named_object start) before start.counts ≡ Ok (os, mid)
  pub fails : object start value mid ≡ Err failed.1

-- these are the objects of the members before one that has a fault, or the objects of all of the members
abbrev pub AreRead : Start → Members → List (List ℕ × TopoObject) → Counts → Option (List ℕ × TopoFault) → Type 0
AreRead start ms os counts None = each (named_object start) ms start.counts ≡ Ok (os, counts)
AreRead start ms os counts (Some failed) = FailsAfter start ms os failed

-- these are what is kept of such objects, and how many features these have, where that is kept
pub record AreObjects (start : Start) (d : ℕ) (ms : Members) (occurrence : NamedObjects) : Type 0 where
  pub whole : List (List ℕ × TopoObject)
  pub kept : occurrence.list.items ≡ map (of_named start.keeping) whole
  pub counted : features_of start.keeping whole ≡ if_counted start.keeping occurrence.features.items
  pub read : AreRead start ms whole occurrence.counts occurrence.failed

-- what is kept of the objects by name with these members
abbrev pub kept_objects_after : Start → Members → Reader KeptObjects
kept_objects_after start ms = making (held_objects start.keeping) (objects.objects_after (option_copied start.transform) start.arcs.now [] ms)
