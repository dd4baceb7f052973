-- What was seen of the members of one object of a topology (TopoJSON 1.0, sections 2.1.5 and 2.2).
use Rattle.std.specs.Prelude.{ℕ, List, Option, Some, None, bytes_eq, codes, filter, not, if◌then◌else◌}
use Rattle.std.specs.Option.{option_copied}
use Rattle.json_value.specs.declared.json.Json.{Json}
use Rattle.json_value.specs.Members.{Members, named}
use Rattle.geometry.specs.Points.{Point}
use Rattle.json_cursor.specs.Held.{IsHeld}
use Rattle.topojson_types.specs.declared.object.TopoObject.{TopoObject}
use Rattle.topojson_types.specs.declared.transform.Transform.{Transform}
use Rattle.topojson_meaning.specs.GeometryTypes.{is_collection, object_type}
use Rattle.topojson_meaning.specs.Objects as objects
use Rattle.topojson_meaning.specs.Reader.{Reader, ◌>>=◌, pure}
use Rattle.topojson_decoder.specs.Features.{IsFeature}
use Rattle.topojson_decoder.specs.Kept.{held_object, kept_features, making}
use Rattle.topojson_decoder.specs.Members.{BeginsAt, IsOccurrence}
use Rattle.topojson_decoder.specs.declared.collected_features.KeptFeatures.{KeptFeatures}
use Rattle.topojson_decoder.specs.declared.geometry_parts.Start.{Start}
use Rattle.topojson_decoder.specs.declared.object_parts.Features.{Features}
use Rattle.topojson_decoder.specs.declared.object_parts.KeptObject.{KeptObject}
use Rattle.topojson_decoder.specs.declared.object_parts.ObjectParts.{ObjectParts}
use Rattle.topojson_decoder.specs.declared.object_parts.ReadFeatures.{ReadFeatures}

-- what is kept of the features that the value of `geometries` is, and of the collection with these members
abbrev pub features : Start → Json → Reader KeptFeatures
features start v = kept_features start.keeping (option_copied start.transform) start.arcs.now v

abbrev pub collection : Start → Members → Reader KeptObject
collection start ms = making (held_object start.keeping) (objects.collection (option_copied start.transform) start.arcs.now ms)

-- what the value of `geometries` was read as, if it was
abbrev pub AreRead : Start → Json → Option ReadFeatures → Type 0
AreRead start v None = Unit {0}
AreRead start v (Some read) = IsHeld (features start) start.counts read.counts v read.features

-- the value begins there, and was read so, if it was
pub record AreFeatures (start : Start) (d : ℕ) (v : Json) (x : Features) : Type 0 where
  pub prefix : BeginsAt d v x.prefix
  pub read : AreRead start v x.read

-- all but the members `geometries`
abbrev pub simple : Members → Members
simple ms = filter (λ m. not (bytes_eq m.0 (codes "geometries"))) ms

-- what was seen of these members
pub record IsObject (start : Start) (d : ℕ) (ms : Members) (occurrence : ObjectParts) : Type 0 where
  pub feature : IsFeature start d (simple ms) occurrence.feature
  pub features : IsOccurrence (AreFeatures start d) (named (codes "geometries") ms) occurrence.features

-- the object with these members, whose `type` is looked at first
abbrev pub typed_object : Option Transform → List (List Point) → Members → Reader TopoObject
typed_object transform arcs ms = do
  type ← pure (object_type ms)
  if is_collection type then objects.collection transform arcs ms else objects.single transform arcs type ms

-- what is kept of it
abbrev pub kept_typed_object : Start → Members → Reader KeptObject
kept_typed_object start ms = making (held_object start.keeping) (typed_object (option_copied start.transform) start.arcs.now ms)
