-- What is kept of what is read: all of it, or of each feature its geometry alone, or of each object only how many features it has, and then
-- of each arc its ends.
use Rattle.std.specs.Prelude.{ℕ, List, [], Option, Some, None, Result, Ok, Err, length, map}
use Rattle.json_value.specs.declared.json.Json.{Json}
use Rattle.json_value.specs.Members.{Members}
use Rattle.geometry.specs.Points.{Point}
use Rattle.topojson_types.specs.Topologies.{Contents, TopoShape, object_features}
use Rattle.topojson_types.specs.Validity.{IsTopology}
use Rattle.topojson_types.specs.declared.feature.TopoFeature.{TopoFeature}
use Rattle.topojson_types.specs.declared.object.TopoObject.{TopoObject}
use Rattle.topojson_types.specs.declared.object.TopoObject.TheVariants.{One, Many}
use Rattle.topojson_types.specs.declared.transform.Transform.{Transform}
use Rattle.topojson_meaning.specs.declared.fault.TopoFault.{TopoFault}
use Rattle.topojson_meaning.specs.Arcs.{arc_list}
use Rattle.topojson_meaning.specs.Features.{feature_element}
use Rattle.topojson_meaning.specs.Objects as objects
use Rattle.topojson_meaning.specs.Reader.{Reader, ◌>>=◌, each, give}
use Rattle.topojson_meaning.specs.Topologies as topologies
use Rattle.topojson_decoder.specs.ArcEnds.{all_positions, ends}
use Rattle.topojson_decoder.specs.declared.arc_ends.KeptArcs.{KeptArcs}
use Rattle.topojson_decoder.specs.declared.collected_features.KeptFeatures.{KeptFeatures}
use Rattle.topojson_decoder.specs.declared.keeping.Keeping.{Keeping}
use Rattle.topojson_decoder.specs.declared.keeping.Keeping.TheVariants.{Whole, Shapes, Counted}
use Rattle.topojson_decoder.specs.declared.named_objects.KeptObjects.{KeptObjects}
use Rattle.topojson_decoder.specs.declared.object_parts.KeptObject.{KeptObject}
use Rattle.topojson_decoder.specs.declared.topologies.Parts.{Parts}

-- ---- what is kept

abbrev pub of_some : {A : Type 0} → Keeping → A → Option A
of_some (Whole t) x = Some x
of_some Shapes x = None
of_some Counted x = None

-- of the identifier or the properties of a feature
abbrev pub of_option : {A : Type 0} → Keeping → Option A → Option A
of_option keeping None = None
of_option keeping (Some x) = of_some keeping x

-- of its geometry
abbrev pub of_shape : Keeping → Option TopoShape → Option TopoShape
of_shape (Whole t) s = s
of_shape Shapes s = s
of_shape Counted s = None

-- of what a part is read as, where it has no fault
abbrev pub of_read : {A : Type 0} → Keeping → Result (Option A) TopoFault → Result (Option A) TopoFault
of_read keeping (Ok x) = Ok (of_option keeping x)
of_read keeping (Err e) = Err e

-- of a feature
abbrev pub of_feature : Keeping → TopoFeature → TopoFeature
of_feature keeping f = record { id = of_option keeping f.id; properties = of_option keeping f.properties; shape = of_shape keeping f.shape }

-- of the list of the features of a collection
abbrev pub listed : Keeping → List TopoFeature → List TopoFeature
listed (Whole t) fs = fs
listed Shapes fs = fs
listed Counted fs = []

-- of the features of a collection, and how many these are
abbrev pub of_features : Keeping → List TopoFeature → List TopoFeature
of_features keeping fs = listed keeping (map (of_feature keeping) fs)

abbrev pub held_features : Keeping → List TopoFeature → KeptFeatures
held_features keeping fs = record { list = of_features keeping fs; count = length fs }

-- of an object, and of one with its name
abbrev pub of_object : Keeping → TopoObject → TopoObject
of_object keeping (One f) = One (of_feature keeping f)
of_object keeping (Many fs) = Many (of_features keeping fs)

abbrev pub of_named : Keeping → List ℕ × TopoObject → List ℕ × TopoObject
of_named keeping o = (o.0, of_object keeping o.1)

-- how many features an object has, which is kept beside it
abbrev pub features_in : TopoObject → ℕ
features_in o = length (object_features o)

abbrev pub held_object : Keeping → TopoObject → KeptObject
held_object keeping o = record { object = of_object keeping o; features = features_in o }

-- how many each of the objects has, where no features of collections are kept
abbrev pub if_counted : {A : Type 0} → Keeping → A → Option A
if_counted (Whole t) x = None
if_counted Shapes x = None
if_counted Counted x = Some x

abbrev pub features_of : Keeping → List (List ℕ × TopoObject) → Option (List ℕ)
features_of keeping os = if_counted keeping (map (λ o. features_in o.1) os)

abbrev pub held_objects : Keeping → List (List ℕ × TopoObject) → KeptObjects
held_objects keeping os = record { list = map (of_named keeping) os; features = features_of keeping os }

-- of arcs: of each its ends, where not all of it, and then how many positions they have
abbrev pub of_arcs : Keeping → List (List Point) → List (List Point)
of_arcs (Whole t) arcs = arcs
of_arcs Shapes arcs = arcs
of_arcs Counted arcs = map ends arcs

abbrev pub positions_of : Keeping → List (List Point) → Option ℕ
positions_of keeping arcs = if_counted keeping (all_positions arcs)

abbrev pub held_arcs : Keeping → List (List Point) → KeptArcs
held_arcs keeping arcs = record { list = of_arcs keeping arcs; positions = positions_of keeping arcs }

-- of a topology
abbrev pub of_contents : Keeping → Contents → Parts
of_contents keeping t = record {
  objects = map (of_named keeping) t.objects;
  arcs = of_arcs keeping t.arcs;
  transform = t.transform;
  positions = positions_of keeping t.arcs;
  features = features_of keeping t.objects;
}

-- the topology of these parts, where all of its arcs is kept
abbrev pub parts_contents : Parts → Contents
parts_contents p = record { objects = p.objects; arcs = p.arcs; transform = p.transform }

-- a valid topology stays valid where of each feature its geometry alone is kept
abbrev pub ShapesStayValid : Type 0
ShapesStayValid = (t : Contents) → IsTopology t → IsTopology (parts_contents (of_contents Shapes t))

-- ---- readers

-- this of what is read
abbrev pub making : {A B : Type 0} → (A → B) → Reader A → Reader B
making f read = do
  x ← read
  give (f x)

-- what is kept of a member of a collection, of all members of one, and of the features that a value is
abbrev pub kept_feature : Keeping → Option Transform → List (List Point) → Json → Reader TopoFeature
kept_feature keeping transform arcs v = making (of_feature keeping) (feature_element transform arcs v)

abbrev pub kept_elements : Keeping → Option Transform → List (List Point) → List Json → Reader KeptFeatures
kept_elements keeping transform arcs vs = making (held_features keeping) (each (feature_element transform arcs) vs)

abbrev pub kept_features : Keeping → Option Transform → List (List Point) → Json → Reader KeptFeatures
kept_features keeping transform arcs v = making (held_features keeping) (objects.features transform arcs v)

-- of an object, and of all objects by name
abbrev pub kept_object : Keeping → Option Transform → List (List Point) → Json → Reader KeptObject
kept_object keeping transform arcs v = making (held_object keeping) (objects.object transform arcs v)

abbrev pub kept_objects : Keeping → Option Transform → List (List Point) → Json → Reader KeptObjects
kept_objects keeping transform arcs v = making (held_objects keeping) (objects.objects transform arcs v)

-- of all arcs
abbrev pub kept_arc_list : Keeping → Option Transform → Json → Reader KeptArcs
kept_arc_list keeping transform v = making (held_arcs keeping) (arc_list transform v)

-- of the topology with these members, and of the one that a value stands for
abbrev pub kept_contents : Keeping → Members → Reader Parts
kept_contents keeping ms = making (of_contents keeping) (topologies.contents ms)

abbrev pub kept_value_contents : Keeping → Json → Reader Parts
kept_value_contents keeping v = making (of_contents keeping) (topologies.value_contents v)
