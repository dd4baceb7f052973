-- The features and objects that are written are read back.
use Rattle.std.proofs.Common.{◌≡◌, ℕ, ◌<◌, true, false, List, [], ◌∷◌, ◌++◌, length, Option, Some, None, Ok, refl, sym, ap, subst, arith}
use Rattle.std.specs.Prelude.{codes, ◌^◌, bytes_eq}
use Rattle.topojson_meaning.proofs.Names.{AllByRecursion, map_some, Point, option_lines_and_rings, Json, Id, TopoShape, IsPlace, IsArc, IsFeature, is_full_option, option_places, is_single_option, TopoFeature, Transform, identifier, identifier_in, members_if, members_in, feature, feature_element, part_name, is_collection, type_in, type_of, object_type, named, find, need, typed_shape, GeometryType}
use Rattle.json_value.specs.declared.json.Json.TheVariants as j
use Rattle.geojson_types.specs.declared.id.Id.TheVariants as id
use Rattle.topojson_types.specs.Values.{Members, Geometrical, id_value, id_members, properties_members, typed, cell_value, geometrical, geometrical_option, feature_value}
use Rattle.topojson_meaning.proofs.ArcsBack.{object_members}
use Rattle.topojson_meaning.proofs.ShapesBack.{Parts, named_type, shape_parts, typed_back}
use Rattle.topojson_meaning.proofs.Steps.{Gives, pure_gives}
use Rattle.topojson_meaning.proofs.ValidKept.{IsLineOrRing}

-- ---- members

-- the members of a feature whose shape is made of these
abbrev pub feature_members : Option Id → Option Members → Json → Members → Members
feature_members i ps t parts = (codes "type", t) ∷ (id_members i ++ (properties_members ps ++ parts))

-- what the four look-ups in the members of a feature find: its parts have another name than those of all features
pub record Found (i : Option Id) (ps : Option Members) (t : Json) (parts : Members) : Type 0 where
  pub type : need (codes "type") (feature_members i ps t parts) ≡ Ok t
  pub id : find (codes "id") (feature_members i ps t parts) ≡ Ok (map_some id_value i)
  pub properties : find (codes "properties") (feature_members i ps t parts) ≡ Ok (map_some j.Object ps)
  pub others : (name : List ℕ) → bytes_eq (codes "type") name ≡ false → bytes_eq (codes "id") name ≡ false → bytes_eq (codes "properties") name ≡ false
      → need name (feature_members i ps t parts) ≡ need name parts

-- they are no members that all features have
abbrev AreParts : Members → Type 0
AreParts parts = (named (codes "type") parts ≡ []) × (named (codes "id") parts ≡ []) × (named (codes "properties") parts ≡ [])

found : (i : Option Id) (ps : Option Members) (t : Json) (parts : Members) → AreParts parts → Found i ps t parts
unfolding need named
found i ps t parts h = grind (arith, i, ps)

-- ---- identifiers and properties

id_back : (i : Option Id) → identifier (map_some id_value i) ≡ Ok i
id_back None = refl
id_back (Some (id.Text t)) = ap identifier_in (j.outs-Text t)
id_back (Some (id.Number n)) = ap identifier_in (j.outs-Number n)

properties_back : (ps : Option Members) → members_if (map_some j.Object ps) ≡ Ok ps
properties_back None = refl
properties_back (Some ms) = ap members_in (j.outs-Object ms)

-- ---- features

-- the member that a shape is made of has another name than those of all features
no_parts : (type : GeometryType) (v : Json) → AreParts ((part_name type, v) ∷ [])
unfolding named
no_parts type v = grind (arith, type)

-- a feature with this identifier, these properties and a shape that is written so is read back, by its type
pub record Shaped (transform : Option Transform) (arcs : List (List Point)) (i : Option Id) (ps : Option Members) (x : Option TopoShape) (o : Geometrical) : Type 0 where
  pub type : Option GeometryType
  pub is : object_type (feature_members i ps o.type o.parts) ≡ Ok type
  pub reads : Gives (feature transform arcs type (feature_members i ps o.type o.parts)) (record { id = i; properties = ps; shape = x })
  pub single : is_single_option x ≡ true → is_collection type ≡ false

module _ (transform : Option Transform) (arcs : List (List Point)) (long : AllByRecursion (IsArc transform) arcs) (few : length arcs < 2 ^ 63) (i : Option Id) (ps : Option Members) where
  feature_reads : (type : Option GeometryType) (ms : Members) (x : Option TopoShape) → find (codes "id") ms ≡ Ok (map_some id_value i) → find (codes "properties") ms ≡ Ok (map_some j.Object ps)
      → Gives (typed_shape transform arcs type ms) x → Gives (feature transform arcs type ms) (record { id = i; properties = ps; shape = x })
  unfolding feature
  feature_reads type ms x e f h c = rw (e, id_back i, f, properties_back ps, h c) refl

  null_shaped : Shaped transform arcs i ps None (geometrical_option (cell_value transform) None)
  unfolding object_type type_of typed_shape named
  null_shaped =
      let found : Found i ps j.Null [] = found i ps j.Null [] (refl, refl, refl) in
      let ms : Members = feature_members i ps j.Null [] in
      record {
        type = None;
        is = rw found.type (ap type_in j.outs-Null);
        reads = feature_reads None ms None found.id found.properties (λ c. refl);
        single = λ _. refl;
      }

  some_shaped : (s : TopoShape) → Parts transform arcs s → Shaped transform arcs i ps (Some s) (geometrical (cell_value transform) s)
  unfolding need named
  some_shaped s p =
      let parts : Members = (part_name p.type, p.value) ∷ [] in
      let t : Json = j.Text p.name in
      let ms : Members = feature_members i ps t parts in
      let found : Found i ps t parts = found i ps t parts (no_parts p.type p.value) in
      let at : Shaped transform arcs i ps (Some s) (typed p.name (part_name p.type) p.value) = record {
        type = Some p.type;
        is = named_type ms p.name p.type found.type p.known;
        reads = feature_reads (Some p.type) ms (Some s) found.id found.properties (typed_back transform arcs long few p.type ms p.value
            (Some s) (grind (arith, p.type, found, no_parts)) p.reads);
        single = p.single;
      } in
      subst (Shaped transform arcs i ps (Some s)) (sym p.is) at

-- no list of its shape is empty but a collection's, its cells may stand there, and its lines and rings are sound
abbrev pub FineFeature : Option Transform → List (List Point) → TopoFeature → Type 0
FineFeature transform arcs f = IsFeature transform f × AllByRecursion (IsLineOrRing arcs) (option_lines_and_rings f.shape)

module _ (transform : Option Transform) (arcs : List (List Point)) (long : AllByRecursion (IsArc transform) arcs) (few : length arcs < 2 ^ 63) where
  pub shaped : (i : Option Id) (ps : Option Members) (x : Option TopoShape) → is_full_option x ≡ true → AllByRecursion (IsPlace transform) (option_places x) → AllByRecursion (IsLineOrRing arcs) (option_lines_and_rings x)
      → Shaped transform arcs i ps x (geometrical_option (cell_value transform) x)
  shaped i ps None h k m = null_shaped transform arcs long few i ps
  shaped i ps (Some s) h k m = some_shaped transform arcs long few i ps s (shape_parts transform arcs long few s (h, k, m))

  pub feature_back : (f : TopoFeature) → FineFeature transform arcs f → Gives (feature_element transform arcs (feature_value (cell_value transform) f)) f
  unfolding feature_element
  feature_back f h =
      let s = shaped f.id f.properties f.shape h.0.0 h.0.1 h.1 in
      let o : Geometrical = geometrical_option (cell_value transform) f.shape in
      let ms : Members = feature_members f.id f.properties o.type o.parts in
      pure_gives _ _ ms f (object_members ms) (pure_gives (object_type ms) (λ t. feature transform arcs t ms) s.type f s.is s.reads)
