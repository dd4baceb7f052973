-- The texts of geometry objects with identifiers and properties, in parts.
use Rattle.std.proofs.Common.{◌≡◌, ℕ, List, ◌++◌, ap, ◌∙◌, append_assoc, Option, Some}
use Rattle.std.specs.Prelude.{codes}
use Rattle.std.proofs.lemmas.List.{append-nil}
use Rattle.json_value.specs.declared.json.Json.{Json}
use Rattle.json_value.specs.declared.json.Json.TheVariants as j
use Rattle.json_value.specs.Text.{json_text, escaped_byte}
use Rattle.geometry.specs.Points.{Point}
use Rattle.geojson_types.specs.declared.id.Id.{Id}
use Rattle.topojson_types.specs.declared.feature.TopoFeature.{TopoFeature}
use Rattle.topojson_types.specs.Values.{Members, Geometrical, geometrical_option, id_value, id_members, properties_members, feature_with, feature_value}
use Rattle.topojson_writer.specs.Texts.{type_text, members_text}
use Rattle.topojson_writer.proofs.GeometryObjects.{member-alone, members-append, members-none, object-text, type-null}

-- ---- identifier and properties

pub id-text : (i : Id) → members_text (id_members (Some i)) ≡ codes ",\"id\":" ++ json_text (id_value i)
unfolding escaped_byte
id-text i = member-alone (codes "id") (id_value i)

pub properties-text : (ms : Members) → members_text (properties_members (Some ms)) ≡ codes ",\"properties\":" ++ json_text (j.Object ms)
unfolding escaped_byte
properties-text ms = member-alone (codes "properties") (j.Object ms)

-- what is there or not
pub ruleset parts = (id-text, properties-text, members-none, type-null, append-nil, append_assoc)

-- ---- a geometry object with both

three : (a b c closing : List ℕ) → (a ++ (b ++ c)) ++ closing ≡ a ++ (b ++ (c ++ closing))
three a b c closing = simp append_assoc

pub feature-text : (i : Option Id) (ms : Option Members) (o : Geometrical) → json_text (feature_with i ms o)
    ≡ type_text o ++ (members_text (id_members i) ++ (members_text (properties_members ms) ++ (members_text o.parts ++ codes "}")))
unfolding type_text
feature-text i ms o =
    object-text (record { type = o.type; parts = id_members i ++ (properties_members ms ++ o.parts) })
    ∙ ap (λ (text : List ℕ). type_text o ++ (text ++ codes "}")) (members-append (id_members i) (properties_members ms ++ o.parts))
    ∙ ap (λ (text : List ℕ). type_text o ++ ((members_text (id_members i) ++ text) ++ codes "}")) (members-append (properties_members ms) o.parts)
    ∙ ap (λ (text : List ℕ). type_text o ++ text) (three (members_text (id_members i)) (members_text (properties_members ms)) (members_text o.parts) (codes "}"))

-- that of a topology
pub featured : (cell : Point → Json) (f : TopoFeature) → json_text (feature_value cell f)
    ≡ type_text (geometrical_option cell f.shape) ++ (members_text (id_members f.id) ++ (members_text (properties_members f.properties) ++ (members_text (geometrical_option cell f.shape).parts ++ codes "}")))
featured cell f = feature-text f.id f.properties (geometrical_option cell f.shape)

pub ruleset features = (featured, append_assoc)
