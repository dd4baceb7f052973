-- The texts of positions, features and collections in parts.
use Rattle.std.proofs.Common.{◌≡◌, ℕ, true, false, List, [], ◌∷◌, ◌++◌, map, refl, ap, sym, ◌∙◌, append_assoc, Option, Some, None}
use Rattle.std.specs.Prelude.{codes}
use Rattle.json_value.specs.declared.json.Json.TheVariants as j
use Rattle.json_value.specs.Text.{json_text, escaped_byte}
use Rattle.json_value.proofs.Texts.{text-text}
use Rattle.geojson_types.specs.declared.id.Id.{Id}
use Rattle.geojson_types.specs.Features.{Featured}
use Rattle.topojson_types.specs.Values.{id_value, id_members}
use Rattle.topojson_writer.specs.FeatureTexts.{collection_head, feature_head}
use Rattle.topojson_writer.specs.FeatureValues.{Member, type_member, geometry_value, properties_value, feature_value, collection_value}
use Rattle.topojson_writer.specs.Texts.{members_text}
use Rattle.topojson_writer.proofs.Features.{id-text as id-member}
use Rattle.topojson_writer.proofs.Objects.{members_left, object-text, member-text, quoted-type, object-of_two}

-- ---- a feature

-- the identifier, in front of the other members
id-text : (id : Option Id) (ms : List Member) → members_left false (id_members id ++ ms) ≡ members_text (id_members id) ++ members_left false ms
unfolding escaped_byte members_text
id-text None ms = refl
id-text (Some id) ms =
    member-text false (codes "id") (codes "\"id\"") (id_value id) (json_text (id_value id)) ms refl refl
    ∙ ap (λ (text : List ℕ). text ++ members_left false ms) (sym (id-member id))

in_a_row : (f : Featured) → json_text (feature_value f)
    ≡ codes "{\"type\":\"Feature\"" ++ (members_text (id_members f.id) ++ (codes ",\"properties\":" ++ (json_text (properties_value f.properties)
    ++ (codes ",\"geometry\":" ++ (json_text (geometry_value f.shape) ++ codes "}")))))
in_a_row f = unfold feature_value escaped_byte in
    let geometry : List Member = (codes "geometry", geometry_value f.shape) ∷ [] in
    let rest : List Member = (codes "properties", properties_value f.properties) ∷ geometry in
    object-text (type_member (codes "Feature") ∷ (id_members f.id ++ rest))
    ∙ ap (λ (text : List ℕ). codes "{" ++ text)
    (member-text true (codes "type") (codes "\"type\"") (j.Text (codes "Feature")) (codes "\"Feature\"") (id_members f.id ++ rest) quoted-type (text-text (codes "Feature")))
    ∙ ap (λ (text : List ℕ). codes "{\"type\":\"Feature\"" ++ text) (id-text f.id rest)
    ∙ ap (λ (text : List ℕ). codes "{\"type\":\"Feature\"" ++ (members_text (id_members f.id) ++ text))
    (member-text false (codes "properties") (codes "\"properties\"") (properties_value f.properties) (json_text (properties_value f.properties)) geometry refl refl)
    ∙ ap (λ (text : List ℕ). codes "{\"type\":\"Feature\"" ++ (members_text (id_members f.id) ++ (codes ",\"properties\":" ++ (json_text (properties_value f.properties) ++ text))))
    (member-text false (codes "geometry") (codes "\"geometry\"") (geometry_value f.shape) (json_text (geometry_value f.shape)) [] refl refl)

-- its head, its geometry and a brace
regrouped : (a b c d e more : List ℕ) → a ++ (b ++ (c ++ (d ++ (e ++ more)))) ≡ (a ++ (b ++ (c ++ (d ++ e)))) ++ more
regrouped a b c d e more = simp append_assoc

pub feature-text : (f : Featured) → json_text (feature_value f) ≡ feature_head f.id f.properties ++ (json_text (geometry_value f.shape) ++ codes "}")
feature-text f = in_a_row f ∙ regrouped (codes "{\"type\":\"Feature\"") (members_text (id_members f.id)) (codes ",\"properties\":") (json_text (properties_value f.properties)) (codes ",\"geometry\":") (json_text (geometry_value f.shape) ++ codes "}")

-- ---- a collection

pub collection-text : (fs : List Featured) → json_text (collection_value fs)
    ≡ collection_head ++ (json_text (j.Array (map feature_value fs)) ++ codes "}")
unfolding escaped_byte
collection-text fs = object-of_two (codes "FeatureCollection") (codes "\"FeatureCollection\"") (codes "features") (codes "\"features\"") (j.Array (map feature_value fs)) refl refl
