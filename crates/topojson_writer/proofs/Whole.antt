-- The texts of collections and topologies in parts.
use Rattle.std.proofs.Common.{◌≡◌, ℕ, List, [], ◌∷◌, ◌++◌, ap, ◌∙◌, append_assoc, Option, Some}
use Rattle.std.specs.Prelude.{codes}
use Rattle.json_value.specs.declared.json.Json.{Json}
use Rattle.json_value.specs.declared.json.Json.TheVariants as j
use Rattle.json_value.specs.Text.{json_text, escaped_byte}
use Rattle.json_value.proofs.Texts.{text-text}
use Rattle.topojson_types.specs.declared.transform.Transform.{Transform}
use Rattle.topojson_types.specs.Bounds.{Corners, bounds}
use Rattle.topojson_types.specs.Topologies.{Contents}
use Rattle.topojson_types.specs.Values.{Members, cell_value, members_of_transform, bounds_value, members_of_bounds, objects_value, arcs_value, topology_value}
use Rattle.topojson_writer.specs.Texts.{type_text, members_text, contents_members}
use Rattle.topojson_writer.proofs.GeometryObjects.{member-alone, members-append, object-text}

-- ---- a collection

pub collected : (features : Json) → json_text (j.Object ((codes "type", j.Text (codes "GeometryCollection")) ∷ ((codes "geometries", features) ∷ [])))
    ≡ codes "{\"type\":\"GeometryCollection\",\"geometries\":" ++ (json_text features ++ codes "}")
unfolding type_text escaped_byte
collected features =
    object-text (record { type = j.Text (codes "GeometryCollection"); parts = (codes "geometries", features) ∷ [] })
    ∙ ap (λ (text : List ℕ). type_text (record { type = j.Text (codes "GeometryCollection"); parts = [] }) ++ (text ++ codes "}")) (member-alone (codes "geometries") features)
    ∙ ap (λ (text : List ℕ). (codes "{\"type\":" ++ text) ++ (codes ",\"geometries\":" ++ (json_text features ++ codes "}"))) (text-text (codes "GeometryCollection"))

-- ---- a topology

pub bounds-text : (b : Corners) → members_text (members_of_bounds (Some b)) ≡ codes ",\"bbox\":" ++ json_text (bounds_value b)
unfolding escaped_byte
bounds-text b = member-alone (codes "bbox") (bounds_value b)

pub contents-text : (objects arcs : Json) → members_text ((codes "objects", objects) ∷ ((codes "arcs", arcs) ∷ []))
    ≡ (codes ",\"objects\":" ++ json_text objects) ++ (codes ",\"arcs\":" ++ json_text arcs)
unfolding escaped_byte
contents-text objects arcs =
    members-append ((codes "objects", objects) ∷ []) ((codes "arcs", arcs) ∷ [])
    ∙ ap (λ (text : List ℕ). text ++ members_text ((codes "arcs", arcs) ∷ [])) (member-alone (codes "objects") objects)
    ∙ ap (λ (text : List ℕ). (codes ",\"objects\":" ++ json_text objects) ++ text) (member-alone (codes "arcs") arcs)

-- those of a topology with this transform
pub contents-with : (t : Contents) (transform : Option Transform) → t.transform ≡ transform
    → members_text (contents_members t) ≡ members_text ((codes "objects", objects_value (cell_value transform) t.objects) ∷ ((codes "arcs", arcs_value transform t.arcs) ∷ []))
contents-with t transform e =
    ap (λ (x : Option Transform). members_text ((codes "objects", objects_value (cell_value x) t.objects) ∷ ((codes "arcs", arcs_value x t.arcs) ∷ []))) e

topology-type : type_text (record { type = j.Text (codes "Topology"); parts = [] }) ≡ codes "{\"type\":\"Topology\""
unfolding type_text escaped_byte
topology-type = ap (λ (text : List ℕ). codes "{\"type\":" ++ text) (text-text (codes "Topology"))

pub topology-text : (t : Contents) → json_text (topology_value t)
    ≡ codes "{\"type\":\"Topology\"" ++ (members_text (members_of_transform t.transform) ++ (members_text (members_of_bounds (bounds t)) ++ (members_text (contents_members t) ++ codes "}")))
unfolding topology_value type_text
topology-text t =
    let type : List ℕ = type_text (record { type = j.Text (codes "Topology"); parts = [] }) in
    let first : Members = members_of_transform t.transform in
    let second : Members = members_of_bounds (bounds t) in
    let text : List ℕ = members_text (contents_members t) in
    object-text (record { type = j.Text (codes "Topology"); parts = first ++ (second ++ contents_members t) })
    ∙ ap (λ (text : List ℕ). type ++ (text ++ codes "}")) (members-append first (second ++ contents_members t) ∙ ap (λ (text : List ℕ). members_text first ++ text) (members-append second (contents_members t)))
    ∙ ap (λ (text : List ℕ). type ++ text) (regrouped (members_text first) (members_text second) text (codes "}"))
    ∙ ap (λ (start : List ℕ). start ++ (members_text first ++ (members_text second ++ (text ++ codes "}")))) topology-type
  where
    regrouped : (a b c d : List ℕ) → (a ++ (b ++ c)) ++ d ≡ a ++ (b ++ (c ++ d))
    regrouped a b c d = simp append_assoc

pub ruleset topologies = (topology-text, append_assoc)
