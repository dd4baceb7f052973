-- The text of a transform, and of an arc on a grid, in parts.
use Rattle.std.proofs.Common.{◌≡◌, ℕ, ◌+◌, ◌<◌, ◌≤◌, Bool, false, List, [], ◌∷◌, ◌++◌, length, get_or, drop, map, ap, ◌∙◌, append_assoc, Some}
use Rattle.std.specs.Prelude.{codes}
use Rattle.std.proofs.lemmas.List.{at_drop_all}
use Rattle.owned_values.specs.Commas.{comma_unless, with_commas}
use Rattle.json_value.specs.declared.json.Json.{Json}
use Rattle.json_value.specs.declared.json.Json.TheVariants as j
use Rattle.json_value.specs.Text.{json_text, name_text, escaped_byte}
use Rattle.json_value.proofs.Texts.{text-number, text-object}
use Rattle.json_writer.proofs.Lists.{list_left, pair-text}
use Rattle.geometry.specs.Points.{Point}
use Rattle.topojson_types.specs.declared.transform.Transform.{Transform}
use Rattle.topojson_types.specs.Differences.{difference, deltas_from}
use Rattle.topojson_types.specs.Values.{pair_value, transform_object, members_of_transform}
use Rattle.topojson_types.proofs.SumsBack.{next}
use Rattle.topojson_writer.specs.Texts.{members_text}
use Rattle.topojson_writer.proofs.GeometryObjects.{member-alone}

-- ---- transforms

-- an object of two members
two-members : (m n : List ℕ) (v w : Json) → json_text (j.Object ((m, v) ∷ ((n, w) ∷ [])))
    ≡ codes "{" ++ (name_text m ++ (json_text v ++ (codes "," ++ (name_text n ++ (json_text w ++ codes "}")))))
two-members m n v w = text-object ((m, v) ∷ ((n, w) ∷ [])) ∙ in_parts (name_text m) (json_text v) (name_text n) (json_text w)
  where
    in_parts : (a b c d : List ℕ) → codes "{" ++ (((a ++ b) ++ (codes "," ++ ((c ++ d) ++ []))) ++ codes "}") ≡ codes "{" ++ (a ++ (b ++ (codes "," ++ (c ++ (d ++ codes "}")))))
    in_parts a b c d = simp append_assoc

pub transform_member-text : (t : Transform) → members_text (members_of_transform (Some t))
    ≡ codes ",\"transform\":{\"scale\":" ++ (json_text (pair_value t.scale) ++ (codes ",\"translate\":" ++ (json_text (pair_value t.translate) ++ codes "}")))
unfolding escaped_byte
transform_member-text t = member-alone (codes "transform") (transform_object t) ∙ ap (λ (text : List ℕ). codes ",\"transform\":" ++ text) (two-members (codes "scale") (codes "translate") (pair_value t.scale) (pair_value t.translate))

pub ruleset transforms = (pair-text, text-number, append_assoc)

-- ---- arcs on a grid, in front of a cell

module _ (text_of : Point → List ℕ) (closing : List ℕ) (is_first : Bool) (cells : List Point) (i : ℕ) (before : Point) where
  regrouped : (comma text following : List ℕ) → (comma ++ (text ++ following)) ++ closing ≡ comma ++ (text ++ (following ++ closing))
  regrouped comma text following = simp append_assoc

  pub cell-goes : (c : Point) → i < length cells → c ≡ get_or cells i c → list_left text_of closing is_first (deltas_from before (drop i cells))
      ≡ comma_unless is_first ++ (text_of (difference before c) ++ list_left text_of closing false (deltas_from c (drop (i + 1) cells)))
  cell-goes c within is =
      ap (list_left text_of closing is_first) (next cells before i c within is)
      ∙ regrouped (comma_unless is_first) (text_of (difference before c)) (with_commas false (map text_of (deltas_from c (drop (i + 1) cells))))

  pub cells-end : length cells ≤ i → list_left text_of closing is_first (deltas_from before (drop i cells)) ≡ closing
  unfolding deltas_from
  cells-end past = ap (list_left text_of closing is_first) (at_drop_all (deltas_from before) cells i past)
