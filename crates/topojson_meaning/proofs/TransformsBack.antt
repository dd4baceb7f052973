-- The transform that is written is read back: its texts stay.
use Rattle.std.proofs.Common.{◌≡◌, ℕ, List, [], ◌∷◌, Option, Some, None, Ok, refl, ap}
use Rattle.std.specs.Prelude.{codes}
use Rattle.json_value.specs.declared.json.Json.TheVariants as j
use Rattle.topojson_meaning.proofs.Names.{map_some, IsTransformNumber, IsTransform, IsTransformed, Transform, named, need, limited, texts_in, texts, transform_number, transform_pair, transform_members, transform_if}
use Rattle.topojson_types.specs.Values.{pair_value, transform_object}
use Rattle.topojson_meaning.proofs.ArcsBack.{array_elements, number_is_text}
use Rattle.topojson_meaning.proofs.Steps.{Gives, pure_gives}

number_stays : (t : List ℕ) → IsTransformNumber t → transform_number t ≡ Ok t
unfolding transform_number
number_stays t h = ap (limited t) h.1

pair_stays : (p : List ℕ × List ℕ) → IsTransformNumber p.0 → IsTransformNumber p.1 → Gives (transform_pair p) p
unfolding transform_pair
pair_stays p h k c = rw (number_stays p.0 h, number_stays p.1 k) refl

texts_back : (p : List ℕ × List ℕ) → Gives (texts (pair_value p)) p
unfolding texts
texts_back p = pure_gives _ texts_in _ p (array_elements (j.Number p.0 ∷ (j.Number p.1 ∷ []))) (λ c. rw (number_is_text p.0, number_is_text p.1) refl)

transform_members_back : (t : Transform) → IsTransform t → Gives (transform_members ((codes "scale", pair_value t.scale) ∷ ((codes "translate", pair_value t.translate) ∷ []))) t
unfolding transform_members need named
transform_members_back t h c = rw (texts_back t.scale c, texts_back t.translate c, pair_stays t.scale h.0.0 h.0.1 c, pair_stays t.translate h.1.0 h.1.1 c) refl

pub transform_back : (transform : Option Transform) → IsTransformed transform → Gives (transform_if (map_some transform_object transform)) transform
unfolding transform_if
transform_back None h c = refl
transform_back (Some t) h c = rw (j.outs-Object ((codes "scale", pair_value t.scale) ∷ ((codes "translate", pair_value t.translate) ∷ [])), transform_members_back t h c) refl
