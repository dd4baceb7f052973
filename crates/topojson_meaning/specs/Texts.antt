-- That the texts of a topology are UTF-8 (RFC 8259, section 8.1), and that its JSON text is so then; that what is read of a value
-- has no other numbers and texts than the value.
use Rattle.std.specs.Prelude.{◌≡◌, ℕ, List, Ok, IsUtf8}
use Rattle.std.specs.List.{AllByRecursion}
use Rattle.json_value.specs.declared.json.Json.{Json}
use Rattle.json_value.specs.Numbers.{HasNumbers}
use Rattle.json_value.specs.Text.{json_text}
use Rattle.json_value.specs.WellFormed.{HasTexts}
use Rattle.geojson_types.specs.declared.counts.Counts.{Counts}
use Rattle.geojson_types.specs.Texts.{IdHasTexts, PropertiesHaveTexts}
use Rattle.topojson_types.specs.declared.feature.TopoFeature.{TopoFeature}
use Rattle.topojson_types.specs.declared.object.TopoObject.{TopoObject}
use Rattle.topojson_types.specs.Topologies.{Contents}
use Rattle.topojson_types.specs.Validity.{IsTransformed}
use Rattle.topojson_types.specs.Values.{topology_value}
use Rattle.topojson_meaning.specs.Bounds.{objects_features}
use Rattle.topojson_meaning.specs.Laws.{FeaturesHaveNumbers}
use Rattle.topojson_meaning.specs.Topologies.{topology}

-- the texts of its identifier and properties are UTF-8
abbrev pub FeatureHasTexts : TopoFeature → Type 0
FeatureHasTexts f = IdHasTexts f.id × PropertiesHaveTexts f.properties

-- the names of its objects are, and the texts of their features
pub record ContentsHaveTexts (t : Contents) : Type 0 where
  pub names : AllByRecursion (λ (o : List ℕ × TopoObject). IsUtf8 o.0) t.objects
  pub features : AllByRecursion FeatureHasTexts (objects_features t.objects)

-- the text of its value is UTF-8, however many arcs it has
abbrev pub TextIsUtf8 : Type 0
TextIsUtf8 = (t : Contents) → IsTransformed t.transform → FeaturesHaveNumbers t → ContentsHaveTexts t → IsUtf8 (json_text (topology_value t))

-- what stands for a number in a topology that is read is one, if that is so in the value
abbrev pub NumbersStay : Type 0
NumbersStay = (v : Json) (t : Contents) (c : Counts) → HasNumbers v → topology v ≡ Ok (t, c) → FeaturesHaveNumbers t

-- the names, identifiers and properties of a topology that is read have UTF-8 texts, if that is so in the value
abbrev pub TextsStay : Type 0
TextsStay = (v : Json) (t : Contents) (c : Counts) → HasTexts v → topology v ≡ Ok (t, c) → ContentsHaveTexts t
