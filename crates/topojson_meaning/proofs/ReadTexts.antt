-- What holds of each part of a value holds of the identifiers, properties and names of the topology that is read of it: numbers stay
-- numbers, and texts UTF-8.
use Rattle.std.proofs.Common.{◌≡◌, ℕ, List, Option, Some, None, Ok, subst, arith}
use Rattle.std.specs.Prelude.{IsUtf8}
use Rattle.topojson_meaning.proofs.Names.{AllByRecursion, all_parts, all_weaker, Json, Json-F, out-Json, IdHasNumbers, PropertiesHaveNumbers, IdHasTexts, PropertiesHaveTexts, Id, Contents, object_features, TopoFeature, identifier_in, members_if, Members, NumbersStay, TextsStay}
use Rattle.json_value.specs.declared.json.Json.TheVariants as j
use Rattle.json_value.specs.Numbers.{HasNumbers}
use Rattle.json_value.specs.WellFormed.{HasTexts}
use Rattle.json_value.proofs.Inside.{array_numbers, object_numbers, number_inside, array_texts, object_texts, text_inside, object_inside}
use Rattle.topojson_meaning.specs.Bounds.{objects_features}
use Rattle.topojson_meaning.proofs.ValidKept.{IsShape}
use Rattle.topojson_meaning.proofs.ValidObjects.{Has, HasNamed, objects_have, Passes}
use Rattle.topojson_meaning.proofs.ValidTopologies.{IsRead, is_read}
use Rattle.topojson_meaning.proofs.ValidYields.{IfThere}

-- the identifiers and properties of its features
module _ (N : List ℕ → Type 0) (I : Option Id → Type 0) (M : Option Members → Type 0) where
  features_are : (t : Contents) → IsRead N I M t → AllByRecursion (λ f. I f.id × M f.properties) (objects_features t.objects)
  features_are t h =
      let Kept : TopoFeature → Type 0 = Has N I M t.transform t.arcs (IsShape t.transform t.arcs) in
      all_weaker Kept (λ f. I f.id × M f.properties) (λ f k. (k.0, k.1)) (objects_features t.objects)
      (all_parts Kept (λ o. object_features o.1) t.objects (objects_have N I M t.transform t.arcs t.objects h.objects.kept))

-- the members of properties are those of an object
properties_are : (X : Json → Type 0) (Y : Option Members → Type 0) → Y None → ((ms : Members) → X (j.Object ms) → Y (Some ms)) → (p : Option Json) (o : Option Members)
    → IfThere X p → members_if p ≡ Ok o → Y o
properties_are X Y none some None o h e = let k : None ≡ o = cc in subst Y k none
properties_are X Y none some (Some v) o h e = grind (arith, object_inside)

-- ---- numbers

identifier_in_numbers : (v : Json) (x : Json-F Json) (o : Option Id) → out-Json v ≡ x → HasNumbers v → identifier_in x ≡ Ok o → IdHasNumbers o
identifier_in_numbers v x o is h e = grind (arith, number_inside)

numbers_pass : Passes HasNumbers (λ n. Unit {0}) IdHasNumbers PropertiesHaveNumbers
numbers_pass = record {
  array = array_numbers;
  object = λ v ms e h. all_weaker (λ (m : List ℕ × Json). HasNumbers m.1) (λ m. Unit {0} × HasNumbers m.1) (λ m k. (tt, k)) ms (object_numbers v ms e h);
  id = (λ i o h e. grind (arith, identifier_in_numbers));
  properties = properties_are HasNumbers PropertiesHaveNumbers tt (λ ms h. h);
}

pub numbers_stay : NumbersStay
numbers_stay v t c h e = features_are (λ n. Unit {0}) IdHasNumbers PropertiesHaveNumbers t (is_read HasNumbers (λ n. Unit {0}) IdHasNumbers PropertiesHaveNumbers numbers_pass v t c h e)

-- ---- texts

identifier_in_texts : (v : Json) (x : Json-F Json) (o : Option Id) → out-Json v ≡ x → HasTexts v → identifier_in x ≡ Ok o → IdHasTexts o
identifier_in_texts v x o is h e = grind (arith, text_inside)

texts_pass : Passes HasTexts (λ n. IsUtf8 n) IdHasTexts PropertiesHaveTexts
texts_pass = record { array = array_texts; object = object_texts; id = (λ i o h e. grind (arith, identifier_in_texts)); properties = properties_are HasTexts PropertiesHaveTexts tt (λ ms h. h) }

pub texts_stay : TextsStay
texts_stay v t c h e =
    let here = is_read HasTexts (λ n. IsUtf8 n) IdHasTexts PropertiesHaveTexts texts_pass v t c h e in
    record {
      names = all_weaker (HasNamed (λ n. IsUtf8 n) IdHasTexts PropertiesHaveTexts t.transform t.arcs) (λ o. IsUtf8 o.0) (λ o k. k.0) t.objects here.objects.kept;
      features = features_are (λ n. IsUtf8 n) IdHasTexts PropertiesHaveTexts t here;
    }
