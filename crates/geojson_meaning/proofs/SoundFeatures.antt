-- What holds of each feature that is read.
use Rattle.std.proofs.Common.{◌≡◌, ℕ, ◌<◌, ◌≤◌, Bool, List, [], ◌∷◌, Option, None, Some, Ok, refl, ap, ◌∙◌, subst, arith}
use Rattle.std.specs.Prelude.{codes, bytes_eq}
use Rattle.geojson_meaning.proofs.Names.{AllByRecursion, all_weaker, Point, object_of_is, object_of-object, Yields, or_fail_is, IfThere, weaker_yields, there_weaker, then_yields, give_yields, fail_yields, pure_yields, if_yields, if_some_yields, depth, array_of, object_of, object_in, HasNumbers, HasTexts, Json, Json-F, out-Json, Shape, Featured, nesting, feature_nesting, IdHasNumbers, PropertiesHaveNumbers, FeatureHasNumbers, IdHasTexts, PropertiesHaveTexts, FeatureHasTexts, identifier_in, identifier, members_in, members_if, feature, feature_element, geometry, bare, find, type_name, fail, pure, or_fail, if_some, NotObject, UnknownType}
use Rattle.json_value.specs.declared.json.Json.TheVariants as j
use Rattle.geojson_types.specs.declared.id.Id.{Id}
use Rattle.geojson_types.specs.declared.id.Id.TheVariants as id
use Rattle.geojson_meaning.proofs.Inside.{ShallowerMember, array_shallower, object_shallower, find_part}
use Rattle.geojson_meaning.proofs.Sound.{IsSound}
use Rattle.geojson_meaning.proofs.SoundParts.{SoundIn}
use Rattle.geojson_meaning.proofs.SoundShapes.{geometry_yields}
use Rattle.json_value.proofs.Inside.{HasNumbersMember, array_numbers, object_numbers, number_inside, HasTextsMember, array_texts, object_texts, text_inside}

-- less deep than n, with numbers alone where N holds, and with texts that are UTF-8 where T does
abbrev pub IsPart : ℕ → Type 0 → Type 0 → Json → Type 0
IsPart n N T v = (depth v < n) × (N → HasNumbers v) × (T → HasTexts v)

-- the value of a member is less deep than n, with numbers and texts as of a part
abbrev pub IsPartMember : ℕ → Type 0 → Type 0 → List ℕ × Json → Type 0
IsPartMember n N T m = (depth m.1 < n) × (N → HasNumbers m.1) × (T → HasTexts m.1)

-- Its shape keeps the rules of its kind, it is no deeper than n, has numbers alone where N holds, and texts that are UTF-8 where T does.
pub record IsSoundFeature (n : ℕ) (N T : Type 0) (f : Featured) : Type 0 where
  pub shape : IfThere IsSound f.shape
  pub nests : feature_nesting f ≤ n
  pub numbers : N → FeatureHasNumbers f
  pub texts : T → FeatureHasTexts f

-- ---- parts

all_parts : {A : Type 0} (P Q R : A → Type 0) (N T : Type 0) (xs : List A) → AllByRecursion P xs → (N → AllByRecursion Q xs) → (T → AllByRecursion R xs)
    → AllByRecursion (λ x. P x × (N → Q x) × (T → R x)) xs
all_parts P Q R N T [] h k l = tt
all_parts P Q R N T (x ∷ xs) h k l = ((h.0, λ n. (k n).0, λ t. (l t).0), all_parts P Q R N T xs h.1 (λ n. (k n).1) (λ t. (l t).1))

pub array_parts : (n : ℕ) (N T : Type 0) (v : Json) (vs : List Json) → array_of v ≡ Some vs → depth v ≤ n → (N → HasNumbers v) → (T → HasTexts v) → AllByRecursion (IsPart n N T) vs
array_parts n N T v vs e le h l =
    all_parts (λ w. depth w < n) HasNumbers HasTexts N T vs (all_weaker (λ w. depth w < depth v) (λ w. depth w < n) (λ w lt. omega (arith, lt, le)) vs (array_shallower v vs e))
    (λ k. array_numbers v vs e (h k)) (λ k. array_texts v vs e (l k))

pub object_parts : (n : ℕ) (N T : Type 0) (v : Json) (ms : List (List ℕ × Json)) → object_of v ≡ Some ms → depth v ≤ n → (N → HasNumbers v) → (T → HasTexts v) → AllByRecursion (IsPartMember n N T) ms
object_parts n N T v ms e le h l =
    all_parts (ShallowerMember n) HasNumbersMember (λ m. HasTexts m.1) N T ms (all_weaker (ShallowerMember (depth v)) (ShallowerMember n) (λ m lt. omega (arith, lt, le)) ms (object_shallower v ms e))
    (λ k. object_numbers v ms e (h k)) (λ k. all_weaker HasTextsMember (λ m. HasTexts m.1) (λ m t. t.1) ms (object_texts v ms e (l k)))

-- ---- identifiers

identifier_in_numbers : (v : Json) (x : Json-F Json) (o : Option Id) → out-Json v ≡ x → HasNumbers v → identifier_in x ≡ Ok o → IdHasNumbers o
identifier_in_numbers v Json-F.Null o is h e = let k : None ≡ o = cc in subst IdHasNumbers k tt
identifier_in_numbers v (Json-F.Text t) o is h e = let k : Some (id.Text t) ≡ o = cc in subst IdHasNumbers k tt
identifier_in_numbers v (Json-F.Number t) o is h e = let k : Some (id.Number t) ≡ o = cc in subst IdHasNumbers k (number_inside v t is h)
identifier_in_numbers v x o is h e = absurd cc

identifier_numbers : (i : Option Json) (o : Option Id) → IfThere HasNumbers i → identifier i ≡ Ok o → IdHasNumbers o
identifier_numbers i o h k = grind (arith, identifier_in_numbers)

identifier_in_texts : (v : Json) (x : Json-F Json) (o : Option Id) → out-Json v ≡ x → HasTexts v → identifier_in x ≡ Ok o → IdHasTexts o
identifier_in_texts v x o is h e = grind (arith, text_inside)

identifier_texts : (i : Option Json) (o : Option Id) → IfThere HasTexts i → identifier i ≡ Ok o → IdHasTexts o
identifier_texts i o h k = grind (arith, identifier_in_texts)

-- ---- members of members

members_in_are : (v : Json) (x : Json-F Json) (o : Option (List (List ℕ × Json))) → out-Json v ≡ x → members_in x ≡ Ok o → IfThere (λ ms. v ≡ j.Object ms) o
unfolding object_of
members_in_are v Json-F.Null None is e = tt
members_in_are v (Json-F.Object ns) (Some ms) is e = let k : ns ≡ ms = cc in object_of_is v ms (ap object_in is ∙ ap (λ z. Some z) k)
members_in_are v x o is e = absurd cc

-- the members that a member gives are those of an object
members_are : (p : Option Json) (o : Option (List (List ℕ × Json))) → members_if p ≡ Ok o → IfThere (λ ms. p ≡ Some (j.Object ms)) o
members_are None None e = tt
members_are None (Some ms) e = absurd cc
members_are (Some v) o e = there_weaker (λ ms. v ≡ j.Object ms) (λ ms. Some v ≡ Some (j.Object ms)) (λ ms k. ap (λ z. Some z) k) o (members_in_are v (out-Json v) o refl e)

-- ---- features

abbrev SoundUnder : ℕ → Shape → Type 0
SoundUnder n s = IsSound s × (nesting {P = Point} {L = List Point} s < n)

properties_numbers : (o : Option (List (List ℕ × Json))) → IfThere (λ ms. HasNumbers (j.Object ms)) o → PropertiesHaveNumbers o
properties_numbers o h = grind arith

properties_texts : (o : Option (List (List ℕ × Json))) → IfThere (λ ms. HasTexts (j.Object ms)) o → PropertiesHaveTexts o
properties_texts o h = grind arith

member_parts : (n : ℕ) (N T : Type 0) (p : Option Json) (o : Option (List (List ℕ × Json))) → IfThere (IsPart n N T) p → members_if p ≡ Ok o → IfThere (λ ms. IsPart n N T (j.Object ms)) o
member_parts n N T p o h e = there_weaker (λ ms. p ≡ Some (j.Object ms)) (λ ms. IsPart n N T (j.Object ms)) (λ ms k. subst (IfThere (IsPart n N T)) k h) o (members_are p o e)

shape_under : (exact : Bool) (n : ℕ) (N T : Type 0) (o : Option (List (List ℕ × Json))) → IfThere (λ ms. IsPart n N T (j.Object ms)) o → Yields (IfThere (SoundUnder n)) (if_some (geometry exact) o)
shape_under exact n N T = if_some_yields (λ ms. IsPart n N T (j.Object ms)) (SoundUnder n) (geometry exact) (λ ms h.
    weaker_yields (IfThere (SoundIn (depth (j.Object ms)))) (IfThere (SoundUnder n)) (geometry exact ms)
    (there_weaker (SoundIn (depth (j.Object ms))) (SoundUnder n) (λ s k. (k.0, omega (arith, k.1, h.0))))
    (geometry_yields exact (depth (j.Object ms)) ms (object_shallower (j.Object ms) ms (object_of-object ms))))

made : (n : ℕ) (N T : Type 0) (i : Option Id) (ps : Option (List (List ℕ × Json))) (s : Option Shape) → 0 < n
    → (N → IdHasNumbers i) → (T → IdHasTexts i) → IfThere (λ ms. IsPart n N T (j.Object ms)) ps → IfThere (SoundUnder n) s → IsSoundFeature n N T (record { id = i; properties = ps; shape = s })
made n N T i ps s pos hi ht hp hs = grind (arith, there_weaker, properties_numbers, properties_texts)

pub feature_yields : (exact : Bool) (n : ℕ) (N T : Type 0) (ms : List (List ℕ × Json)) → 0 < n → AllByRecursion (IsPartMember n N T) ms → Yields (IsSoundFeature n N T) (feature exact ms)
unfolding feature
feature_yields exact n N T ms pos inside =
    then_yields _ (IsSoundFeature n N T) (pure (find (codes "id") ms)) _ (pure_yields (find (codes "id") ms))
    (λ i hi. then_yields _ (IsSoundFeature n N T) (pure (identifier i)) _ (pure_yields (identifier i))
    (λ id hid. then_yields _ (IsSoundFeature n N T) (pure (find (codes "properties") ms)) _ (pure_yields (find (codes "properties") ms))
    (λ p hp. then_yields _ (IsSoundFeature n N T) (pure (members_if p)) _ (pure_yields (members_if p))
    (λ ps hps. then_yields _ (IsSoundFeature n N T) (pure (find (codes "geometry") ms)) _ (pure_yields (find (codes "geometry") ms))
    (λ o ho. then_yields _ (IsSoundFeature n N T) (pure (members_if o)) _ (pure_yields (members_if o))
    (λ object hobject. then_yields (IfThere (SoundUnder n)) (IsSoundFeature n N T) (if_some (geometry exact) object) _
    (shape_under exact n N T object (member_parts n N T o object (find_part (IsPart n N T) (codes "geometry") ms o ho inside) hobject))
    (λ s hs. give_yields (IsSoundFeature n N T) (record { id = id; properties = ps; shape = s })
    (made n N T id ps s pos
    (λ k. identifier_numbers i id (there_weaker (IsPart n N T) HasNumbers (λ v h. h.1 k) i (find_part (IsPart n N T) (codes "id") ms i hi inside)) hid)
    (λ k. identifier_texts i id (there_weaker (IsPart n N T) HasTexts (λ v h. h.2 k) i (find_part (IsPart n N T) (codes "id") ms i hi inside)) hid)
    (member_parts n N T p ps (find_part (IsPart n N T) (codes "properties") ms p hp inside) hps)
    hs))))))))

-- of a value that is a part
pub feature_element_yields : (exact : Bool) (n : ℕ) (N T : Type 0) (v : Json) → IsPart n N T v → Yields (IsSoundFeature n N T) (feature_element exact v)
unfolding feature_element
feature_element_yields exact n N T v h =
    then_yields _ (IsSoundFeature n N T) (pure (or_fail NotObject (object_of v))) _ (pure_yields (or_fail NotObject (object_of v)))
    (λ ms e. then_yields _ (IsSoundFeature n N T) (pure (type_name ms)) _ (pure_yields (type_name ms))
    (λ name f. if_yields (IsSoundFeature n N T) (bytes_eq name (codes "Feature")) (feature exact ms) (fail UnknownType)
    (λ is. feature_yields exact n N T ms (omega (arith, h.0)) (object_parts n N T v ms (or_fail_is NotObject (object_of v) ms e) (omega (arith, h.0)) h.1 h.2))
    (λ is. fail_yields (IsSoundFeature n N T) UnknownType)))

pub bare_sound : (n : ℕ) (N T : Type 0) (s : Option Shape) → 0 < n → IfThere (SoundIn n) s → IsSoundFeature n N T (bare s)
bare_sound n N T s pos h = grind (arith, there_weaker)
