-- Objects of which the shape of each feature is replaced, and what holds of them, feature by feature.
use Rattle.std.proofs.Common.{◌≡◌, ℕ, List, [], ◌∷◌, map, Option, None, Some, refl, sym, ap, subst, ◌∙◌}
use Rattle.build_meaning.proofs.Names.{fun_ext, map-append, map-map, AllByRecursion, all_append, all_left, all_right, all_map, all_weaker, map_agree, joined, map_some, unless_empty, then_some, Point, prune, Refs, TopoShape, object_features, TopoFeature, TopoObject, One, Many, parts_all}

-- ---- lists made of lists

-- what holds of the parts of each element holds of the parts of what is made of each
pub over : {A B L M : Type 0} (X : L → Type 0) (Y : M → Type 0) (f : A → List L) (g : B → List M) (h : A → B) → ((a : A) → AllByRecursion X (f a) → AllByRecursion Y (g (h a)))
    → (xs : List A) → AllByRecursion X (joined (map f xs)) → AllByRecursion Y (joined (map g (map h xs)))
over X Y f g h step [] k = tt
over X Y f g h step (x ∷ xs) k =
    all_append Y (g (h x)) (joined (map g (map h xs))) (step x (all_left X (f x) (joined (map f xs)) k)) (over X Y f g h step xs (all_right X (f x) (joined (map f xs)) k))

-- where the parts of each element say that the same is made of it
pub alike : {A B L : Type 0} (X : L → Type 0) (f : A → List L) (one two : A → B) → ((a : A) → AllByRecursion X (f a) → one a ≡ two a) → (xs : List A)
    → AllByRecursion X (joined (map f xs)) → map one xs ≡ map two xs
alike X f one two each xs k = map_agree one two xs (all_weaker (λ a. AllByRecursion X (f a)) (λ a. one a ≡ two a) each xs (parts_all X f xs k))

-- the parts of what is made of each element are made of its parts
pub made_parts : {A B L M : Type 0} (f : A → List L) (g : B → List M) (h : A → B) (k : L → M) → ((a : A) → g (h a) ≡ map k (f a)) → (xs : List A)
    → joined (map g (map h xs)) ≡ map k (joined (map f xs))
made_parts f g h k each [] = refl
made_parts f g h k each (x ∷ xs) = rw (each x, made_parts f g h k each xs) (sym (map-append k (f x) (joined (map f xs))))

-- ---- what is said of a shape that may be null

abbrev pub if_some : {B T : Type 0} → T → (B → T) → Option B → T
if_some d f None = d
if_some d f (Some b) = f b

-- it is the same where it is so of each shape that is made
pub same_made : {A B T : Type 0} (d : T) (f : B → T) (make : A → B) → ((a : A) → f (make a) ≡ d) → (o : Option A) → if_some d f (map_some make o) ≡ d
same_made d f make e None = refl
same_made d f make e (Some a) = e a

pub same_listed : {A B T : Type 0} (d : T) (f : B → T) (make : List A → B) → ((xs : List A) → f (make xs) ≡ d) → (xs : List A) → if_some d f (unless_empty make xs) ≡ d
same_listed d f make e [] = refl
same_listed d f make e (x ∷ xs) = e (x ∷ xs)

-- ---- objects

abbrev pub Objects : Type 0
Objects = List (List ℕ × TopoObject)

-- the features of all of them
abbrev pub features_of : Objects → List TopoFeature
features_of os = joined (map (λ o. object_features o.1) os)

abbrev pub with_shape : TopoFeature → Option TopoShape → TopoFeature
with_shape t s = record { id = t.id; properties = t.properties; shape = s }

-- without the lines and rings that are left out
abbrev pub pruned_shape : (Point → Point) → Refs → Option TopoShape → Option TopoShape
pruned_shape place kept s = then_some (prune place kept) s

abbrev pub feature_with : (Option TopoShape → Option TopoShape) → TopoFeature → TopoFeature
feature_with h t = with_shape t (h t.shape)

abbrev pub object_with : (Option TopoShape → Option TopoShape) → TopoObject → TopoObject
object_with h (One t) = One (feature_with h t)
object_with h (Many ts) = Many (map (feature_with h) ts)

-- the object under its name
abbrev pub at_name : (TopoObject → TopoObject) → List ℕ × TopoObject → List ℕ × TopoObject
at_name k o = (o.0, k o.1)

abbrev pub objects_with : (Option TopoShape → Option TopoShape) → Objects → Objects
objects_with h os = map (at_name (object_with h)) os

-- ---- names and features

pub names_stay : (h : Option TopoShape → Option TopoShape) (os : Objects) → map (λ o. o.0) (objects_with h os) ≡ map (λ o. o.0) os
names_stay h os = map-map (λ (o : List ℕ × TopoObject). o.0) (at_name (object_with h)) os

pub object_features_with : (h : Option TopoShape → Option TopoShape) (o : TopoObject) → object_features (object_with h o) ≡ map (feature_with h) (object_features o)
object_features_with h (One t) = refl
object_features_with h (Many ts) = refl

pub features_with : (h : Option TopoShape → Option TopoShape) (os : Objects) → features_of (objects_with h os) ≡ map (feature_with h) (features_of os)
features_with h os =
    made_parts (λ (o : List ℕ × TopoObject). object_features o.1) (λ (o : List ℕ × TopoObject). object_features o.1) (at_name (object_with h)) (feature_with h) (λ o. object_features_with h o.1) os

-- a property that each feature keeps
pub features_hold : (X : TopoFeature → Type 0) (h : Option TopoShape → Option TopoShape) → ((t : TopoFeature) → X t → X (feature_with h t)) → (os : Objects)
    → AllByRecursion X (features_of os) → AllByRecursion X (features_of (objects_with h os))
features_hold X h stays os k =
    subst (AllByRecursion X) (sym (features_with h os)) (all_map X (feature_with h) (features_of os) (all_weaker X (λ t. X (feature_with h t)) stays (features_of os) k))

-- ---- what holds of the parts of shapes, as their lines and rings or their places

module _ {L M : Type 0} (X : L → Type 0) (Y : M → Type 0) (f : Option TopoShape → List L) (g : Option TopoShape → List M) (h : Option TopoShape → Option TopoShape)
    (step : (s : Option TopoShape) → AllByRecursion X (f s) → AllByRecursion Y (g (h s))) where
  abbrev before : TopoFeature → List L
  before t = f t.shape

  abbrev after : TopoFeature → List M
  after t = g t.shape

  features_over : (ts : List TopoFeature) → AllByRecursion X (joined (map before ts)) → AllByRecursion Y (joined (map after (map (feature_with h) ts)))
  features_over ts k = over X Y before after (feature_with h) (λ t. step t.shape) ts k

  object_over : (o : TopoObject) → AllByRecursion X (joined (map before (object_features o))) → AllByRecursion Y (joined (map after (object_features (object_with h o))))
  object_over (One t) k = features_over (t ∷ []) k
  object_over (Many ts) k = features_over ts k

  pub objects_over : (os : Objects) → AllByRecursion X (joined (map (λ o. joined (map (λ t. f t.shape) (object_features o.1))) os))
      → AllByRecursion Y (joined (map (λ o. joined (map (λ t. g t.shape) (object_features o.1))) (objects_with h os)))
  objects_over os k =
      over X Y (λ (o : List ℕ × TopoObject). joined (map before (object_features o.1))) (λ (o : List ℕ × TopoObject). joined (map after (object_features o.1))) (at_name (object_with h)) (λ o. object_over o.1) os k

-- ---- the same shapes

-- where the parts of each shape say that it is replaced by the same
module _ {L : Type 0} (X : L → Type 0) (f : Option TopoShape → List L) (one two : Option TopoShape → Option TopoShape) (each : (s : Option TopoShape) → AllByRecursion X (f s) → one s ≡ two s) where
  abbrev parts : TopoFeature → List L
  parts t = f t.shape

  feature_alike : (t : TopoFeature) → AllByRecursion X (parts t) → feature_with one t ≡ feature_with two t
  feature_alike t k = ap (with_shape t) (each t.shape k)

  object_alike : (o : TopoObject) → AllByRecursion X (joined (map parts (object_features o))) → object_with one o ≡ object_with two o
  object_alike (One t) k = ap One (feature_alike t (all_left X (parts t) [] k))
  object_alike (Many ts) k = ap Many (alike X parts (feature_with one) (feature_with two) feature_alike ts k)

  pub objects_alike : (os : Objects) → AllByRecursion X (joined (map (λ o. joined (map (λ t. f t.shape) (object_features o.1))) os)) → objects_with one os ≡ objects_with two os
  objects_alike os k =
      alike X (λ (o : List ℕ × TopoObject). joined (map parts (object_features o.1))) (at_name (object_with one)) (at_name (object_with two)) (λ o k. ap (λ x. (o.0, x)) (object_alike o.1 k)) os k

pub objects_same : (one two : Option TopoShape → Option TopoShape) → ((s : Option TopoShape) → one s ≡ two s) → (os : Objects) → objects_with one os ≡ objects_with two os
objects_same one two each os = ap (λ h. objects_with h os) (fun_ext each)

-- replaced twice
pub objects_twice : (after before : Option TopoShape → Option TopoShape) (os : Objects) → objects_with after (objects_with before os) ≡ objects_with (λ s. after (before s)) os
objects_twice after before os =
    map-map (at_name (object_with after)) (at_name (object_with before)) os ∙ ap (λ (k : TopoObject → TopoObject). map (at_name k) os) (fun_ext each)
  where
    each : (o : TopoObject) → object_with after (object_with before o) ≡ object_with (λ s. after (before s)) o
    each (One t) = refl
    each (Many ts) = ap Many (map-map (feature_with after) (feature_with before) ts)
