-- Each feature that is lost counts once, since in reading order the lines and rings of a feature stand beside each other.
use Rattle.std.proofs.Common.{◌≡◌, ◌<◌, ◌+◌, ◌==◌, ◌&&◌, ℕ, suc, Bool, true, false, not, List, [], ◌∷◌, ◌++◌, ◌⊎◌, inl, inr, refl, ap, ◌∙◌, append_assoc, arith}
use Rattle.std.proofs.lemmas.Bool.{eq-eqb, ne_eqb}
use Rattle.std.specs.List.{slice_get}
use Rattle.geometry.specs.declared.address.Cause.{Cause}
use Rattle.geometry.specs.declared.address.Dropped.{Dropped}
use Rattle.geometry.specs.DropCauses.{dropped_in, dropped_of_layer, dropped_of_layers}
use Rattle.geometry.specs.Paths.{Placed}
use Rattle.topojson_types.specs.declared.object.TopoObject.{TopoObject}
use Rattle.reports.specs.Losses.{nothing_in, feature_in, one_if, ends_feature, lost_count}
use Rattle.reports.specs.LossLaws.{lost_of_feature, lost_of_layer, lost_of_layers, EachLostCountsOnce}

-- ---- the order of features

-- the feature of the first two numbers, its layer's and its own, is before that of the other two
abbrev IsBefore : ℕ → ℕ → ℕ → ℕ → Type 0
IsBefore l f m g = (l < m) ⊎ ((m ≡ l) × (f < g))

-- the first of these, if there is one, is of a later feature
abbrev BeginsLater : ℕ → ℕ → List Dropped → Type 0
BeginsLater l f [] = Unit {0}
BeginsLater l f (d ∷ ds) = IsBefore l f d.address.layer d.address.feature

before_next : (l f m g : ℕ) → IsBefore l f m g → IsBefore l f m (suc g)
before_next l f m g (inl h) = inl h
before_next l f m g (inr h) = inr (h.0, (let x = h.1 in omega (arith, x)))

features_later : (l f m g : ℕ) (oss : List (List (Placed Cause))) (rest : List Dropped) → IsBefore l f m g → BeginsLater l f rest → BeginsLater l f (dropped_of_layer m g oss ++ rest)
features_later l f m g [] rest b h = h
features_later l f m g ([] ∷ oss) rest b h = features_later l f m (suc g) oss rest (before_next l f m g b) h
features_later l f m g ((o ∷ os) ∷ oss) rest b h = b

layers_later : (l f m : ℕ) (causes : List (List (List (Placed Cause)))) → l < m → BeginsLater l f (dropped_of_layers m causes)
layers_later l f m [] h = tt
layers_later l f m (oss ∷ more) h = features_later l f m 0 oss (dropped_of_layers (suc m) more) (inl h) (layers_later l f (suc m) more (omega (arith, h)))

no_second : (b : Bool) → not (b && false) ≡ true
no_second true = refl
no_second false = refl

differ : (l f m g : ℕ) → IsBefore l f m g → not ((l == m) && (f == g)) ≡ true
differ l f m g (inl h) = ap (λ b. not (b && (f == g))) (ne_eqb l m (λ e. omega (arith, h, e)))
differ l f m g (inr h) = ap (λ b. not ((l == m) && b)) (ne_eqb f g (λ e. let x = h.1 in omega (arith, x, e))) ∙ no_second (l == m)

ends_there : (d : Dropped) (rest : List Dropped) → BeginsLater d.address.layer d.address.feature rest → ends_feature d rest ≡ true
ends_there d [] h = refl
ends_there d (e ∷ rest) h = differ d.address.layer d.address.feature e.address.layer e.address.feature h

same_feature : (l f : ℕ) → ((l == l) && (f == f)) ≡ true
same_feature l f = ap (λ b. b && (f == f)) (eq-eqb l l refl) ∙ eq-eqb f f refl

-- ---- how many are lost

module _ (objects : List (List ℕ × TopoObject)) where
  -- nothing is left of the feature of these numbers
  abbrev is_gone : ℕ → ℕ → Bool
  is_gone l f = nothing_in (feature_in (slice_get objects l) f)

  of_feature : (l f : ℕ) (os : List (Placed Cause)) (rest : List Dropped) → BeginsLater l f rest → lost_count objects (dropped_in l f os ++ rest) ≡ lost_of_feature objects l f os + lost_count objects rest
  of_feature l f [] rest h = omega arith
  of_feature l f (o ∷ []) rest h =
      ap (λ b. one_if (b && is_gone l f) + lost_count objects rest) (ends_there (record { address = record { layer = l; feature = f; path = o.path }; cause = o.part }) rest h)
  of_feature l f (o ∷ (p ∷ os)) rest h =
      let goes_on : lost_count objects (dropped_in l f (o ∷ (p ∷ os)) ++ rest) ≡ 0 + lost_count objects (dropped_in l f (p ∷ os) ++ rest) =
      ap (λ b. one_if (not b && is_gone l f) + lost_count objects (dropped_in l f (p ∷ os) ++ rest)) (same_feature l f) in
      let later = of_feature l f (p ∷ os) rest h in
      omega (arith, goes_on, later)

  of_layer : (l f : ℕ) (oss : List (List (Placed Cause))) (rest : List Dropped) → ((g : ℕ) → BeginsLater l g rest) → lost_count objects (dropped_of_layer l f oss ++ rest) ≡ lost_of_layer objects l f oss + lost_count objects rest
  of_layer l f [] rest h = omega arith
  of_layer l f (os ∷ oss) rest h =
      let parted = ap (lost_count objects) (append_assoc (dropped_in l f os) (dropped_of_layer l (suc f) oss) rest) in
      let first = of_feature l f os (dropped_of_layer l (suc f) oss ++ rest) (features_later l f l (suc f) oss rest (inr (refl, omega arith)) (h f)) in
      let later = of_layer l (suc f) oss rest h in
      omega (arith, parted, first, later)

  of_layers : (l : ℕ) (causes : List (List (List (Placed Cause)))) → lost_count objects (dropped_of_layers l causes) ≡ lost_of_layers objects l causes
  of_layers l [] = refl
  of_layers l (oss ∷ more) =
      of_layer l 0 oss (dropped_of_layers (suc l) more) (λ g. layers_later l g (suc l) more (omega arith)) ∙ ap (λ n. lost_of_layer objects l 0 oss + n) (of_layers (suc l) more)

pub each_lost_counts_once : EachLostCountsOnce
each_lost_counts_once objects causes = of_layers objects 0 causes
