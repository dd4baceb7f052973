-- Named layers that are snapped one after another.
use Rattle.std.proofs.Common.{arith, ◌≡◌, ℕ, zero, suc, ◌<◌, true, List, [], ◌∷◌, ◌++◌, map, length, take, drop, get_or, refl}
use Rattle.std.specs.List.{AllByRecursion}
use Rattle.build_meaning.specs.Layers.{Named}
use Rattle.geojson_types.specs.declared.layer.Layer.{Layer}
use Rattle.geojson_types.specs.Places.{features_points}
use Rattle.geometry.proofs.Moved.{Replaced}
use Rattle.geometry.specs.Points.{Point}
use Rattle.grid_snap.specs.Axes.{Axes, covers}
use Rattle.grid_snap.specs.Snapping.{snapped_layer}
use Rattle.owned_values.proofs.Elements.{all_at, all_left, all_right}
use Rattle.build_meaning.specs.Quantized.{named_points}

-- a value under a name
abbrev pub named : {X : Type 0} → List ℕ → X → List ℕ × X
named n x = (n, x)

abbrev pub named_snapped : Axes → List ℕ × Layer → List ℕ × Layer
named_snapped g l = (l.0, snapped_layer g l.1)

abbrev Covered : Axes → Point → Type 0
Covered g p = covers g p ≡ true

abbrev LayerCovered : Axes → List ℕ × Layer → Type 0
LayerCovered g l = AllByRecursion (Covered g) (features_points l.1.features)

each_layer : (g : Axes) (ls : Named) → AllByRecursion (Covered g) (named_points ls) → AllByRecursion (LayerCovered g) ls
each_layer g [] h = tt
each_layer g (l ∷ ls) h = (all_left (Covered g) (features_points l.1.features) (named_points ls) h, each_layer g ls (all_right (Covered g) (features_points l.1.features) (named_points ls) h))

-- the element at the index is as it was
still : {A : Type 0} (f : A → A) (xs : List A) (i : ℕ) (d : A) → get_or (map f (take i xs) ++ drop i xs) i d ≡ get_or xs i d
still f [] zero d = refl
still f [] (suc i) d = refl
still f (x ∷ xs) zero d = refl
still f (x ∷ xs) (suc i) d = still f xs i d

-- the layer at the index is covered as long as it wasn't replaced
pub is_covered : (g : Axes) (ls : Named) (i : ℕ) (now : Named) (l : List ℕ × Layer) → i < length ls → Replaced (named_snapped g) ls i now → l ≡ get_or now i l
    → AllByRecursion (Covered g) (named_points ls) → LayerCovered g (get_or now i l)
is_covered g ls i now l h so is all = grind (arith, all_at, still, each_layer)
