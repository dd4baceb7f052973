-- Layers whose covered positions are snapped.
use Rattle.std.proofs.Common.{◌≡◌, true, List, [], ◌∷◌, map, refl, sym, subst, arith}
use Rattle.std.specs.List.{AllByRecursion}
use Rattle.owned_values.proofs.Elements.{all_weaker, all_left, all_right, all_map}
use Rattle.geojson_types.specs.declared.layer.Layer.{Layer}
use Rattle.geojson_types.specs.Features.{Featured}
use Rattle.geojson_types.specs.Moving.{moved_feature}
use Rattle.geojson_types.specs.Places.{option_points, features_points}
use Rattle.geometry.specs.Points.{Point, IsPosition}
use Rattle.geometry.specs.Pruning.{option_lines_and_rings}
use Rattle.geometry.proofs.MovedShapes.{option_moved_alike, option_proper_moved, option_lines_and_rings_moved, option_points_moved, line_or_ring_moved}
use Rattle.geometry.proofs.Moved.{ring_moved}
use Rattle.grid_snap.specs.Axes.{Axes, IsGrid, covers, snapped}
use Rattle.grid_snap.specs.Laws.{IsRingIfClosed, SnappedAreSound}
use Rattle.grid_snap.proofs.Settled.{settled, covered_within}
use Rattle.grid_snap.specs.Snapping.{snapped_if_covered}

abbrev pub layer_of : List Featured → Layer
layer_of fs = record { features = fs }

abbrev IsCovered : Axes → Point → Type 0
IsCovered g p = covers g p ≡ true

as_snapped : (g : Axes) (p : Point) → IsCovered g p → snapped_if_covered g p ≡ snapped g p
as_snapped g p h = rw h refl

feature_snapped : (g : Axes) (f : Featured) → AllByRecursion (IsCovered g) (option_points f.shape) → moved_feature (snapped_if_covered g) f ≡ moved_feature (snapped g) f
feature_snapped g f h = grind (arith, option_moved_alike, all_weaker, as_snapped)

pub features_snapped : (g : Axes) (fs : List Featured) → AllByRecursion (IsCovered g) (features_points fs)
    → map (moved_feature (snapped_if_covered g)) fs ≡ map (moved_feature (snapped g)) fs
features_snapped g [] h = refl
features_snapped g (f ∷ fs) h = grind (arith, feature_snapped, all_left, all_right, features_snapped g fs (all_right (IsCovered g) (option_points f.shape) (features_points fs) h))

pub snapped_sound : SnappedAreSound
snapped_sound g f grid covered =
    let lines_and_rings = option_lines_and_rings_moved (snapped g) f.shape in
    record {
      proper = option_proper_moved (snapped g) f.shape;
      lines_and_rings = lines_and_rings;
      rings = λ all. subst (AllByRecursion IsRingIfClosed) (sym lines_and_rings)
          (all_map IsRingIfClosed (line_or_ring_moved (snapped g)) (option_lines_and_rings f.shape)
          (all_weaker IsRingIfClosed (λ b. IsRingIfClosed (line_or_ring_moved (snapped g) b)) (λ b h e. ring_moved (snapped g) b.1 (h e)) (option_lines_and_rings f.shape) all));
      places = subst (AllByRecursion IsPosition) (sym (option_points_moved (snapped g) f.shape))
          (all_map IsPosition (snapped g) (option_points f.shape)
          (all_weaker (IsCovered g) (λ p. IsPosition (snapped g p)) (λ p h. place_of g p grid h) (option_points f.shape) covered));
    }
  where
    place_of : (g : Axes) (p : Point) → IsGrid g → covers g p ≡ true → IsPosition (snapped g p)
    place_of g p grid h = grind (arith, settled g p grid h, covered_within g (snapped g p) grid)
