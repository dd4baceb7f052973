-- What is left of snapped layers under guards is, put on the grid, what is written of them.
use Rattle.std.proofs.Common.{◌≡◌, ◌∙◌, ℕ, ℤ, cond, List, Option, None, Some, refl, ap, subst, sym}
use Rattle.std.specs.List.{AllByRecursion}
use Rattle.build_meaning.specs.ArcPositions.{arc_positions}
use Rattle.build_meaning.specs.Assembled.{arcs_of_layers}
use Rattle.build_meaning.specs.Built.{built}
use Rattle.build_meaning.specs.Celled.{celled, EachCell, LiesBack}
use Rattle.build_meaning.specs.GridLaws.{BuiltCellsAreOn, SnappedAreOn}
use Rattle.build_meaning.specs.GridTransforms.{transform_of}
use Rattle.build_meaning.specs.InTurn.{layers_left_in_turn, without_small}
use Rattle.build_meaning.specs.InTurnLaws.{WithoutSmallKeeps, WithoutSmallOnGrid}
use Rattle.build_meaning.specs.Layers.{Named}
use Rattle.build_meaning.specs.Left.{is_at_once, left_indexes, left_of, protection_of, rings_to_stay}
use Rattle.build_meaning.specs.LeftLaws.{LeftOnGrid}
use Rattle.build_meaning.specs.Protected.{spared_by}
use Rattle.build_meaning.specs.Quantized.{IsGridIfSome, IsOn, named_grid, quantized}
use Rattle.build_meaning.specs.Trimming.{trimmed}
use Rattle.build_meaning.specs.declared.guards.Guards.{Guards}
use Rattle.build_meaning.proofs.Celled.{all_lie_back}
use Rattle.build_meaning.proofs.Left.{spared_cells}
use Rattle.owned_values.proofs.Elements.{all_weaker}
use Rattle.build_meaning.proofs.OnGrid.{all_lie}
use Rattle.build_meaning.proofs.Renumbered.{built_has_no_transform}
use Rattle.geometry.specs.Points.{Point}
use Rattle.grid_snap.specs.Axes.{Axes, cell}
use Rattle.guarded_meaning.specs.Guards.{guarded_by}
use Rattle.layer_topology.specs.Levels.{threshold_at, threshold_by, threshold_over}
use Rattle.layer_topology.specs.Written.{layers_threshold, snapped_to, written, written_left, written_threshold, AreTaken}
use Rattle.layer_topology.specs.declared.level.Level.{Level}
use Rattle.layer_topology.proofs.Guarded.{in_turn_is, layers_either}
use Rattle.layer_topology.proofs.Laid.{snapped}
use Rattle.topojson_types.specs.Decoding.{placed_arcs}
use Rattle.topojson_types.specs.Topologies.{Contents}

-- ---- where positions lie on the grid they are the same there

grid_arcs : (g : Option Axes) (y : Contents) → IsGridIfSome g → y.transform ≡ None → EachCell (IsOn g) y → arc_positions (quantized g y) ≡ arc_positions y
unfolding celled
grid_arcs None y grid bare on = refl
grid_arcs (Some g) y grid bare on =
    all_lie_back (transform_of g) (cell g) y.arcs (all_weaker (AllByRecursion (IsOn (Some g))) (AllByRecursion (LiesBack (transform_of g) (cell g))) (all_lie g grid) y.arcs on.0)
    ∙ ap (λ t. placed_arcs t y.arcs) (sym bare)

-- so the threshold of snapped layers is that of what is written of the layers
module _ (on : SnappedAreOn) (alike : LeftOnGrid) (cells : BuiltCellsAreOn) (few_on : WithoutSmallOnGrid) (keeps : WithoutSmallKeeps) (guards : Guards) (level : Level) (limit : ℕ)
    (count : Option ℕ) (ls s : Named) (moved : s ≡ snapped_to count ls) (taken : AreTaken count ls) where
  -- by the rings that have to stay and the arcs
  abbrev threshold_with : List (List ℤ) → List (List Point) → ℕ
  threshold_with rings arcs = cond (is_at_once guards) (threshold_by (guarded_by guards.no_crossings rings) level arcs) (threshold_at level (arcs_of_layers (snapped_to count ls)))

  pub same_threshold : layers_threshold guards level limit s ≡ written_threshold guards count level limit ls
  unfolding written
  same_threshold =
      let g = named_grid count ls in
      let y = built 0 0 (snapped_to count ls) in
      let few = without_small guards limit y in
      let snap = snapped on count ls taken in
      let same = few_on guards g limit y snap.on.0 (built_has_no_transform 0 0 (snapped_to count ls)) (cells g 0 0 (snapped_to count ls) snap.on) in
      let bare = (keeps guards limit y).1 ∙ built_has_no_transform 0 0 (snapped_to count ls) in
      ap (layers_threshold guards level limit) moved
      ∙ ap (λ rings. threshold_with rings (arc_positions few)) (sym (alike guards g 0 0 few snap.on.0 bare same.1).rings)
      ∙ ap (threshold_with (rings_to_stay guards (quantized g few))) (sym (grid_arcs g few snap.on.0 bare same.1))
      ∙ ap (λ z. threshold_over guards level z (arcs_of_layers (snapped_to count ls))) (sym same.0)

-- ---- the steps of making it

module _ (guards : Guards) (t limit : ℕ) (count : Option ℕ) (ls : Named) (g : Option Axes) (s : Named) (y : Contents) (asked : g ≡ named_grid count ls) (moved : s ≡ snapped_to count ls)
    (made : y ≡ (layers_left_in_turn guards t limit s).contents) where
  pub plain_under : WithoutSmallKeeps → y.transform ≡ None
  unfolding left_of spared_by trimmed
  plain_under keeps =
      ap (λ z. z.transform) made
      ∙ layers_either guards t limit s (λ b z. z.transform ≡ None)
      (sym (ap (λ z. z.transform) (in_turn_is guards t limit (built 0 0 s))) ∙ (keeps guards limit (built 0 0 s)).1 ∙ built_has_no_transform 0 0 s) (built_has_no_transform t limit s)

  pub cells_under : SnappedAreOn → BuiltCellsAreOn → WithoutSmallOnGrid → AreTaken count ls → EachCell (IsOn g) y
  unfolding left_of
  cells_under on cells few_on h =
      let snap = snapped on count ls h in
      let k = named_grid count ls in
      let m = snapped_to count ls in
      let few = without_small guards limit (built 0 0 m) in
      subst (λ z. EachCell (IsOn z) y) (sym asked)
      (subst (EachCell (IsOn k)) (sym (made ∙ ap (λ m. (layers_left_in_turn guards t limit m).contents) moved))
      (layers_either guards t limit m (λ b. EachCell (IsOn k))
      (subst (EachCell (IsOn k)) (in_turn_is guards t limit (built 0 0 m))
      (spared_cells (IsOn k) (protection_of guards few) (left_indexes guards t few) limit few
      (few_on guards k limit (built 0 0 m) snap.on.0 (built_has_no_transform 0 0 m) (cells k 0 0 m snap.on)).1))
      (cells k t limit m snap.on)))

  pub as_written : (z : Contents) → z ≡ quantized g y → z ≡ (written_left guards count t limit ls).contents
  as_written z e = e ∙ ap (λ k. quantized k y) asked ∙ ap (quantized (named_grid count ls)) (made ∙ ap (λ m. (layers_left_in_turn guards t limit m).contents) moved)
