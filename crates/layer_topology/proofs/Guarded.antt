-- What is left of a topology, and what is written of layers, under the guards that are asked for.
use Rattle.std.proofs.Common.{arith, ◌≡◌, ◌∙◌, ℕ, ◌≤◌, Bool, true, false, cond, List, [], ◌∷◌, map, Option, None, refl, ap, subst, sym}
use Rattle.std.specs.List.{AllByRecursion}
use Rattle.std.specs.Prelude.{◌&&◌, nat_lt}
use Rattle.build_meaning.specs.Built.{built}
use Rattle.build_meaning.specs.Celled.{EachCell}
use Rattle.build_meaning.specs.GridLaws.{BuiltCellsAreOn, SnappedAreOn}
use Rattle.build_meaning.specs.InTurn.{all_indexes, built_left, dropped_in_turn, first_whole, goes_first, layers_dropped_in_turn, layers_left_in_turn, left_in_turn, without_small}
use Rattle.build_meaning.specs.Layers.{Named}
use Rattle.build_meaning.specs.InTurnLaws.{ShapesStayInTurn, WithoutSmallCrossesNoMore, WithoutSmallIsValid, WithoutSmallKeeps, WithoutSmallOnGrid}
use Rattle.build_meaning.specs.Left.{Left, is_at_once, left_indexes, left_of, protection_of}
use Rattle.build_meaning.specs.LeftLaws.{CrossingsNeverRise, LeftArcsAreReduced, LeftIsValid, LeftKeeps, LeftOnGrid, SparedNestsNoDeeper, UnguardedIsBuilt}
use Rattle.build_meaning.specs.Protected.{spared_by}
use Rattle.build_meaning.specs.Quantized.{IsGridIfSome, IsOn, named_grid, quantized}
use Rattle.build_meaning.specs.SimplifiedLaws.{labels}
use Rattle.build_meaning.specs.Trimming.{trimmed}
use Rattle.build_meaning.specs.declared.guards.Guards.{Guards}
use Rattle.build_meaning.proofs.Renumbered.{built_has_no_transform}
use Rattle.geojson_types.specs.declared.id.Id.{Id}
use Rattle.geometry.specs.declared.address.Dropped.{Dropped}
use Rattle.grid_snap.specs.Axes.{Axes}
use Rattle.guarded_meaning.specs.Laws.{NoCrossingsLaw}
use Rattle.json_value.specs.declared.json.Json.{Json}
use Rattle.layer_topology.specs.GuardLaws.{IsLeftOf, LeftLaw, UnguardedIsWritten, WrittenLeftLaw}
use Rattle.layer_topology.specs.Laws.{HasNames, IsValid, NestsNoDeeper}
use Rattle.layer_topology.specs.Promises.{KeepsShapes}
use Rattle.layer_topology.specs.Written.{snapped_to, written, written_left}
use Rattle.layer_topology.proofs.Asked.{as_none}
use Rattle.layer_topology.proofs.Laid.{snapped}
use Rattle.layer_topology.proofs.Origins.{origins}
use Rattle.topojson_meaning.specs.Bounds.{feature_nesting, objects_features}
use Rattle.topojson_types.specs.declared.object.TopoObject.{TopoObject}
use Rattle.topojson_types.specs.Topologies.{Contents, object_features}

-- what holds of either holds of the one that is chosen
either : {A : Type 0} (X : Bool → A → Type 0) (x y : A) (b : Bool) → X true x → X false y → X b (cond b x y)
either X x y true h k = h
either X x y false h k = k

-- ---- topologies

module _ (guards : Guards) (t limit : ℕ) where
  -- it is left of the topology without what goes first
  pub in_turn_is : (y : Contents) → (left_of guards t limit (without_small guards limit y)).contents ≡ (left_in_turn guards t limit y).contents
  in_turn_is y = on (left_of guards t limit) (trimmed (first_whole guards limit y)) (dropped_in_turn guards t limit y) (goes_first guards limit)
    where
      on : (left : Contents → Left) (few : Contents) (dropped : List Dropped) (b : Bool)
          → (left (cond b few y)).contents ≡ (cond b (record { contents = (left (cond b few y)).contents; dropped = dropped; removed_count = (left (cond b few y)).removed_count }) (left y)).contents
      on left few dropped true = refl
      on left few dropped false = refl

  pub in_turn_removes : (y : Contents) → (left_of guards t limit (without_small guards limit y)).removed_count ≡ (left_in_turn guards t limit y).removed_count
  in_turn_removes y = on (left_of guards t limit) (trimmed (first_whole guards limit y)) (dropped_in_turn guards t limit y) (goes_first guards limit)
    where
      on : (left : Contents → Left) (few : Contents) (dropped : List Dropped) (b : Bool)
          → (left (cond b few y)).removed_count ≡ (cond b (record { contents = (left (cond b few y)).contents; dropped = dropped; removed_count = (left (cond b few y)).removed_count }) (left y)).removed_count
      on left few dropped true = refl
      on left few dropped false = refl

  -- where nothing goes first it is left of the topology
  pub at_once_is : (y : Contents) → goes_first guards limit ≡ false → (left_in_turn guards t limit y).contents ≡ (left_of guards t limit y).contents
  at_once_is y e = sym (in_turn_is y) ∙ ap (λ b. (left_of guards t limit (cond b (trimmed (first_whole guards limit y)) y)).contents) e

  in_turn_on_grid : WithoutSmallOnGrid → WithoutSmallKeeps → LeftOnGrid → (g : Option Axes) (y : Contents) → IsGridIfSome g → y.transform ≡ None → EachCell (IsOn g) y
      → (left_in_turn guards t limit (quantized g y)).contents ≡ quantized g (left_in_turn guards t limit y).contents
  in_turn_on_grid few_on keeps alike g y grid bare on =
      let few = few_on guards g limit y grid bare on in
      sym (in_turn_is (quantized g y)) ∙ ap (λ z. (left_of guards t limit z).contents) few.0
      ∙ (alike guards g t limit (without_small guards limit y) grid ((keeps guards limit y).1 ∙ bare) few.1).contents ∙ ap (quantized g) (in_turn_is y)

  few_nests : SparedNestsNoDeeper → (n : ℕ) (y : Contents) → AllByRecursion (λ f. feature_nesting f ≤ n) (objects_features y.objects)
      → AllByRecursion (λ f. feature_nesting f ≤ n) (objects_features (without_small guards limit y).objects)
  unfolding spared_by
  few_nests nests n y h =
      either (λ b (z : Contents). AllByRecursion (λ f. feature_nesting f ≤ n) (objects_features z.objects)) (trimmed (first_whole guards limit y)) y (goes_first guards limit)
      (nests n (protection_of guards y) (map all_indexes y.arcs) limit y h) h

pub left_law : LeftIsValid → LeftKeeps → CrossingsNeverRise → NoCrossingsLaw → LeftArcsAreReduced → SparedNestsNoDeeper → WithoutSmallIsValid → WithoutSmallKeeps
    → WithoutSmallCrossesNoMore → ShapesStayInTurn → LeftLaw
unfolding left_of
left_law valid keeps never met arcs nests few_valid few_keeps fewer stay guards t limit y =
    let few = without_small guards limit y in
    subst (IsLeftOf guards t limit y) (in_turn_is guards t limit y) (record {
      valid = λ h. valid guards t limit few (few_valid guards limit y h).without_small;
      labels_stay = (keeps guards t limit few).0 ∙ (few_keeps guards limit y).0;
      transform = (keeps guards t limit few).1 ∙ (few_keeps guards limit y).1;
      nests = λ n h. nests n (protection_of guards few) (left_indexes guards t few) limit few (few_nests guards t limit nests n y h);
      crosses = λ e. let less = fewer guards limit y e in let more = never guards t limit few e in record {
        fewer = omega (arith, less, more);
        none = λ z. omega (arith, less, more, z);
        origins = origins met arcs guards t limit few e;
      };
      stays = λ e h. subst (KeepsShapes guards t limit y) (sym (in_turn_is guards t limit y)) (stay guards t limit y e h);
    })

-- ---- layers

-- what holds of what is left of what is built of them at zero, or else of what is built of them, holds of what is left of them
pub layers_either : (guards : Guards) (t limit : ℕ) (ls : Named) (X : Bool → Contents → Type 0) → X true (left_in_turn guards t limit (built 0 0 ls)).contents
    → X false (built t limit ls) → X (is_at_once guards) (layers_left_in_turn guards t limit ls).contents
layers_either guards t limit ls X =
    let fewer = left_in_turn guards t limit (built 0 0 ls) in
    either (λ b (left : Left). X b left.contents) (record { contents = fewer.contents; dropped = layers_dropped_in_turn guards t limit ls; removed_count = fewer.removed_count })
    (built_left t limit ls) (is_at_once guards)

-- a name with the labels of its features
abbrev Named_labels : Type 0
Named_labels = List ℕ × List (Option Id × Option (List (List ℕ × Json)))

label_names : (os : List (List ℕ × TopoObject)) → map (λ (l : Named_labels). l.0) (map (λ o. (o.0, map (λ f. (f.id, f.properties)) (object_features o.1))) os) ≡ map (λ o. o.0) os
label_names [] = refl
label_names (o ∷ os) = ap (λ ns. o.0 ∷ ns) (label_names os)

-- the same labels have the same names
names_stay : (x y : Contents) → labels x ≡ labels y → map (λ o. o.0) x.objects ≡ map (λ o. o.0) y.objects
names_stay x y h = sym (label_names x.objects) ∙ ap (map (λ (l : Named_labels). l.0)) h ∙ label_names y.objects

pub written_left_law : LeftLaw → UnguardedIsBuilt → SnappedAreOn → BuiltCellsAreOn → LeftOnGrid → WithoutSmallOnGrid → WithoutSmallKeeps → IsValid → HasNames → NestsNoDeeper → WrittenLeftLaw
unfolding written
written_left_law law is_built on cells alike few_on keeps valid names nests guards count t limit ls taken =
    let snap = snapped on count ls taken in
    let g = named_grid count ls in
    let s = snapped_to count ls in
    let whole = written count 0 0 ls in
    let same : (left_in_turn guards t limit whole).contents ≡ (written_left guards count t limit ls).contents =
    layers_either guards t limit s (λ b y. is_at_once guards ≡ b → (left_in_turn guards t limit whole).contents ≡ quantized g y)
    (λ e. in_turn_on_grid guards t limit few_on keeps alike g (built 0 0 s) snap.on.0 (built_has_no_transform 0 0 s) (cells g 0 0 s snap.on))
    (λ e. at_once_is guards t limit whole (ap (λ b. b && nat_lt 0 limit) e) ∙ ap (λ u. (left_of u t limit whole).contents) (as_none guards e) ∙ (is_built g t limit s snap.on snap.sound).contents) refl in
    let left : IsLeftOf guards t limit whole (written_left guards count t limit ls).contents = subst (IsLeftOf guards t limit whole) same (law guards t limit whole) in
    record {
      valid = left.valid (valid count 0 0 ls taken);
      names = names_stay (written_left guards count t limit ls).contents whole left.labels_stay ∙ names count 0 0 ls taken;
      nests = λ n h. left.nests n (nests count 0 0 n ls h);
      is_left = left;
      simplified = same;
    }

pub unguarded_is_written : UnguardedIsWritten
unfolding written
unguarded_is_written count t limit ls taken = refl
