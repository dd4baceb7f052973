-- Where the positions of a topology lie on a grid, it is put on the grid by replacing each of them by its cell.
use Rattle.std.proofs.Common.{arith, ◌≡◌, ℕ, List, [], ◌∷◌, map, Option, None, Some, refl}
use Rattle.std.specs.List.{AllByRecursion}
use Rattle.geometry.specs.Lists.{then_some}
use Rattle.geometry.specs.Points.{Point}
use Rattle.geometry.specs.Pruning.{prune}
use Rattle.grid_snap.specs.Axes.{Axes, cell}
use Rattle.build_meaning.specs.GridTransforms.{transform_of}
use Rattle.build_meaning.specs.Celled.{feature_celled, object_celled, objects_celled, celled, EachCell}
use Rattle.build_meaning.proofs.CelledDecoding.{placed_alike}
use Rattle.owned_values.proofs.Elements.{all_weaker, all_left, all_right}
use Rattle.topojson_types.specs.declared.feature.TopoFeature.{TopoFeature}
use Rattle.topojson_types.specs.declared.object.TopoObject.{TopoObject}
use Rattle.topojson_types.specs.declared.transform.Transform.{Transform}
use Rattle.topojson_types.specs.Topologies.{TopoShape, Contents, object_features}
use Rattle.topojson_types.specs.Validity.{places, option_places, features_places, objects_places}
use Rattle.build_meaning.specs.Quantized.{IsOn, quantized}
use Rattle.topo_model.specs.Along.{feature_placed, object_placed, objects_placed}
use Rattle.topo_model.specs.ArcUses.{as_they_are}
use Rattle.layer_topology.specs.Replacing.{cell_if_covered}
use Rattle.layer_topology.proofs.Covered.{if_covered}

module _ (axes : Axes) where
  abbrev On : Point → Type 0
  On = IsOn (Some axes)

  abbrev AllOn : List Point → Type 0
  AllOn ps = AllByRecursion On ps

  abbrev f : Point → Point
  f = cell_if_covered axes

  abbrev Same : Point → Type 0
  Same p = f p ≡ cell axes p

  all_same : (ps : List Point) → AllOn ps → AllByRecursion Same ps
  all_same ps on = all_weaker On Same (λ p k. if_covered axes p k.0) ps on

  shape_same : (s : Option TopoShape) → AllOn (option_places s) → then_some (prune f as_they_are) s ≡ then_some (prune (cell axes) as_they_are) s
  shape_same None on = refl
  shape_same (Some s) on = placed_alike f (cell axes) as_they_are s (all_same (places s) on)

  features_same : (xs : List TopoFeature) → AllOn (features_places xs) → map (feature_placed f as_they_are) xs ≡ map (feature_celled (cell axes)) xs
  features_same [] on = refl
  features_same (x ∷ xs) on = grind (arith, shape_same, all_left, all_right, features_same xs (all_right On (option_places x.shape) (features_places xs) on))

  object_same : (o : TopoObject) → AllOn (features_places (object_features o)) → object_placed f as_they_are o ≡ object_celled (cell axes) o
  object_same o on = grind (arith, shape_same, all_left, features_same)

  objects_same : (os : List (List ℕ × TopoObject)) → AllOn (objects_places os) → objects_placed f as_they_are os ≡ objects_celled (cell axes) os
  objects_same [] on = refl
  objects_same (o ∷ os) on = grind (arith, object_same, all_left, all_right, objects_same os (all_right On (features_places (object_features o.1)) (objects_places os) on))

-- an object under its name, with cells in the place of the positions that the grid covers
abbrev pub named_placed : Axes → List ℕ × TopoObject → List ℕ × TopoObject
named_placed axes o = (o.0, object_placed (cell_if_covered axes) as_they_are o.1)

abbrev pub made_of : List (List ℕ × TopoObject) → List (List Point) → Option Transform → Contents
made_of os arcs t = record { objects = os; arcs = arcs; transform = t }

pub put_on : (axes : Axes) (y : Contents) → EachCell (IsOn (Some axes)) y
    → made_of (objects_placed (cell_if_covered axes) as_they_are y.objects) (map (map (cell axes)) y.arcs) (Some (transform_of axes)) ≡ quantized (Some axes) y
unfolding celled
put_on axes y on = grind (arith, objects_same axes y.objects on.1)

-- what is made of parts that are the quantized objects, arcs and transform is the quantized topology
pub finished : (axes : Axes) (y : Contents) (os : List (List ℕ × TopoObject)) (arcs : List (List Point)) (t : Transform) → EachCell (IsOn (Some axes)) y
    → t ≡ transform_of axes → os ≡ objects_placed (cell_if_covered axes) as_they_are y.objects → arcs ≡ map (map (cell axes)) y.arcs
    → made_of os arcs (Some t) ≡ quantized (Some axes) y
finished axes y os arcs t on e k l = grind (arith, put_on)
