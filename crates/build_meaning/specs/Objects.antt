-- The objects of a topology, made of layers by what stands for each line and ring.
use Rattle.std.specs.Prelude.{ℕ, ℤ, Bool, List, Option, map}
use Rattle.geojson_types.specs.Features.{Featured}
use Rattle.geometry.specs.Lists.{then_some}
use Rattle.geometry.specs.Points.{Point}
use Rattle.geometry.specs.Pruning.{prune}
use Rattle.topojson_types.specs.declared.feature.TopoFeature.{TopoFeature}
use Rattle.topojson_types.specs.declared.object.TopoObject.{TopoObject}
use Rattle.topojson_types.specs.declared.object.TopoObject.TheVariants.{Many}
use Rattle.build_meaning.specs.Layers.{Named}

-- the arc indexes that stand for an open line (false) or a ring (true), if it is kept
abbrev pub Kept : Type 0
Kept = Bool → List Point → Option (List ℤ)

-- the feature with its identifier and its properties, and its shape pruned
abbrev pub feature_by : Kept → Featured → TopoFeature
feature_by kept f = record { id = f.id; properties = f.properties; shape = then_some (prune (λ p. p) kept) f.shape }

abbrev pub features_by : Kept → List Featured → List TopoFeature
features_by kept fs = map (feature_by kept) fs

-- a layer is a collection of its features, under its name
abbrev pub objects_by : Kept → Named → List (List ℕ × TopoObject)
objects_by kept ls = map (λ l. (l.0, Many (features_by kept l.1.features))) ls
