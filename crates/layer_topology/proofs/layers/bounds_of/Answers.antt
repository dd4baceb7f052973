use Rattle.std.proofs.Common.{ℕ, List, None, sym, ap, ◌∙◌}
use Rattle.std.proofs.lemmas.Simd.{map-map}
use Rattle.geojson_types.specs.declared.layer.Layer.{Layer}
use Rattle.geojson_types.specs.Places.{features_points}
use Rattle.geometry.specs.Lists.{joined}
use Rattle.grid_snap.specs.Bounds.{widened_by}
use Rattle.grid_snap.proofs.Widening.{ends}
use Rattle.layer_topology.proofs.layers.bounds_of.Goals as goal

pub returns : goal.returns
returns c =
    ends (λ (l : List ℕ × Layer). features_points l.1.features) c.args.layers.now c.layers.layer-index None c.layers.all c.layers-test.false c.layers.invariant
    ∙ ap (λ pss. widened_by None (joined pss)) (sym (map-map (λ (l : Layer). features_points l.features) (λ (l : List ℕ × Layer). l.1) c.args.layers.now))
