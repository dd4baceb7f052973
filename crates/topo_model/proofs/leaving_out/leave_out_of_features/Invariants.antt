use Rattle.geometry.specs.Lists.{tail}
use Rattle.geometry.specs.Addresses.{feature_address}
use Rattle.build_meaning.specs.Protected.{sparing}
use Rattle.topo_model.specs.Along.{first_way, feature_placed_along}
use Rattle.topo_model.specs.Drops.{shape_drops, pair_sparing}
use Rattle.topo_model.specs.Places.{dropped_at}
use Rattle.topo_model.proofs.LeftOut.{Walked}
use Rattle.topo_model.proofs.leaving_out.leave_out_of_features.Given as goal

abbrev pub invariant-features : goal.invariant-features
invariant-features g l =
    Walked (λ w f. feature_placed_along (g.K.Keeps.places l.keeps) (sparing (g.K.Keeps.keeps l.keeps)) (first_way w) f) (λ w f. tail w) (λ w i f. dropped_at (feature_address l.object i) (shape_drops (pair_sparing (g.K.Keeps.goes l.keeps)) (first_way w) f.shape))
    l.initial.ways l.initial.dropped.items l.fn.features l.ways l.dropped.items l.number l.features
