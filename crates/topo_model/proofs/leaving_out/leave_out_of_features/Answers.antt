use Rattle.std.proofs.Common.{refl, ◌∙◌}
use Rattle.geometry.specs.Lists.{tail}
use Rattle.geometry.specs.Addresses.{feature_address}
use Rattle.build_meaning.specs.Protected.{MarkedRefs, sparing}
use Rattle.topo_model.specs.Along.{first_way, feature_placed_along}
use Rattle.topo_model.specs.Drops.{object_drops, shape_drops, pair_sparing}
use Rattle.topo_model.specs.Places.{dropped_at}
use Rattle.topo_model.proofs.Along.{steps_are, state_is}
use Rattle.topo_model.proofs.LeftOut.{ends}
use Rattle.topo_model.proofs.leaving_out.leave_out_of_features.Goals as goal

pub returns : goal.returns
returns g c =
    let kept : MarkedRefs = sparing (g.K.Keeps.keeps c.args.keeps.now) in
    let k = ends (λ w f. feature_placed_along (g.K.Keeps.places c.args.keeps.now) kept (first_way w) f) (λ w f. tail w) (λ w i f. dropped_at (feature_address c.args.object i) (shape_drops (pair_sparing (g.K.Keeps.goes c.args.keeps.now)) (first_way w) f.shape))
    (λ w i fs. object_drops (pair_sparing (g.K.Keeps.goes c.args.keeps.now)) c.args.object i w fs) (λ w i. refl) (λ w i f fs. refl)
    c.args.ways.now c.features.ways c.args.dropped.now.items c.features.dropped.items c.args.features.now c.features.features c.features.number c.features-test.false c.features.invariant in
    record {
      features = k.0 ∙ steps_are (feature_placed_along (g.K.Keeps.places c.args.keeps.now) kept) c.args.ways.now c.args.features.now;
      ways = k.1 ∙ state_is (feature_placed_along (g.K.Keeps.places c.args.keeps.now) kept) c.args.ways.now c.args.features.now;
      dropped = k.2;
    }
