use Rattle.std.proofs.Common.{◌≡◌, ◌<◌, length, false, true, get_or-set_same, ap, arith}
use Rattle.guarded_reduction.specs.Linking.{Linked, is_fixed}
use Rattle.guarded_reduction.proofs.places.linked_places.LinkedPlaces.fix.Goals as goal

pub returns-clause-stays : goal.returns-clause-stays
unfolding is_fixed
returns-clause-stays c =
    let same : length c.self.inside.places.positions ≡ length c.args.self.now.positions = ap (λ (s : Linked). length s.positions) c.self.view_is in
    let within : c.args.place < length c.self.inside.fixed.items = omega (arith, c.requires, c.self.invariant.fixed, same) in
    get_or-set_same c.self.inside.fixed.items c.args.place true false within
