use Rattle.std.proofs.Common.{arith, ◌≡◌, ◌<◌, ◌^◌, false, List, ap, length, replicate, subst, sym, ◌∙◌}
use Rattle.geometry.specs.Points.{Point}
use Rattle.guarded_reduction.specs.PlacedLists.{Placed, all_placed}
use Rattle.guarded_reduction.specs.Linking.{IsWhole}
use Rattle.guarded_reduction.specs.SideBySide.{afters_in, befores_in}
use Rattle.guarded_reduction.proofs.Starts.{first_is, first_whole}
use Rattle.guarded_reduction.proofs.places.linked_places.LinkedPlaces.of.Goals as goal

pub invariant_of-result : goal.invariant_of-result
invariant_of-result c =
    let same = c.in_ok-positions.ensures.positions in
    let many : c.len.result ≡ length c.in_ok-places.places.positions = omega (arith, c.len.ensures, c.in_ok-positions.positions.ok, ap (λ (x : Placed). length x.positions) c.in_ok-places.ensures) in
    subst IsWhole
    (sym (first_is c.in_ok-places.places.indexed c.args.arcs.now c.in_ok-places.places.positions c.in_ok-places.places.left (befores_in c.in_ok-neighbours.neighbours.items) (afters_in c.in_ok-neighbours.neighbours.items) c.in_ok-fixed.fixed.items (ap (λ (x : Placed). x.positions) c.in_ok-places.ensures ∙ same)
    (ap (λ (x : Placed). x.left) c.in_ok-places.ensures ∙ ap (λ (x : Placed). x.left) (ap (λ ps. all_placed c.args.no_crossings ps) (sym (ap (λ (x : Placed). x.positions) c.in_ok-places.ensures)))) c.in_ok-neighbours.ensures.befores c.in_ok-neighbours.ensures.afters
    (c.in_ok-fixed.ensures.items_if_clones_equal (λ y e. e) ∙ ap (λ n. replicate n false) many)))
    (first_whole c.in_ok-places.places.indexed c.args.arcs.now (subst (λ (ps : List Point). length ps < 2 ^ 32) same c.in_ok-positions.ensures.few))
