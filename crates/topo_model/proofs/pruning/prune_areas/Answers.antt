use Rattle.std.proofs.Common.{ℤ, Bool, List, true, ◌++◌, get_or, ap, ◌∙◌}
use Rattle.geometry.specs.declared.address.Cause.{Cause}
use Rattle.geometry.specs.DropCauses.{area_drop_causes}
use Rattle.geometry.specs.Lists.{map_some}
use Rattle.geometry.specs.Paths.{Placed}
use Rattle.geometry.specs.Pruning.{area_by}
use Rattle.build_meaning.specs.InTurn.{rings_paired}
use Rattle.build_meaning.specs.OuterRings.{rings_marked}
use Rattle.build_meaning.specs.Protected.{sparing}
use Rattle.topo_model.specs.Drops.{pair_sparing}
use Rattle.topo_model.specs.Places.{dropped_at}
use Rattle.topo_model.proofs.Prefix.{turns}
use Rattle.topo_model.proofs.pruning.prune_areas.Goals.{then-stays, else-stays}
use Rattle.topo_model.proofs.pruning.prune_areas.Goals as goal

pub loop-i-preserved : goal.loop-i-preserved
loop-i-preserved g c =
    let left = area_by (sparing (g.K.Keeps.keeps c.args.keeps.now) true) in
    let why : List (Bool × List ℤ) → List (Placed Cause) = λ rs. area_drop_causes (pair_sparing (g.K.Keeps.goes c.args.keeps.now) true) (rings_paired rs) in
    let part = map_some (λ w. w.now) c.into_part.result in
    let rings = get_or c.loop-i.parts c.loop-i.i c.index-parts-i.result in
    let is = c.in_ok-stays.ensures.dropped ∙ ap (λ a. c.loop-i.dropped.items ++ dropped_at a (why (rings_marked rings part))) c.in_ok-part.ensures in
    let turn = turns rings_marked left why (map_some (λ w. w.now) c.args.way) c.args.place.now 0 c.as_mut_slice-parts.result.now c.args.dropped.now.items
    c.loop-i.i c.loop-i.kept c.loop-i.parts c.loop-i.dropped.items c.prune_rings.new.dropped.items c.index-parts-i.result c.prune_rings.new.rings part c.loop-i-test.true c.loop-i.invariant c.into_part.ensures is c.in_ok-stays.stays c.in_ok-stays.ensures.left in
    elim c.if-stays.branch [ then-stays w ↦ rw (w.parts-is, w.kept-is, w.swap.ensures.after) (turn.0 w.if-stays.true) | else-stays w ↦ rw (w.parts-is, w.kept-is) (turn.1 w.if-stays.false) ]
