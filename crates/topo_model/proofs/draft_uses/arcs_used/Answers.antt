use Rattle.std.proofs.Common.{◌≡◌, length, drop, map, refl, ap, ◌+◌, ◌∙◌}
use Rattle.geometry.specs.Lists.{map_some}
use Rattle.build_meaning.specs.Protected.{sparing}
use Rattle.build_meaning.specs.Trimming.{is_used}
use Rattle.topojson_types.specs.Topologies.{object_features}
use Rattle.topo_model.specs.Along.{objects_along, ways_after}
use Rattle.topo_model.specs.DraftUses.{object_uses, refs_at_first}
use Rattle.topo_model.specs.Marks.{also_set}
use Rattle.topo_model.proofs.DraftUses.{ends, objects_more, turns}
use Rattle.topo_model.proofs.Marked.{cleared, written_back}
use Rattle.topo_model.proofs.draft_uses.arcs_used.Goals as goal

pub objects-init : goal.objects-init
objects-init c = ap (λ w. also_set (is_used (objects_along (sparing (refs_at_first (map_some (λ r. r.now) c.args.first))) w c.args.objects.now)) 0 c.in_ok-used.used.items) c.of-rest.ensures

pub objects-preserved : goal.objects-preserved
objects-preserved c =
    let k = sparing (refs_at_first (map_some (λ r. r.now) c.args.first)) in
    let same : length c.mark_object.new.used ≡ length c.objects.used.items = c.mark_object.auto.used ∙ ap length c.deref_mut.ensures.value in
    ap (also_set (is_used (objects_along k c.mark_object.new.ways (drop (c.objects.object-index + 1) c.args.objects.now))) 0) (written_back c.objects.used.len c.mark_object.new.used c.objects.used.items c.objects.used.ok.0 same)
    ∙ turns (λ w o. object_uses k w o.1) (λ w o. ways_after w (object_features o.1)) (λ w os. is_used (objects_along k w os)) (λ w n. refl) (objects_more k) c.objects.rest c.mark_object.new.ways c.objects.used.items c.mark_object.new.used _
    c.args.objects.now c.objects.object-index c.object-item.result c.objects-test.true c.object-item.is c.objects.invariant
    (c.mark_object.ensures.used ∙ ap (also_set (object_uses k c.objects.rest c.object-item.result.1) 0) c.deref_mut.ensures.value) c.mark_object.ensures.ways

pub returns : goal.returns
returns c =
    let k = sparing (refs_at_first (map_some (λ r. r.now) c.args.first)) in
    let passes = is_used (objects_along k (map (map_some (λ v. v.items)) c.args.ways.now) c.args.objects.now) in
    ends (λ w o. object_uses k w o.1) (λ w o. ways_after w (object_features o.1)) (λ w os. is_used (objects_along k w os)) (λ w n. refl) (objects_more k) c.objects.rest c.objects.used.items _ c.args.objects.now c.objects.object-index
    c.objects-test.false c.objects.invariant ∙ ap (also_set passes 0) c.in_ok-used.ensures ∙ cleared passes 0 c.args.arcs
