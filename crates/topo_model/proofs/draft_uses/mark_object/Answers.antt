use Rattle.std.proofs.Common.{◌+◌, drop, get_or, refl, sym, ap, ◌∙◌}
use Rattle.std.proofs.lemmas.List.{at_drop_more}
use Rattle.geometry.specs.Lists.{map_some, tail}
use Rattle.build_meaning.specs.Protected.{sparing}
use Rattle.topo_model.specs.Along.{first_way, ways_after}
use Rattle.topo_model.specs.DraftUses.{object_uses, refs_at_first, shape_uses}
use Rattle.topo_model.specs.Marks.{also_set}
use Rattle.topo_model.proofs.Along.{ways_step}
use Rattle.topo_model.proofs.DraftUses.{ends, features_more, features_use, turns}
use Rattle.topo_model.proofs.draft_uses.mark_object.Goals as goal

pub features-init : goal.features-init
features-init c = record { used = refl; ways = refl }

pub features-preserved : goal.features-preserved
features-preserved c =
    let k = sparing (refs_at_first (map_some (λ r. r.now) c.args.first)) in
    let items = c.as_slice-feature-items.result.now in
    let i = c.features.feature-index in record {
      used = turns (λ w f. shape_uses k (first_way w) f.shape) (λ w f. tail w) (features_use k) (λ w n. refl) (features_more k) c.features.ways c.next-in-features.new.self c.features.used c.mark_feature-in-features.new.used _
          items i c.feature-item.result c.features-test.true c.feature-item.is c.features.invariant.used
          (c.mark_feature-in-features.ensures ∙ ap (λ way. also_set (shape_uses k way c.feature-item.result.shape) 0 c.features.used) c.next-in-features.ensures.way) c.next-in-features.ensures.rest;
      ways = ap (λ w. ways_after w (drop (i + 1) items)) c.next-in-features.ensures.rest ∙ sym (ways_step c.features.ways (get_or items i c.feature-item.result) (drop (i + 1) items))
          ∙ sym (at_drop_more (ways_after c.features.ways) items i c.feature-item.result c.features-test.true) ∙ c.features.invariant.ways;
    }

pub returns-after-features-clause-used : goal.returns-after-features-clause-used
returns-after-features-clause-used c =
    let k = sparing (refs_at_first (map_some (λ r. r.now) c.args.first)) in
    let ways = c.args.ways.now in
    ends (λ w f. shape_uses k (first_way w) f.shape) (λ w f. tail w) (features_use k) (λ w n. refl) (features_more k) c.features.ways c.features.used _ c.as_slice-feature-items.result.now c.features.feature-index
    c.features-test.false c.features.invariant.used
    ∙ ap (λ fs. also_set (features_use k ways fs) 0 c.args.used.now) c.as_slice-feature-items.ensures ∙ ap (λ o. also_set (object_uses k ways o) 0 c.args.used.now) (sym c.in-Many.is)
