use Rattle.std.proofs.Common.{◌∙◌, map, ap}
use Rattle.std.proofs.lemmas.Result.{IfOk-weaker}
use Rattle.build_meaning.specs.Assembled.{assembled, assembled_removed_count}
use Rattle.build_meaning.specs.Built.{untrimmed}
use Rattle.build_meaning.specs.Protected.{no_protection}
use Rattle.byte_ends.specs.Ends.{saturated}
use Rattle.geometry.specs.Lists.{map_some}
use Rattle.topo_model.proofs.Assembled.{counts_of, stands, stands_for_topology}
use Rattle.topo_model.proofs.DraftDrops.{assembled_drops}
use Rattle.topo_model.proofs.assembling.assemble_draft.Goals as goal

pub finish-requires-clause-stands : goal.finish-requires-clause-stands
finish-requires-clause-stands c =
    let d = c.requires.draft in
    let r = d.retained_are in
    stands_for_topology c.zero_law.ensures c.ends_stay.ensures c.nothing_is_new.ensures d.layers c.args.objects.items d.of_layers r.kept c.args.ring_limit c.args.retained.arcs.items r.picks
    (map (map_some (λ v. v.items)) c.args.retained.ways.items) (ap (map (map_some (λ v. v.items))) c.requires.ways) c.args.retained.counts.items r.through d.counts_are

pub returns : goal.returns
unfolding assembled assembled_removed_count
returns c =
    let os = c.args.objects.items in
    let stay = c.args.retained.arcs.items in
    let none = ap (map (map_some (λ v. v.items))) c.requires.ways in
    let plain = c.unprotected_is_simplified.ensures in
    record {
      topology = IfOk-weaker c.finish.result _ _
          (λ r h ls kept of picks. h no_protection kept (untrimmed 0 0 ls).objects (untrimmed 0 0 ls).arcs
          (stands c.zero_law.ensures c.ends_stay.ensures c.nothing_is_new.ensures ls os of kept c.args.ring_limit stay picks _ none) ∙ (plain kept c.args.ring_limit (untrimmed 0 0 ls)).contents) c.finish.ensures.topology;
      dropped = IfOk-weaker c.finish.result _ _
          (λ r h ls kept of picks. h ∙ assembled_drops c.zero_law.ensures kept c.args.ring_limit ls os of stay picks _ none) c.finish.ensures.dropped;
      removed_count = IfOk-weaker c.finish.result _ _
          (λ r h ls kept of picks counted. h no_protection kept (untrimmed 0 0 ls).objects (untrimmed 0 0 ls).arcs
          (stands c.zero_law.ensures c.ends_stay.ensures c.nothing_is_new.ensures ls os of kept c.args.ring_limit stay picks _ none)
          (counts_of c.zero_law.ensures c.ends_stay.ensures c.nothing_is_new.ensures ls os of kept c.args.ring_limit stay picks _ none c.args.retained.counts.items counted)
          ∙ ap saturated (plain kept c.args.ring_limit (untrimmed 0 0 ls)).removed_count) c.finish.ensures.removed_count;
      chosen = c.finish.ensures.chosen;
      few = c.finish.ensures.few;
    }
