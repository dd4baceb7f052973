use Rattle.std.proofs.Common.{None, inr, map, refl, ap, ◌∙◌}
use Rattle.std.proofs.lemmas.Result.{IfOk-weaker}
use Rattle.build_meaning.specs.Protected.{no_protection}
use Rattle.byte_ends.specs.Ends.{saturated}
use Rattle.geometry.specs.Lists.{map_some}
use Rattle.topojson_types.specs.Decoding.{placed_arcs}
use Rattle.topo_model.specs.Along.{Ways}
use Rattle.topo_model.specs.Drops.{objects_drops}
use Rattle.topo_model.specs.Parts.{contents}
use Rattle.topo_model.proofs.Result.{drops_are, stands_for_itself}
use Rattle.topo_model.proofs.reassembling.reassemble.Goals as goal

pub finish-requires-clause-stands : goal.finish-requires-clause-stands
finish-requires-clause-stands c =
    let r = c.requires.retained in
    record {
      protects = no_protection;
      kept = r.retained_are.kept;
      of = c.args.objects;
      arcs = r.arcs;
      stands = stands_for_itself no_protection r.retained_are.kept c.args.objects c.into_inner.result.items r.arcs c.args.retained.arcs.items c.args.transform c.args.ring_limit (map (map_some (λ v. v.items)) c.args.retained.ways.items)
          (inr (refl, ap (map (map_some (λ v. v.items))) c.requires.ways)) r.retained_are.picks c.into_inner.ensures;
      through = r.retained_are.through;
      counts_are = r.counts_are;
      valid = r.valid;
    }

pub returns : goal.returns
returns c =
    let ways : Ways = map (map_some (λ v. v.items)) c.args.retained.ways.items in
    let none = inr (refl, ap (map (map_some (λ v. v.items))) c.requires.ways) in
    let retained = c.args.retained.arcs.items in
    let os = c.args.objects in
    let tr = c.args.transform in
    let limit = c.args.ring_limit in
    let plain = c.unprotected_is_simplified.ensures in
    record {
      topology = IfOk-weaker c.finish.result _ _
          (λ r h kept arcs picks. h no_protection kept os arcs (stands_for_itself no_protection kept os c.into_inner.result.items arcs retained tr limit ways none picks c.into_inner.ensures)
          ∙ (plain kept limit (contents os arcs tr)).contents) c.finish.ensures.topology;
      dropped = IfOk-weaker c.finish.result _ _
          (λ r h kept arcs picks. h ∙ ap (objects_drops (record { first = None; later = record { arcs = placed_arcs tr retained; limit = limit } }) 0 ways) c.into_inner.ensures
          ∙ drops_are no_protection kept limit (contents os arcs tr) retained picks ways none c.requires.retained.valid.objects ∙ (plain kept limit (contents os arcs tr)).dropped) c.finish.ensures.dropped;
      removed_count = IfOk-weaker c.finish.result _ _
          (λ r h kept arcs picks counted. h no_protection kept os arcs (stands_for_itself no_protection kept os c.into_inner.result.items arcs retained tr limit ways none picks c.into_inner.ensures) counted
          ∙ ap saturated (plain kept limit (contents os arcs tr)).removed_count) c.finish.ensures.removed_count;
      chosen = c.finish.ensures.chosen;
    }
