use Rattle.std.proofs.Common.{◌≡◌, ◌-◌, ◌<◌, ◌^◌, length, map, ap, arith, refl, sym, subst, ◌∙◌}
use Rattle.std.specs.Prelude.{sum}
use Rattle.std.specs.List.{AllByRecursion}
use Rattle.std.specs.Option.{option_copied}
use Rattle.std.proofs.lemmas.List.{length-map}
use Rattle.build_meaning.specs.Built.{positions_of}
use Rattle.build_meaning.specs.Trimming.{is_used, keep_from}
use Rattle.byte_ends.specs.Ends.{saturated}
use Rattle.geometry.specs.Lists.{map_some}
use Rattle.build_meaning.specs.Protected.{objects_spared, sparing}
use Rattle.build_meaning.specs.Simplified.{large_refs, objects_pruned}
use Rattle.topojson_types.specs.Decoding.{placed_arcs}
use Rattle.topojson_types.specs.Validity.{IsPlace, IsTopology}
use Rattle.topo_model.specs.Drops.{judged_refs, objects_drops}
use Rattle.topo_model.specs.Along.{Ways}
use Rattle.topo_model.specs.ArcUses.{AllNameArcs, as_they_are}
use Rattle.topo_model.specs.Parts.{contents}
use Rattle.topo_model.proofs.AllUsed.{objects_again}
use Rattle.topo_model.proofs.Result.{finished, indexed, large_left, of_arcs, places_are, retained_long, taken_is}
use Rattle.topo_model.proofs.finishing.finish.Goals as goal

pub leave_out_dropped-requires-clause-places : goal.leave_out_dropped-requires-clause-places
leave_out_dropped-requires-clause-places c =
    let s = c.requires.stands in
    subst (λ t. AllByRecursion (λ a. AllByRecursion (IsPlace t) a) c.deref.result.now) (sym c.as_ref.ensures.value)
    (subst (λ arcs. AllByRecursion (λ a. AllByRecursion (IsPlace c.args.transform) a) arcs) (sym c.deref.ensures.value)
    (places_are s.protects s.kept c.args.ring_limit (contents s.of s.arcs c.args.transform) c.args.retained.arcs.items s.stands.picks s.valid))

pub without_unused-requires : goal.without_unused-requires
without_unused-requires c =
    let s = c.requires.stands in
    let y = contents s.of s.arcs c.args.transform in
    let ways : Ways = map (map_some (λ v. v.items)) c.args.retained.ways.items in
    let told : Ways = map (map_some (λ v. v.items)) c.deref-2.result.now in
    let as_told : told ≡ ways = ap (map (map_some (λ v. v.items))) c.deref-2.ensures.value in
    let large = large_left (map_some (λ r. r.now) c.args.first) c.args.ring_limit ways told c.args.objects.items c.as_mut_slice.result.now c.leave_out_dropped.new.objects c.as_mut_slice-2.result.now c.args.objects.len c.args.retained.arcs.items c.deref.result.now c.args.transform
    (option_copied c.as_ref.result) c.args.objects.ok.0 c.as_mut_slice.ensures.value c.deref.ensures.value c.as_ref.ensures.value as_told c.in_ok-dropped.ensures.objects c.as_mut_slice-2.ensures.value in
    record {
      many = retained_long s.protects s.kept c.args.ring_limit y c.args.retained.arcs.items s.stands.picks s.through ∙ sym (ap length (c.deref-3.ensures.value ∙ s.counts_are) ∙ length-map s.arcs length);
      indexed = subst (AllNameArcs (length c.args.retained.arcs.items)) (sym (large ∙ s.stands.large)) (indexed s.protects s.kept c.args.ring_limit y c.args.retained.arcs.items s.stands.picks s.valid s.through);
      pruned = subst (λ os. objects_pruned as_they_are os ≡ os) (sym large) (objects_again (sparing (judged_refs (map_some (λ r. r.now) c.args.first) (of_arcs c.args.ring_limit (placed_arcs c.args.transform c.args.retained.arcs.items)))) ways c.args.objects.items);
    }

pub of-topology-requires : goal.of-topology-requires
of-topology-requires c =
    let s = c.requires.stands in
    let ways : Ways = map (map_some (λ v. v.items)) c.args.retained.ways.items in
    let told : Ways = map (map_some (λ v. v.items)) c.deref-2.result.now in
    let as_told : told ≡ ways = ap (map (map_some (λ v. v.items))) c.deref-2.ensures.value in
    let made = finished (map_some (λ r. r.now) c.args.first) c.args.ring_limit ways told c.args.objects.items c.as_mut_slice.result.now c.leave_out_dropped.new.objects c.as_mut_slice-2.result.now c.args.objects.len c.args.retained.arcs.items c.deref.result.now c.args.transform
    (option_copied c.as_ref.result) c.args.objects.ok.0 c.as_mut_slice.ensures.value c.deref.ensures.value c.as_ref.ensures.value as_told c.in_ok-dropped.ensures.objects c.as_mut_slice-2.ensures.value
    s.protects s.kept s.of s.arcs c.in_ok-arcs.arcs.items c.without_unused.new.objects s.stands c.in_ok-arcs.ensures.objects c.in_ok-arcs.ensures.arcs in
    record {
      valid = rw (c.of.ensures, c.of-2.ensures) (subst IsTopology (sym made) (c.spared_is_valid.ensures s.protects s.kept c.args.ring_limit (contents s.of s.arcs c.args.transform) s.valid s.through));
    }

pub returns : goal.returns
returns c =
    let stay = c.args.retained.arcs.items in
    let ways : Ways = map (map_some (λ v. v.items)) c.args.retained.ways.items in
    let told : Ways = map (map_some (λ v. v.items)) c.deref-2.result.now in
    let as_told : told ≡ ways = ap (map (map_some (λ v. v.items))) c.deref-2.ensures.value in
    let large = large_left (map_some (λ r. r.now) c.args.first) c.args.ring_limit ways told c.args.objects.items c.as_mut_slice.result.now c.leave_out_dropped.new.objects c.as_mut_slice-2.result.now c.args.objects.len c.args.retained.arcs.items c.deref.result.now c.args.transform
    (option_copied c.as_ref.result) c.args.objects.ok.0 c.as_mut_slice.ensures.value c.deref.ensures.value c.as_ref.ensures.value as_told c.in_ok-dropped.ensures.objects c.as_mut_slice-2.ensures.value in
    let v = c.in_ok-arcs.arcs in
    let less : length v.items < 2 ^ 63 = omega (arith, v.ok.0, v.ok.1, v.small) in
    record {
      topology = λ protects kept of arcs stands. c.of-topology.ensures ∙ ap (λ xs. contents c.of.result xs c.args.transform) c.of-2.ensures ∙ ap (λ os. contents os c.in_ok-arcs.arcs.items c.args.transform) c.of.ensures
          ∙ finished (map_some (λ r. r.now) c.args.first) c.args.ring_limit ways told c.args.objects.items c.as_mut_slice.result.now c.leave_out_dropped.new.objects c.as_mut_slice-2.result.now c.args.objects.len c.args.retained.arcs.items c.deref.result.now c.args.transform
          (option_copied c.as_ref.result) c.args.objects.ok.0 c.as_mut_slice.ensures.value c.deref.ensures.value c.as_ref.ensures.value as_told c.in_ok-dropped.ensures.objects c.as_mut_slice-2.ensures.value
          protects kept of arcs c.in_ok-arcs.arcs.items c.without_unused.new.objects stands c.in_ok-arcs.ensures.objects c.in_ok-arcs.ensures.arcs;
      dropped = c.in_ok-dropped.ensures.dropped ∙ ap (λ arcs. objects_drops (record { first = map_some (λ r. r.now) c.args.first; later = of_arcs c.args.ring_limit (placed_arcs (option_copied c.as_ref.result) arcs) }) 0 told c.as_mut_slice.result.now) c.deref.ensures.value
          ∙ ap (λ t. objects_drops (record { first = map_some (λ r. r.now) c.args.first; later = of_arcs c.args.ring_limit (placed_arcs t stay) }) 0 told c.as_mut_slice.result.now) c.as_ref.ensures.value
          ∙ ap (λ w. objects_drops (record { first = map_some (λ r. r.now) c.args.first; later = of_arcs c.args.ring_limit (placed_arcs c.args.transform stay) }) 0 w c.as_mut_slice.result.now) as_told
          ∙ ap (objects_drops (record { first = map_some (λ r. r.now) c.args.first; later = of_arcs c.args.ring_limit (placed_arcs c.args.transform stay) }) 0 ways) c.as_mut_slice.ensures.value;
      removed_count = λ protects kept of arcs stands counted. c.in_ok-arcs.ensures.removed_count
          ∙ ap (λ os. saturated (sum (keep_from (is_used os) 0 c.deref-3.result.now) - positions_of (keep_from (is_used os) 0 stay))) (large ∙ stands.large)
          ∙ ap (λ ns. saturated (sum (keep_from (is_used (objects_spared protects (sparing (large_refs c.args.ring_limit (placed_arcs c.args.transform stay))) of)) 0 ns) - positions_of (keep_from (is_used (objects_spared protects (sparing (large_refs c.args.ring_limit (placed_arcs c.args.transform stay))) of)) 0 stay))) (c.deref-3.ensures.value ∙ counted)
          ∙ ap saturated (taken_is protects kept c.args.ring_limit (contents of arcs c.args.transform) stay stands.picks);
      chosen = refl;
      few = subst (λ z. length z < 2 ^ 63) (sym (ap (λ z. z.arcs) c.of-topology.ensures ∙ c.of-2.ensures)) less;
    }
