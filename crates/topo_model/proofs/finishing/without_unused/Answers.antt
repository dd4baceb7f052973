use Rattle.std.proofs.Common.{◌≡◌, ◌-◌, length, ap, ◌∙◌, refl}
use Rattle.std.specs.Prelude.{sum}
use Rattle.topo_model.specs.Uses.{answers}
use Rattle.topo_model.proofs.Chosen.{chosen_as}
use Rattle.build_meaning.specs.Built.{positions_of}
use Rattle.build_meaning.specs.Trimming.{is_used, keep_from}
use Rattle.byte_ends.specs.Ends.{saturated}
use Rattle.geometry.specs.Joins.{AreInRange}
use Rattle.topojson_types.specs.Topologies.{objects_lines_and_rings}
use Rattle.owned_values.proofs.Elements.{all_weaker}
use Rattle.topo_model.specs.ArcUses.{NamesArcs}
use Rattle.topo_model.proofs.DraftUses.{all_used}
use Rattle.topo_model.proofs.Result.{flags_are}
use Rattle.topo_model.proofs.finishing.without_unused.Goals as goal

pub only_used-requires-clause-used : goal.only_used-requires-clause-used
only_used-requires-clause-used c =
    c.deref-2.ensures.value
    ∙ flags_are c.args.objects.now c.args.objects.now c.args.retained.items c.len.result c.in_ok-used.used.items refl (c.len.ensures ∙ c.args.retained.ok.0)
    (c.in_ok-used.ensures ∙ all_used (length c.args.retained.items) c.len.result c.args.objects.now c.requires.indexed)

pub only_used-requires-clause-indexed : goal.only_used-requires-clause-indexed
only_used-requires-clause-indexed c =
    all_weaker (NamesArcs (length c.args.retained.items)) (λ b. AreInRange (length c.args.retained.items) b.1) (λ b k. k.0) (objects_lines_and_rings c.args.objects.now) c.requires.indexed

pub returns : goal.returns
returns c =
    let flags : c.in_ok-used.used.items ≡ answers (is_used c.args.objects.now) 0 (length c.args.retained.items) =
    flags_are c.args.objects.now c.args.objects.now c.args.retained.items c.len.result c.in_ok-used.used.items refl (c.len.ensures ∙ c.args.retained.ok.0)
    (c.in_ok-used.ensures ∙ all_used (length c.args.retained.items) c.len.result c.args.objects.now c.requires.indexed) in
    let u = is_used c.args.objects.now in
    record {
      objects = c.in_ok-stay.ensures.objects;
      arcs = c.in_ok-stay.ensures.arcs;
      removed_count = c.removed_count.ensures
          ∙ ap (λ k. saturated (k - c.position_sum-after.result)) (c.used_sum-before.ensures ∙ ap sum (chosen_as u (length c.args.retained.items) c.deref.result.now c.args.counts.now (c.deref.ensures.value ∙ flags) c.requires.many))
          ∙ ap (λ k. saturated (sum (keep_from u 0 c.args.counts.now) - k)) (c.position_sum-after.ensures ∙ ap positions_of (c.deref-3.ensures.value ∙ c.in_ok-stay.ensures.arcs));
    }
