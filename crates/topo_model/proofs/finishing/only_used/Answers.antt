use Rattle.std.proofs.Common.{◌≡◌, length, pos, ap, refl, sym, subst, ◌∙◌}
use Rattle.std.specs.List.{AllByRecursion, list_all}
use Rattle.std.proofs.lemmas.Result.{IfOk-weaker}
use Rattle.build_meaning.specs.Trimming.{is_used, keep_from, line_renumbered, new_index_from}
use Rattle.geometry.specs.Joins.{AreInRange}
use Rattle.build_meaning.specs.Simplified.{objects_pruned}
use Rattle.topojson_types.specs.Topologies.{objects_lines_and_rings}
use Rattle.topo_model.proofs.AllUsed.{all_kept, renumbered_alike}
use Rattle.topo_model.proofs.Chosen.{chosen_as}
use Rattle.topo_model.proofs.Along.{cells_stay}
use Rattle.topo_model.proofs.Result.{flags_long, objects_renumbered}
use Rattle.topo_model.specs.ArcUses.{renumbered_refs}
use Rattle.topo_model.specs.Uses.{answers, chosen}
use Rattle.topo_model.proofs.finishing.only_used.Goals as goal

pub returns-then-all_set-clause-objects : goal.returns-then-all_set-clause-objects
returns-then-all_set-clause-objects c = renumbered_alike (is_used c.args.objects.now) (length c.args.arcs.items) c.args.objects.now
    (sym (ap (list_all (λ flag. flag)) c.requires.used) ∙ sym c.all_set.ensures ∙ c.if-all_set.true) c.requires.indexed c.requires.pruned

pub returns-then-all_set-clause-arcs : goal.returns-then-all_set-clause-arcs
returns-then-all_set-clause-arcs c =
    sym (all_kept (is_used c.args.objects.now) 0 c.args.arcs.items (sym (ap (list_all (λ flag. flag)) c.requires.used) ∙ sym c.all_set.ensures ∙ c.if-all_set.true))

pub returns-clause-objects : goal.returns-clause-objects
returns-clause-objects c =
    let u = is_used c.args.objects.now in
    let flags = flags_long u c.args.used.now c.args.used.now (length c.args.arcs.items) c.requires.used refl in
    let same = c.by.ensures ∙ c.deref.ensures.value in
    let long = sym c.in_ok-renumbering.ensures.many ∙ sym (ap length same) in
    IfOk-weaker c.kept_arcs.result (λ kept. kept.items ≡ chosen c.args.used.now c.args.arcs.items) (λ kept. c.prune_objects.new.objects ≡ objects_pruned (line_renumbered u) c.args.objects.now)
    (λ kept are. c.in_ok-prune_objects.ensures ∙ cells_stay (renumbered_refs c.by.result) c.args.objects.now
    ∙ objects_renumbered c.by.result u c.args.objects.now (same ∙ c.in_ok-renumbering.ensures.renumbering u flags.0 ∙ ap (answers (λ i. pos (new_index_from u 0 i)) 0) long)
    (subst (λ n. AllByRecursion (λ b. AreInRange n b.1) (objects_lines_and_rings c.args.objects.now)) (flags.1 ∙ long) c.requires.indexed)) c.kept_arcs.ensures

pub returns-clause-arcs : goal.returns-clause-arcs
returns-clause-arcs c =
    IfOk-weaker c.kept_arcs.result (λ kept. kept.items ≡ chosen c.args.used.now c.args.arcs.items) (λ kept. kept.items ≡ keep_from (is_used c.args.objects.now) 0 c.args.arcs.items)
    (λ kept are. are ∙ chosen_as (is_used c.args.objects.now) (length c.args.arcs.items) c.args.used.now c.args.arcs.items c.requires.used refl) c.kept_arcs.ensures
