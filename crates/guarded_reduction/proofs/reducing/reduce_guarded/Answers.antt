use Rattle.std.proofs.Common.{◌≡◌, ap, map, ◌∙◌}
use Rattle.std.proofs.lemmas.Result.{IfOk-weaker}
use Rattle.guarded_meaning.specs.Elimination.{reduce_arcs, remaining_arcs}
use Rattle.guarded_meaning.specs.Guards.{guarded_by}
use Rattle.guarded_reduction.specs.Linking.{Linked}
use Rattle.guarded_reduction.specs.Numbers.{all_kept_indexes}
use Rattle.guarded_reduction.proofs.KeptIndexes.{left_indexes}
use Rattle.guarded_reduction.proofs.reducing.reduce_guarded.Goals as goal

pub returns : goal.returns
unfolding reduce_arcs
returns c =
    let arcs = c.args.arcs.now in
    let flag : c.in_ok-places.places.no_crossings ≡ c.args.no_crossings = ap (λ (s : Linked). s.no_crossings) c.in_ok-places.ensures in
    IfOk-weaker c.all_kept.result _ _
    (λ kept h. h ∙ ap (λ bs. all_kept_indexes bs 0 arcs) c.left.ensures ∙ left_indexes c.reduce_places.new.places.left arcs
    ∙ ap (map (map (λ v. v.index))) (c.in_ok-reduce_places.ensures.left ∙ ap (λ b. remaining_arcs (guarded_by b c.args.rings.now) c.args.threshold arcs) flag))
    c.all_kept.ensures
