use Rattle.std.proofs.Common.{◌≡◌, ℕ, ◌≤◌, ap, length, map, subst, ◌∙◌, arith}
use Rattle.effective_area.specs.Capped.{IsEnough}
use Rattle.elimination_meaning.specs.Elimination.{numbered}
use Rattle.guarded_meaning.specs.Elimination.{reduce_arcs, remaining_arcs}
use Rattle.guarded_meaning.specs.Guards.{guarded_by}
use Rattle.guarded_reduction.specs.Linking.{Linked}
use Rattle.guarded_reduction.specs.Numbers.{all_kept_indexes, left_arcs}
use Rattle.guarded_reduction.specs.Sharing.{level_after}
use Rattle.guarded_reduction.proofs.KeptIndexes.{left_indexes}
use Rattle.guarded_reduction.proofs.Shares.{count_within, level_is_chosen, most_within}
use Rattle.guarded_reduction.proofs.sharing.reduce_to_share.Goals as goal

pub level_reached-requires-clause-most : goal.level_reached-requires-clause-most
level_reached-requires-clause-most c =
    let arcs = c.args.arcs.now in
    let most = c.most_weighed-most.result in
    let enough = subst (λ n. IsEnough c.args.p c.args.q n most) c.count_inner.ensures c.most_weighed-most.ensures.enough in
    let least = subst (λ n. (m : ℕ) → IsEnough c.args.p c.args.q n m → most ≤ m) c.count_inner.ensures c.most_weighed-most.ensures.least in
    omega (arith, most_within (guarded_by c.args.no_crossings c.args.rings.now) arcs c.args.p c.args.q most c.requires.part enough least, count_within arcs, ap (λ (s : Linked). length s.positions) c.in_ok-places.ensures)

pub returns-clause-kept : goal.returns-clause-kept
unfolding reduce_arcs
returns-clause-kept c =
    let arcs = c.args.arcs.now in
    let level = c.in_ok-level.level in
    c.in_ok-kept.ensures ∙ ap (λ bs. all_kept_indexes bs 0 arcs) c.deref.ensures.value ∙ left_indexes level.stays.items arcs ∙ ap (map (map (λ v. v.index)))
    (subst (λ b. left_arcs arcs level.stays.items ≡ remaining_arcs (guarded_by b c.args.rings.now) level.area arcs) (ap (λ (s : Linked). s.no_crossings) c.in_ok-places.ensures) c.in_ok-level.ensures.stays)

pub returns-clause-chosen : goal.returns-clause-chosen
returns-clause-chosen c =
    let arcs = c.args.arcs.now in
    let most = c.most_weighed-most.result in
    let enough = subst (λ n. IsEnough c.args.p c.args.q n most) c.count_inner.ensures c.most_weighed-most.ensures.enough in
    let least = subst (λ n. (m : ℕ) → IsEnough c.args.p c.args.q n m → most ≤ m) c.count_inner.ensures c.most_weighed-most.ensures.least in
    subst (λ b. c.in_ok-level.level.area ≡ level_after (guarded_by b c.args.rings.now) most 0 (map (numbered 0) arcs)) (ap (λ (s : Linked). s.no_crossings) c.in_ok-places.ensures) c.in_ok-level.ensures.area
    ∙ level_is_chosen (guarded_by c.args.no_crossings c.args.rings.now) arcs c.args.p c.args.q most c.requires.part enough least
