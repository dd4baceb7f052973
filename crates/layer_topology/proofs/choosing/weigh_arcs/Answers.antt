use Rattle.std.proofs.Common.{◌≡◌, ◌∙◌, ℕ, ◌≤◌, length, map, ap, subst, sym}
use Rattle.effective_area.specs.Shares.{interior_weights, kept_at, share}
use Rattle.effective_area.specs.Weights.{weights_of}
use Rattle.layer_topology.proofs.Chosen.{all_are_reduced, between_ends}
use Rattle.layer_topology.proofs.choosing.weigh_arcs.Goals as goal

pub returns : goal.returns
returns c =
    let arcs = c.args.arcs.now in
    let lines = map weights_of arcs in
    let capped = map (λ w. w.items) c.in_ok-all.all.items in
    let chosen = c.in_ok-threshold.ensures ∙ ap (λ all. share c.args.p c.args.q (interior_weights (map (λ w. w.items) all))) c.deref.ensures.value in
    let law = c.capped_is_enough.ensures c.args.p c.args.q c.in_ok-count.count c.most_weighed-most.result lines capped c.requires.part (subst (λ (n : ℕ). length (interior_weights lines) ≤ n) (sym c.in_ok-count.ensures) (between_ends arcs)) c.most_weighed-most.ensures.enough c.in_ok-all.ensures in
    let same = subst (λ (t : ℕ). map (kept_at t) capped ≡ map (kept_at t) lines) (sym (chosen ∙ law.0)) law.1 in
    record {
      stays = all_are_reduced (λ w. w.items) c.in_ok-threshold.threshold c.kept_at_is_reduced.ensures c.in_ok-all.all.items arcs same;
      chosen = chosen ∙ law.0;
    }
