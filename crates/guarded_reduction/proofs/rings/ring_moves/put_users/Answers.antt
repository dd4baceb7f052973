use Rattle.std.proofs.Common.{◌+◌, ◌<◌, ap, get_or, length, map, slice_set, subst, sym, take, ◌∙◌, arith}
use Rattle.std.proofs.lemmas.List.{length-map}
use Rattle.geometry.specs.Joins.{number_of}
use Rattle.owned_values.proofs.Elements.{all_at}
use Rattle.guarded_reduction.specs.Moves.{AddsUser}
use Rattle.guarded_reduction.proofs.Users.{adds_one, nothing_added}
use Rattle.guarded_reduction.proofs.rings.ring_moves.put_users.Goals as goal

pub refs-init : goal.refs-init
refs-init c = nothing_added c.args.ring (map (λ u. u.items) c.args.users.now.items)

pub refs-preserved : goal.refs-preserved
refs-preserved c =
    let first = c.args.users.now.items in
    let us = c.refs.users.items in
    let r = c.arc-item.result in
    let there : number_of r < length first = all_at (λ q. number_of q < length first) c.args.refs.now c.refs.arc-index r c.refs-test.true c.arc-item.is c.requires in
    let within : number_of r < length us = omega (arith, there, c.refs.invariant.many, length-map us (λ u. u.items), length-map first (λ u. u.items)) in
    subst (λ k. AddsUser c.args.ring (take (c.refs.arc-index + 1) c.args.refs.now) (map (λ u. u.items) first) (map (λ u. u.items) (slice_set us k c.push.new.self))) (sym c.index.ensures)
    (adds_one (λ u. u.items) c.args.ring first us c.index_mut.result.now c.push.new.self c.args.refs.now c.refs.arc-index r c.refs-test.true c.arc-item.is within
    (c.index_mut.ensures.value ∙ ap (λ k. get_or us k c.index_mut.result.now) c.index.ensures) c.in_ok-push.ensures.items c.refs.invariant)
