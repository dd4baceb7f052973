use Rattle.std.proofs.Common.{rules, ◌≡◌, ◌-◌, ◌<◌, ◌≤◌, true, ap, length, map, slice_index, slice_set, subst, sym, ◌∙◌, arith}
use Rattle.std.specs.List.{Contains}
use Rattle.std.proofs.lemmas.List.{length-map}
use Rattle.guarded_reduction.specs.Moves.{Counted, IsReady, capped, keeps_all, owner_at, ring_moves, users_at}
use Rattle.guarded_reduction.proofs.RingMoves.{IsRead, counted_of, is_read, still_ready}
use Rattle.guarded_reduction.proofs.Sums.{capped_at, many_sums, no_more_than, set_capped, sums_after, users_are}
use Rattle.guarded_reduction.proofs.Users.{users_read}
use Rattle.guarded_reduction.proofs.rings.kept_rings.KeptRings.remove.Goals as goal

pub lose_moves-requires-clause-users : goal.lose_moves-requires-clause-users
lose_moves-requires-clause-users c j m =
    let s = c.args.places.now in
    let z = c.args.place in
    let us = map (λ u. u.items) c.self.inside.users.items in
    let g : Counted = counted_of c.self.inside.rings.now c.self.inside.owners.items c.self.inside.moves.items us in
    let k = c.index-arc.result.now in
    let left = c.saturating_sub-left.result in
    let h : z < length c.self.inside.owners.items = search rules in
    let r : IsRead s z g k c.index-moves.result.now left =
    is_read s z g k c.index-moves.result.now c.lost.result left c.self.invariant.ready h c.index-arc.ensures c.index-moves.ensures c.lost.ensures (search rules) in
    let within : k < length g.moves = omega (arith, r.within, r.arc) in
    let there : k < length c.self.inside.users.items = omega (arith, within, c.self.invariant.ready.many, length-map c.self.inside.users.items (λ u. u.items)) in
    let listed : c.as_slice.result.now ≡ users_at us k = c.as_slice.ensures.value ∙ users_read (λ u. u.items) c.self.inside.users.items k c.index.result.now there c.index.ensures in
    let w = c.self.invariant.ready.users.ring k j (subst (λ js. Contains js j) listed m) in
    omega (arith, w, many_sums g c.self.inside.sums.items c.self.invariant)

pub invariant_of-self : goal.invariant_of-self
invariant_of-self c =
    let s = c.args.places.now in
    let z = c.args.place in
    let us = map (λ u. u.items) c.self.inside.users.items in
    let g : Counted = counted_of c.self.inside.rings.now c.self.inside.owners.items c.self.inside.moves.items us in
    let k = c.index-arc.result.now in
    let left = c.saturating_sub-left.result in
    let h : z < length c.self.inside.owners.items = search rules in
    let r : IsRead s z g k c.index-moves.result.now left =
    is_read s z g k c.index-moves.result.now c.lost.result left c.self.invariant.ready h c.index-arc.ensures c.index-moves.ensures c.lost.ensures (search rules) in
    let within : k < length g.moves = omega (arith, r.within, r.arc) in
    let there : k < length c.self.inside.users.items = omega (arith, within, c.self.invariant.ready.many, length-map c.self.inside.users.items (λ u. u.items)) in
    let listed : c.as_slice.result.now ≡ users_at us k = c.as_slice.ensures.value ∙ users_read (λ u. u.items) c.self.inside.users.items k c.index.result.now there c.index.ensures in
    let here : slice_index g.moves k ≡ slice_index g.moves (owner_at g z) = ap (slice_index g.moves) r.arc in
    let counts : slice_index (map capped g.moves) k ≡ capped (slice_index g.moves k) = capped_at g.moves k in
    let fewer : capped left ≤ capped (slice_index g.moves k) = no_more_than left (slice_index g.moves k) (omega (arith, r.left, here)) in
    record {
      ready = subst (λ ms. IsReady (counted_of g.rings g.owners ms us)) (sym (ap (λ i. slice_set g.moves i left) r.arc ∙ ap (slice_set g.moves (owner_at g z)) r.left))
          (still_ready s z g c.self.invariant.ready r.within (subst (λ (x : Counted). keeps_all s z x ≡ true) (sym c.self.view_is) c.requires.stay));
      sums_are = sums_after c.self.inside.sums.items c.lose_moves.new.sums.items (map capped g.moves) k (capped left) g.rings c.as_slice.result.now (capped c.index-moves.result.now - capped left)
          (omega (arith, within, length-map g.moves capped)) (omega (arith, counts, fewer))
          (ap (λ m. capped m - capped left) (r.moves ∙ sym here) ∙ ap (λ m. m - capped left) (sym counts)) (listed ∙ users_are g c.self.inside.sums.items c.self.invariant k within) c.self.invariant.sums_are
          c.lose_moves.ensures.many c.lose_moves.ensures.each
          ∙ ap (λ ms. map (ring_moves ms) g.rings) (sym (set_capped g.moves k left));
    }
