use Rattle.std.proofs.Common.{◌≡◌, ◌-◌, ◌<◌, ◌≤◌, ◌||◌, not, ap, length, map, slice_index, slice_set, subst, sym, ◌∙◌, arith}
use Rattle.std.specs.List.{list_all}
use Rattle.std.proofs.lemmas.List.{length-map}
use Rattle.guarded_meaning.specs.Guards.{uses}
use Rattle.guarded_reduction.specs.Moves.{Counted, capped, stays}
use Rattle.guarded_reduction.proofs.RingMoves.{counted_of}
use Rattle.guarded_reduction.proofs.Sums.{all_stay_is, enough_left, listed_has_sum, none_more, one_fails, one_has_enough}
use Rattle.guarded_reduction.proofs.Users.{read, users_read}
use Rattle.guarded_reduction.proofs.rings.kept_rings.KeptRings.all_stay.Goals as goal

pub users-init : goal.users-init
users-init c =
    let us = map (λ u. u.items) c.self.inside.users.items in
    let g : Counted = counted_of c.self.inside.rings.now c.self.inside.owners.items c.self.inside.moves.items us in
    let k = c.args.arc in
    let within : k < length g.moves = subst (λ (x : Counted). k < length x.moves) (sym c.self.view_is) c.requires.arc in
    let few : c.args.left ≤ slice_index g.moves k = subst (λ (x : Counted). c.args.left ≤ slice_index x.moves k) (sym c.self.view_is) c.requires.left in
    let some : 0 < length g.rings = subst (λ (x : Counted). 0 < length x.rings) (sym c.self.view_is) c.requires.some in
    let there : k < length c.self.inside.users.items = omega (arith, within, c.self.invariant.ready.many, length-map c.self.inside.users.items (λ u. u.items)) in
    let lost : c.saturating_sub-lost.result ≡ capped c.index.result.now - c.args.left = c.saturating_sub-lost.ensures ∙ ap (λ x. x - c.args.left) c.capped.ensures in
    let sums_some : 0 < length c.self.inside.sums.items = omega (arith, some, ap length c.self.invariant.sums_are ∙ length-map g.rings _) in
    ap (λ n. enough_left c.as_slice-sums.result.now n 0 c.index-sum.result.now c.as_slice-users.result.now) lost
    ∙ ap (λ ss. enough_left ss (capped c.index.result.now - c.args.left) 0 c.index-sum.result.now c.as_slice-users.result.now) c.as_slice-sums.ensures.value
    ∙ ap (enough_left c.self.inside.sums.items (capped c.index.result.now - c.args.left) 0 c.index-sum.result.now) (c.as_slice-users.ensures.value ∙ users_read (λ u. u.items) c.self.inside.users.items k c.index-2.result.now there c.index-2.ensures)
    ∙ all_stay_is g c.self.inside.sums.items c.self.invariant k c.args.left c.index.result.now c.index-sum.result.now within few c.requires.few
    (read g.moves k c.index.result.now within c.index.ensures) (read c.self.inside.sums.items 0 c.index-sum.result.now sums_some c.index-sum.ensures)
    ∙ ap (λ (x : Counted). list_all (λ refs. not (uses k refs) || stays (slice_set x.moves k c.args.left) refs) x.rings) c.self.view_is

pub left_to-requires : goal.left_to-requires
left_to-requires c =
    let us = map (λ u. u.items) c.self.inside.users.items in
    let g : Counted = counted_of c.self.inside.rings.now c.self.inside.owners.items c.self.inside.moves.items us in
    let k = c.args.arc in
    let within : k < length g.moves = subst (λ (x : Counted). k < length x.moves) (sym c.self.view_is) c.requires.arc in
    let there : k < length c.self.inside.users.items = omega (arith, within, c.self.invariant.ready.many, length-map c.self.inside.users.items (λ u. u.items)) in
    let w = listed_has_sum g c.self.inside.sums.items c.self.invariant k c.users.user-index c.as_slice-users.result.now
    (c.as_slice-users.ensures.value ∙ users_read (λ u. u.items) c.self.inside.users.items k c.index-2.result.now there c.index-2.ensures) c.users-test.true in
    omega (arith, w, ap length c.as_slice-sums.ensures.value)

pub returns-then-sum : goal.returns-then-sum
returns-then-sum c = one_fails c.as_slice-sums.result.now c.saturating_sub-lost.result c.users.ring c.users.sum c.as_slice-users.result.now c.users.user-index _
    c.saturating_sub-sum.result c.users-test.true (c.saturating_sub-sum.ensures ∙ ap (λ s. s - c.saturating_sub-lost.result) c.left_to.ensures) c.if-sum.true c.users.invariant

pub users-preserved : goal.users-preserved
users-preserved c = one_has_enough c.as_slice-sums.result.now c.saturating_sub-lost.result c.users.ring c.users.sum c.as_slice-users.result.now c.users.user-index _
    c.saturating_sub-sum.result c.users-test.true (c.saturating_sub-sum.ensures ∙ ap (λ s. s - c.saturating_sub-lost.result) c.left_to.ensures) c.if-sum.false c.users.invariant

pub returns : goal.returns
returns c = none_more c.as_slice-sums.result.now c.saturating_sub-lost.result c.users.ring c.users.sum c.as_slice-users.result.now c.users.user-index _ c.users-test.false c.users.invariant
