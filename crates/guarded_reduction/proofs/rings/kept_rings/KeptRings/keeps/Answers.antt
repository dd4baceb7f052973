use Rattle.std.proofs.Common.{rules, ◌≡◌, ◌-◌, ◌<◌, ◌≤◌, ◌||◌, not, true, ap, length, map, slice_index, slice_set, subst, sym, ◌∙◌, arith}
use Rattle.std.specs.List.{list_all}
use Rattle.guarded_meaning.specs.Guards.{uses}
use Rattle.guarded_reduction.specs.Moves.{Counted, keeps_all, lost_at, owner_at, stays}
use Rattle.guarded_reduction.proofs.RingMoves.{IsRead, counted_of, is_read, keeps_by_one, keeps_is, keeps_none, keeps_unchanged}
use Rattle.guarded_reduction.proofs.rings.kept_rings.KeptRings.keeps.Goals as goal

pub returns-then-is_empty : goal.returns-then-is_empty
returns-then-is_empty c = sym (keeps_none c.args.places.now c.args.place c.args.self.now (search rules))

pub returns-then-left-moves : goal.returns-then-left-moves
returns-then-left-moves c =
    let s = c.args.places.now in
    let z = c.args.place in
    let g : Counted = counted_of c.self.inside.rings.now c.self.inside.owners.items c.self.inside.moves.items (map (λ u. u.items) c.self.inside.users.items) in
    let h : z < length c.self.inside.owners.items = search rules in
    let r : IsRead s z g c.index-arc.result.now c.index-moves.result.now c.saturating_sub-left.result =
    is_read s z g c.index-arc.result.now c.index-moves.result.now c.lost.result c.saturating_sub-left.result c.self.invariant.ready h c.index-arc.ensures c.index-moves.ensures c.lost.ensures (search rules) in
    let e : slice_index g.moves (owner_at g z) - lost_at s z ≡ slice_index g.moves (owner_at g z) = sym r.left ∙ c.if-left-moves.true ∙ r.moves in
    subst (λ (x : Counted). true ≡ keeps_all s z x) c.self.view_is (sym (keeps_unchanged s z g c.self.invariant.ready r.within e))

pub returns-then-left-ge-LEAST_MOVES : goal.returns-then-left-ge-LEAST_MOVES
returns-then-left-ge-LEAST_MOVES c =
    let s = c.args.places.now in
    let z = c.args.place in
    let g : Counted = counted_of c.self.inside.rings.now c.self.inside.owners.items c.self.inside.moves.items (map (λ u. u.items) c.self.inside.users.items) in
    let h : z < length c.self.inside.owners.items = search rules in
    let r : IsRead s z g c.index-arc.result.now c.index-moves.result.now c.saturating_sub-left.result =
    is_read s z g c.index-arc.result.now c.index-moves.result.now c.lost.result c.saturating_sub-left.result c.self.invariant.ready h c.index-arc.ensures c.index-moves.ensures c.lost.ensures (search rules) in
    let e : 3 ≤ slice_index g.moves (owner_at g z) - lost_at s z = omega (arith, r.left, c.if-left-ge-LEAST_MOVES.true) in
    subst (λ (x : Counted). true ≡ keeps_all s z x) c.self.view_is (sym (keeps_by_one s z g c.self.invariant.ready r.within e))

pub all_stay-requires-clause-some : goal.all_stay-requires-clause-some
all_stay-requires-clause-some c = search rules

pub all_stay-requires-clause-arc : goal.all_stay-requires-clause-arc
all_stay-requires-clause-arc c =
    let s = c.args.places.now in
    let z = c.args.place in
    let g : Counted = counted_of c.self.inside.rings.now c.self.inside.owners.items c.self.inside.moves.items (map (λ u. u.items) c.self.inside.users.items) in
    let h : z < length c.self.inside.owners.items = search rules in
    let r : IsRead s z g c.index-arc.result.now c.index-moves.result.now c.saturating_sub-left.result =
    is_read s z g c.index-arc.result.now c.index-moves.result.now c.lost.result c.saturating_sub-left.result c.self.invariant.ready h c.index-arc.ensures c.index-moves.ensures c.lost.ensures (search rules) in
    subst (λ (x : Counted). c.index-arc.result.now < length x.moves) c.self.view_is (omega (arith, r.within, r.arc))

pub all_stay-requires-clause-left : goal.all_stay-requires-clause-left
all_stay-requires-clause-left c =
    let s = c.args.places.now in
    let z = c.args.place in
    let g : Counted = counted_of c.self.inside.rings.now c.self.inside.owners.items c.self.inside.moves.items (map (λ u. u.items) c.self.inside.users.items) in
    let h : z < length c.self.inside.owners.items = search rules in
    let r : IsRead s z g c.index-arc.result.now c.index-moves.result.now c.saturating_sub-left.result =
    is_read s z g c.index-arc.result.now c.index-moves.result.now c.lost.result c.saturating_sub-left.result c.self.invariant.ready h c.index-arc.ensures c.index-moves.ensures c.lost.ensures (search rules) in
    let e : slice_index g.moves c.index-arc.result.now ≡ slice_index g.moves (owner_at g z) = ap (slice_index g.moves) r.arc in
    subst (λ (x : Counted). c.saturating_sub-left.result ≤ slice_index x.moves c.index-arc.result.now) c.self.view_is (omega (arith, r.left, e))

pub returns : goal.returns
returns c =
    let s = c.args.places.now in
    let z = c.args.place in
    let g : Counted = counted_of c.self.inside.rings.now c.self.inside.owners.items c.self.inside.moves.items (map (λ u. u.items) c.self.inside.users.items) in
    let h : z < length c.self.inside.owners.items = search rules in
    let r : IsRead s z g c.index-arc.result.now c.index-moves.result.now c.saturating_sub-left.result =
    is_read s z g c.index-arc.result.now c.index-moves.result.now c.lost.result c.saturating_sub-left.result c.self.invariant.ready h c.index-arc.ensures c.index-moves.ensures c.lost.ensures (search rules) in
    c.all_stay.ensures
    ∙ sym (ap (λ (x : Counted). list_all (λ refs. not (uses c.index-arc.result.now refs) || stays (slice_set x.moves c.index-arc.result.now c.saturating_sub-left.result) refs) x.rings) c.self.view_is)
    ∙ keeps_is s z g c.index-arc.result.now c.saturating_sub-left.result r.arc r.left ∙ ap (keeps_all s z) c.self.view_is
