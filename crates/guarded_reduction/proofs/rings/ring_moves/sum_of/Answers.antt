use Rattle.std.proofs.Common.{◌≡◌, ◌+◌, ◌<◌, ◌≤◌, ap, drop, map, slice_index_or, sym, ◌∙◌, arith}
use Rattle.std.proofs.Math.Facts.{Fits-of_lt}
use Rattle.std.proofs.lemmas.List.{length-drop, nil_from_length}
use Rattle.geometry.specs.Joins.{number_of}
use Rattle.owned_values.proofs.Lists.{drop_here}
use Rattle.guarded_reduction.specs.Moves.{capped, ring_moves}
use Rattle.guarded_reduction.proofs.Sums.{at_most, capped_at}
use Rattle.guarded_reduction.proofs.rings.ring_moves.sum_of.Goals as goal

pub overflow_add-sum : goal.overflow_add-sum
overflow_add-sum c =
    let a : capped (slice_index_or c.args.moves.now c.index.result 0) ≤ 3 = at_most (slice_index_or c.args.moves.now c.index.result 0) in
    let e : c.refs.sum + c.capped.result < 340282366920938463463374607431768211456 = omega (arith, a, c.capped.ensures, c.refs.invariant.few, c.refs-test.true, c.well_formed) in
    Fits-of_lt e

pub refs-preserved : goal.refs-preserved
refs-preserved c =
    let ms = map capped c.args.moves.now in
    let i = c.refs.arc-index in
    let r = c.arc-item.result in
    let a : capped (slice_index_or c.args.moves.now c.index.result 0) ≤ 3 = at_most (slice_index_or c.args.moves.now c.index.result 0) in
    let e : ring_moves ms (drop i c.args.refs.now) ≡ slice_index_or ms (number_of r) 0 + ring_moves ms (drop (i + 1) c.args.refs.now) = ap (ring_moves ms) (drop_here c.args.refs.now i r c.refs-test.true c.arc-item.is) in
    let f : c.capped.result ≡ slice_index_or ms (number_of r) 0 = c.capped.ensures ∙ ap (λ k. capped (slice_index_or c.args.moves.now k 0)) c.index.ensures ∙ sym (capped_at c.args.moves.now (number_of r)) in
    record {
      few = omega (arith, a, c.capped.ensures, c.refs.invariant.few);
      rest = omega (arith, e, f, c.refs.invariant.rest);
    }

pub returns : goal.returns
returns c =
    let rest = drop c.refs.arc-index c.args.refs.now in
    let e : ring_moves (map capped c.args.moves.now) rest ≡ 0 = ap (ring_moves (map capped c.args.moves.now)) (nil_from_length rest (omega (arith, length-drop c.refs.arc-index c.args.refs.now, c.refs-test.false))) in
    omega (arith, e, c.refs.invariant.rest)
