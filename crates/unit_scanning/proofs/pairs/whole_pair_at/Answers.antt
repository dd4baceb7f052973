use Rattle.std.proofs.Common.{◌≡◌, arith}
use Rattle.std.proofs.lemmas.Int.{ints}
use mir.Syntax.{w64}
use mir.Val.{to_z, of_z}
use Rattle.unit_scanning.specs.Numbers.{IsWholeNumber}
use Rattle.unit_scanning.proofs.PlainPairs.{pair_is}
use Rattle.unit_scanning.proofs.pairs.whole_pair_at.Goals as goal

pub returns-clause-pair : goal.returns-clause-pair
returns-clause-pair c =
    let x : to_z w64 (of_z w64 c.in_ok-x.x) ≡ c.in_ok-x.x = omega (arith, ints, c.in_ok-x.ensures.within, c.requires) in
    let y : to_z w64 (of_z w64 c.in_ok-y.y) ≡ c.in_ok-y.y = omega (arith, ints, c.in_ok-y.ensures.within, c.requires) in
    rw (x, y)
    (pair_is (IsWholeNumber c.args.limit) c.args.bytes.now c.in_ok-x.after.now c.in_ok-further.further.now c.in_ok-y.following.now _ _ _ _ (λ end. rw c.skip.ensures at c.in_ok-x.ensures.whole) c.in_ok-further.ensures (λ end. rw c.skip-2.ensures at c.in_ok-y.ensures.whole) c.in_ok-more.ensures)
