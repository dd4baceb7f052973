use Rattle.std.proofs.Common.{◌≡◌, ◌*◌, ◌<◌, ap, drop, length, length-set, slice_index_or, ◌∙◌, arith}
use Rattle.std.proofs.lemmas.List.{length-drop, nil_from_length}
use Rattle.guarded_reduction.specs.Moves.{times}
use Rattle.guarded_reduction.proofs.Sums.{one_lost}
use Rattle.guarded_reduction.proofs.Users.{listed_within, read}
use Rattle.guarded_reduction.proofs.rings.ring_moves.lose.Goals as goal

pub index-requires : goal.index-requires
index-requires c =
    let w = listed_within c.args.users.now (length c.args.sums.now.items) c.users.user-index c.users-test.true c.requires in
    omega (arith, w, c.users.invariant.many)

pub index_mut-requires : goal.index_mut-requires
index_mut-requires c =
    let w = listed_within c.args.users.now (length c.args.sums.now.items) c.users.user-index c.users-test.true c.requires in
    omega (arith, w, c.users.invariant.many)

pub users-preserved : goal.users-preserved
users-preserved c =
    let ss = c.users.sums.items in
    let u = slice_index_or c.args.users.now c.users.user-index 0 in
    let w = listed_within c.args.users.now (length c.args.sums.now.items) c.users.user-index c.users-test.true c.requires in
    let within : u < length ss = omega (arith, w, c.users.invariant.many) in
    let e : c.index.result.now ≡ slice_index_or ss u 0 = read ss u c.index.result.now within c.index.ensures in
    record {
      many = length-set ss u c.saturating_sub.result ∙ c.users.invariant.many;
      each = one_lost ss c.args.sums.now.items c.args.users.now c.args.lost c.users.user-index c.saturating_sub.result c.users-test.true within (omega (arith, e, c.saturating_sub.ensures)) c.users.invariant.each;
    }

pub returns-clause-each : goal.returns-clause-each
returns-clause-each c j =
    let rest = drop c.users.user-index c.args.users.now in
    let none : times j rest * c.args.lost ≡ 0 * c.args.lost = ap (λ ns. times j ns * c.args.lost) (nil_from_length rest (omega (arith, length-drop c.users.user-index c.args.users.now, c.users-test.false))) in
    let h = c.users.invariant.each j in
    omega (arith, none, h)
