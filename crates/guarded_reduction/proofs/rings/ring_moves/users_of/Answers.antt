use Rattle.std.proofs.Common.{◌≡◌, ℕ, List, [], ap, length, map, subst, ◌∙◌, arith}
use Rattle.std.proofs.lemmas.List.{length-map, length-replicate}
use Rattle.guarded_reduction.specs.Moves.{AreUsers}
use Rattle.guarded_reduction.proofs.Users.{no_rings, one_ring_more, ring_read}
use Rattle.guarded_reduction.proofs.rings.ring_moves.users_of.Goals as goal

pub loop-ring-init : goal.loop-ring-init
loop-ring-init c = let nil : List ℕ = [] in record {
  within = omega arith;
  many = omega (arith, length-map c.in_ok-users.users.items (λ u. u.items), ap length c.in_ok-users.ensures, length-replicate c.args.n nil);
  users = no_rings c.args.n c.args.rings.now (map (λ u. u.items) c.in_ok-users.users.items) c.in_ok-users.ensures;
}

pub loop-ring-preserved : goal.loop-ring-preserved
loop-ring-preserved c = record {
  within = omega (arith, c.loop-ring-test.true);
  many = omega (arith, c.in_ok-put_users.ensures.many, length-map c.put_users.new.users.items (λ u. u.items), length-map c.loop-ring.users.items (λ u. u.items), c.loop-ring.invariant.many);
  users = one_ring_more c.args.rings.now c.as_slice.result.now c.loop-ring.ring (map (λ u. u.items) c.loop-ring.users.items) (map (λ u. u.items) c.put_users.new.users.items) c.loop-ring-test.true
      (c.as_slice.ensures ∙ ring_read c.args.rings.now c.loop-ring.ring c.index-rings-ring.result c.loop-ring-test.true c.index-rings-ring.is) c.in_ok-put_users.ensures c.loop-ring.invariant.users;
}

pub returns-clause-users : goal.returns-clause-users
returns-clause-users c =
    let e : c.loop-ring.ring ≡ length c.args.rings.now = omega (arith, c.loop-ring-test.false, c.loop-ring.invariant.within) in
    subst (λ n. AreUsers n c.args.rings.now (map (λ u. u.items) c.loop-ring.users.items)) e c.loop-ring.invariant.users
