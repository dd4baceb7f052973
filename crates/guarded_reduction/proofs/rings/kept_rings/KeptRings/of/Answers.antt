use Rattle.std.proofs.Common.{rules, ◌≡◌, [], ap, length, map, subst, sym, ◌∙◌}
use Rattle.std.specs.List.{AllByRecursion}
use Rattle.std.proofs.lemmas.List.{length-map, nil_from_length}
use Rattle.geometry.specs.Joins.{AreInRange}
use Rattle.guarded_reduction.specs.Moves.{capped, moves, ring_moves}
use Rattle.guarded_reduction.proofs.RingMoves.{first_ready}
use Rattle.guarded_reduction.proofs.Sums.{nothing_counted}
use Rattle.guarded_reduction.proofs.rings.kept_rings.KeptRings.of.Goals as goal

pub invariant_of-result : goal.invariant_of-result
invariant_of-result c =
    let os : c.new.result.items ≡ [] = search rules in
    let ms : c.new-then-is_empty.result.items ≡ [] = search rules in
    let us : c.new-then-is_empty-2.result.items ≡ [] = search rules in
    let ss : c.new-then-is_empty-3.result.items ≡ [] = search rules in
    nothing_counted c.args.rings.now c.new.result.items c.new-then-is_empty.result.items c.new-then-is_empty-3.result.items (map (λ u. u.items) c.new-then-is_empty-2.result.items)
    (nil_from_length c.args.rings.now (search rules)) os ms (ap (map (λ u. u.items)) us) ss

pub sums_of-requires : goal.sums_of-requires
sums_of-requires c =
    subst (λ n. AllByRecursion (AreInRange n) c.args.rings.now) (sym (ap length (c.as_slice.ensures.value ∙ c.in_ok-moves.ensures) ∙ length-map c.args.arcs.now moves)) c.requires.in_range

pub invariant_of-result-2 : goal.invariant_of-result-2
invariant_of-result-2 c = record {
  ready = first_ready c.args.arcs.now c.args.rings.now c.in_ok-owners.owners.items c.in_ok-moves.moves.items (map (λ u. u.items) c.in_ok-users.users.items)
      (λ e. search rules) c.in_ok-owners.ensures c.in_ok-moves.ensures (length-map c.in_ok-users.users.items (λ u. u.items) ∙ c.in_ok-users.ensures.many) c.in_ok-users.ensures.users c.requires.in_range c.requires.meet c.requires.long;
  sums_are = c.in_ok-sums.ensures ∙ ap (λ ms. map (ring_moves (map capped ms)) c.args.rings.now) c.as_slice.ensures.value;
}
