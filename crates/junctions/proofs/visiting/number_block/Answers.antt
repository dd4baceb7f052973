use Rattle.std.proofs.Common.{◌≡◌, ◌+◌, [], ◌∷◌, ◌++◌, Some, slice_get, take, append_assoc, ap, sym, ◌∙◌, subst}
use Rattle.junctions.proofs.Names.{take_more, AreNumbers, with_position, with_positions}
use Rattle.junctions.proofs.FirstSeen.{positions_append}
use Rattle.junctions.proofs.Numbers.{numbers_more}
use Rattle.junctions.proofs.visiting.number_block.Goals as goal

pub loop-i-preserved : goal.loop-i-preserved
loop-i-preserved c =
    let i = c.loop-i.i in
    let ps = c.args.positions.now in
    let p = c.index-positions-i.result in
    let t : take (i + 1) ps ≡ take i ps ++ (p ∷ []) = take_more ps i p c.loop-i-test.true ∙ ap (λ z. take i ps ++ (z ∷ [])) (sym c.index-positions-i.is) in (
      c.in_ok-number.ensures.keys ∙ ap (λ l. with_position l p) c.loop-i.invariant.0 ∙ positions_append c.args.numbering.now (take i ps) (p ∷ []) ∙ ap (with_positions c.args.numbering.now) (sym t),
      λ qs are.
          subst (AreNumbers c.number_from.new.numbering c.push.new.self.items) (append_assoc qs (take i ps) (p ∷ []) ∙ ap (λ l. qs ++ l) (sym t))
          (subst (λ l. AreNumbers c.number_from.new.numbering l ((qs ++ take i ps) ++ (p ∷ []))) (sym c.in_ok-push.ensures.items)
          (numbers_more c.loop-i.numbering c.number_from.new.numbering c.loop-i.numbers.items (qs ++ take i ps) c.in_ok-kept.kept p c.in_ok-number.ensures.keys
          (subst (λ n. slice_get c.number_from.new.numbering n ≡ Some p) (sym c.in_ok-kept.ensures) c.in_ok-number.ensures.number) (c.loop-i.invariant.1 qs are))),
    )
