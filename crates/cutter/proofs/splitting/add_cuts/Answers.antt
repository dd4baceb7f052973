use Rattle.std.proofs.Common.{[], ◌∷◌, ◌++◌, cond, take, append_assoc, refl, ap, ◌∙◌}
use Rattle.cutter.proofs.Names.{is_member, indexes}
use Rattle.cutter.proofs.SliceLaws.{indexes_step}
use Rattle.cutter.proofs.splitting.add_cuts.Goals as goal

pub loop-i-preserved : goal.loop-i-preserved
loop-i-preserved c =
    let cut = is_member c.args.vertices.now.cuts in
    let before = indexes cut 0 (take c.loop-i.i c.args.positions.now) in
    let more = cond (cut c.index-positions-i.result) (c.loop-i.i ∷ []) [] in
    c.in_ok-add_cut.ensures ∙ ap (λ l. l ++ more) c.loop-i.invariant ∙ append_assoc c.args.cuts.now.items before more
    ∙ ap (λ l. c.args.cuts.now.items ++ l) (indexes_step cut c.args.positions.now c.loop-i.i c.index-positions-i.result before c.loop-i-test.true c.index-positions-i.is refl)
