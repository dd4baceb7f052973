use Rattle.std.proofs.Common.{[], ◌∷◌, ◌++◌, ap, ◌∙◌}
use Rattle.topo_model.proofs.Renumbered.{new_index_set, new_index_unset}
use Rattle.topo_model.proofs.trimming.renumbering.Goals.{then-flag, else-flag}
use Rattle.topo_model.proofs.trimming.renumbering.Goals as goal

pub arcs-preserved : goal.arcs-preserved
arcs-preserved c =
    let more = c.in_ok-push.ensures.items ∙ ap (λ r. c.arcs.renumbering.items ++ r ∷ []) c.forward.ensures in
    elim c.if-flag.branch [
      | then-flag w ↦ new_index_set c.args.used.now c.arcs.flag-index c.arcs.new_index c.if-flag.new_index c.arcs.renumbering.items c.push.new.self.items c.arcs-test.true w.if-flag.true w.new_index-is more c.arcs.invariant
      | else-flag w ↦ new_index_unset c.args.used.now c.arcs.flag-index c.arcs.new_index c.if-flag.new_index c.arcs.renumbering.items c.push.new.self.items c.arcs-test.true w.if-flag.false w.new_index-is more c.arcs.invariant
    ]
