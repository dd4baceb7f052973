use Rattle.std.proofs.Common.{◌∙◌, ◌-◌, [], ◌∷◌, length, map, ap, sym, subst}
use Rattle.build_meaning.specs.Simplified.{EachFromFirstToLast}
use Rattle.call_tests.proofs.Ends.{ends_reach}
use Rattle.call_tests.proofs.simplifying.kept_ends.Goals as goal

pub returns : goal.returns
returns c =
    subst (λ l. EachFromFirstToLast l c.args.topology.now.arcs)
    (sym (c.in_ok-kept.ensures ∙ ap (map (λ cells. 0 ∷ (length cells - 1) ∷ [])) c.arcs.ensures.arcs)) (ends_reach c.args.topology.now.arcs)
