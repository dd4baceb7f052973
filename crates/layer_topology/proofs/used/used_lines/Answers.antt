use Rattle.std.proofs.Common.{◌≡◌, ◌∙◌, None, [], ◌∷◌, ◌++◌, ap, rules, subst, sym, take}
use Rattle.std.proofs.lemmas.List.{nil_from_length}
use Rattle.owned_values.proofs.Lists.{take_here}
use Rattle.topo_model.proofs.Chosen.{Chooses, left_out, passed, taken}
use Rattle.topo_model.proofs.Picks.{places_are}
use Rattle.layer_topology.proofs.used.used_lines.Goals as goal

pub arcs-preserved-in_default : goal.arcs-preserved-in_default
arcs-preserved-in_default c =
    let none : c.arcs.later.now ≡ [] = nil_from_length c.arcs.later.now (search rules) in
    subst (λ xs. Chooses c.args.used.now xs c.arcs.later.now c.arcs.lines.items) (sym (take_here c.args.arcs.now c.arcs.arc-index c.arc-item.result c.arcs-test.true c.arc-item.is))
    (passed c.args.used.now c.arcs.later.now (take c.arcs.arc-index c.args.arcs.now) c.arcs.lines.items c.arc-item.result none c.arcs.invariant)

pub arcs-preserved-then-not-flag : goal.arcs-preserved-then-not-flag
arcs-preserved-then-not-flag c =
    let split : c.in-Some.flag.now ∷ c.in-Some.rest.now ≡ c.arcs.later.now = search rules in
    subst (λ xs. Chooses c.args.used.now xs c.in-Some.rest.now c.arcs.lines.items) (sym (take_here c.args.arcs.now c.arcs.arc-index c.arc-item.result c.arcs-test.true c.arc-item.is))
    (left_out c.args.used.now c.arcs.later.now c.in-Some.rest.now c.in-Some.flag.now (take c.arcs.arc-index c.args.arcs.now) c.arcs.lines.items c.arc-item.result split (search rules) c.arcs.invariant)

pub arcs-preserved : goal.arcs-preserved
arcs-preserved c =
    let split : c.in-Some.flag.now ∷ c.in-Some.rest.now ≡ c.arcs.later.now = search rules in
    let line : c.in_ok-positions.field-0 ≡ c.arc-item.result = c.in_ok-positions.ensures ∙ places_are None c.as_slice.result.now ∙ c.as_slice.ensures in
    subst (λ xs. Chooses c.args.used.now xs c.in-Some.rest.now c.push.new.self.items) (sym (take_here c.args.arcs.now c.arcs.arc-index c.arc-item.result c.arcs-test.true c.arc-item.is))
    (taken c.args.used.now c.arcs.later.now c.in-Some.rest.now c.in-Some.flag.now (take c.arcs.arc-index c.args.arcs.now) c.arcs.lines.items c.push.new.self.items c.arc-item.result split (search rules)
    (c.in_ok-push.ensures.items ∙ ap (λ l. c.arcs.lines.items ++ l ∷ []) line) c.arcs.invariant)
