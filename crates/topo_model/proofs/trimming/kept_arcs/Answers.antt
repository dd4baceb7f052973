use Rattle.std.proofs.Common.{◌≡◌, [], ◌∷◌, rules}
use Rattle.std.proofs.lemmas.List.{nil_from_length}
use Rattle.topo_model.proofs.Chosen.{begins, passed, left_out, taken}
use Rattle.topo_model.proofs.trimming.kept_arcs.Goals as goal

pub arcs-init : goal.arcs-init
arcs-init c = begins c.args.used.now c.in_ok-kept.kept.items c.in_ok-kept.ensures.items

pub arcs-preserved-in_default : goal.arcs-preserved-in_default
arcs-preserved-in_default c =
    let none : c.arcs.flags.now ≡ [] = nil_from_length c.arcs.flags.now (search rules) in
    passed c.args.used.now c.arcs.flags.now c.arcs.yielded c.arcs.kept.items c.in-Some.arc none c.arcs.invariant

pub arcs-preserved-then-not-flag : goal.arcs-preserved-then-not-flag
arcs-preserved-then-not-flag c =
    let split : c.in-Some-split_first.flag.now ∷ c.in-Some-split_first.rest.now ≡ c.arcs.flags.now = search rules in
    left_out c.args.used.now c.arcs.flags.now c.in-Some-split_first.rest.now c.in-Some-split_first.flag.now c.arcs.yielded c.arcs.kept.items c.in-Some.arc split c.if-not-flag.true c.arcs.invariant

pub arcs-preserved : goal.arcs-preserved
arcs-preserved c =
    let split : c.in-Some-split_first.flag.now ∷ c.in-Some-split_first.rest.now ≡ c.arcs.flags.now = search rules in
    taken c.args.used.now c.arcs.flags.now c.in-Some-split_first.rest.now c.in-Some-split_first.flag.now c.arcs.yielded c.arcs.kept.items c.push.new.self.items c.in-Some.arc split c.if-not-flag.false
    c.in_ok-push.ensures.items c.arcs.invariant
