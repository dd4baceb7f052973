use Rattle.std.proofs.Common.{◌≡◌, [], ◌∷◌, refl, rules, arith}
use Rattle.std.proofs.lemmas.List.{nil_from_length}
use Rattle.topo_model.proofs.Chosen.{counts_begin, counts_passed, counts_left_out, counts_taken}
use Rattle.topo_model.proofs.trimming.used_sum.Goals as goal

pub counts-init : goal.counts-init
counts-init c = counts_begin c.args.used.now c.args.counts.now

pub counts-preserved-in_default : goal.counts-preserved-in_default
counts-preserved-in_default c =
    let none : c.counts.flags.now ≡ [] = nil_from_length c.counts.flags.now (search rules) in
    counts_passed c.args.used.now c.counts.flags.now c.args.counts.now c.counts.count-index c.counts.total 0 c.counts-test.true none c.counts.invariant

pub counts-preserved-then-not-flag : goal.counts-preserved-then-not-flag
counts-preserved-then-not-flag c =
    let split : c.in-Some.flag.now ∷ c.in-Some.rest.now ≡ c.counts.flags.now = search rules in
    counts_left_out c.args.used.now c.counts.flags.now c.in-Some.rest.now c.in-Some.flag.now c.args.counts.now c.counts.count-index c.counts.total 0 c.counts-test.true split
    c.if-not-flag.true c.counts.invariant

pub counts-preserved : goal.counts-preserved
counts-preserved c =
    let split : c.in-Some.flag.now ∷ c.in-Some.rest.now ≡ c.counts.flags.now = search rules in
    counts_taken c.args.used.now c.counts.flags.now c.in-Some.rest.now c.in-Some.flag.now c.args.counts.now c.counts.count-index c.counts.total _ 0 c.counts-test.true split
    c.if-not-flag.false refl (omega arith) c.counts.invariant
