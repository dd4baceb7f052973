use Rattle.std.proofs.Common.{sym, ◌∙◌, rules, None, ◌≡◌}
use Rattle.geometry.specs.Rings.{same}
use Rattle.topo_model.proofs.Short.{first_new, other_new, same_not_new}
use Rattle.topo_model.proofs.counting.new_after.Goals as goal

pub returns-in_default-clause-count : goal.returns-in_default-clause-count
returns-in_default-clause-count c = let e : c.args.last ≡ None = search rules in first_new c.args.last c.args.cell e

pub returns-then-eq-clause-count : goal.returns-then-eq-clause-count
unfolding same
returns-then-eq-clause-count c = same_not_new c.args.last c.in-Some.other c.args.cell c.in-Some.is (sym c.eq.ensures ∙ c.if-eq.true)

pub returns-clause-count : goal.returns-clause-count
unfolding same
returns-clause-count c = other_new c.args.last c.in-Some.other c.args.cell c.in-Some.is (sym c.eq.ensures ∙ c.if-eq.false)
