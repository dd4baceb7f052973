use Rattle.std.proofs.Common.{sym, ◌∙◌}
use Rattle.json_value.proofs.Looking as k
use Rattle.json_value.proofs.look_up.place_of.Goals as goal

pub members-preserved-then-ne : goal.members-preserved-then-ne
members-preserved-then-ne c = k.goes_on _ _ _ _ c.members-test.true c.index-members-index.is _ (k.not_named _ _ _ _ c.if-ne.true c.ne.ensures c.as_str.ensures.text) c.members.invariant

pub returns-then-is_some : goal.returns-then-is_some
returns-then-is_some c = k.second _ _ _ _ c.members-test.true c.index-members-index.is c.members.found (sym c.is_some.ensures ∙ c.if-is_some.true) (k.is_named _ _ _ _ c.if-ne.false c.ne.ensures c.as_str.ensures.text) c.members.invariant

pub members-preserved : goal.members-preserved
members-preserved c = k.first _ _ _ _ c.members-test.true c.index-members-index.is c.members.found (sym c.is_some.ensures ∙ c.if-is_some.false) (k.is_named _ _ _ _ c.if-ne.false c.ne.ensures c.as_str.ensures.text) c.members.invariant

pub returns : goal.returns
returns c = k.ends _ _ _ _ c.members-test.false c.members.invariant
