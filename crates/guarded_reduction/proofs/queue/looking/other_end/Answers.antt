use Rattle.std.proofs.Common.{sym, ◌∙◌}
use Rattle.guarded_reduction.proofs.OtherEnd.{end_after, end_before}
use Rattle.guarded_reduction.proofs.queue.looking.other_end.Goals as goal

pub returns-then-leads_on-clause-end : goal.returns-then-leads_on-clause-end
returns-then-leads_on-clause-end c =
    end_before c.args.places.now c.args.corner.now c.args.holder c.law.ensures c.requires.blocks c.requires.outside c.before-before.result c.before-before.ensures.value (sym c.leads_on.ensures ∙ c.if-leads_on.true)

pub returns-clause-end : goal.returns-clause-end
returns-clause-end c =
    end_after c.args.places.now c.args.corner.now c.args.holder c.law.ensures c.requires.blocks c.requires.outside c.before-before.result c.after.result c.before-before.ensures.value (sym c.leads_on.ensures ∙ c.if-leads_on.false)
    c.after.ensures.value
