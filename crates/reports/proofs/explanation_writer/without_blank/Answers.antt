use Rattle.reports.proofs.Lines.{blank-kept}
use Rattle.reports.proofs.explanation_writer.without_blank.Goals as goal

pub returns-in-None : goal.returns-in-None
returns-in-None c = blank-kept c.args.text.now _ c.in-None.is c.strip_prefix.ensures.cases
