use Rattle.inputs.proofs.NamesMet.{knows_more}
use Rattle.inputs.proofs.names.meet.Goals as goal

pub returns-in-Ok-clause-known : goal.returns-in-Ok-clause-known
returns-in-Ok-clause-known g c new = knows_more c.in-Some.names c.insert.new.self c.args.name _ (rw c.in-Some.is at c.requires) c.in-Ok.ensures.updates
