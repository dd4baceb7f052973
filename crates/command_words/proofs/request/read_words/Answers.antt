use Rattle.std.proofs.Common.{◌∙◌, Option, ap, subst}
use Rattle.command_words.specs.Asked.{Answers, Ordered, order_of, ordered}
use Rattle.command_words.proofs.WrittenLaw.{asked_as_written}
use Rattle.command_words.proofs.request.read_words.Goals as goal

pub returns-clause-written : goal.returns-clause-written
returns-clause-written c =
    λ o can same. subst (λ (x : Option Ordered). Answers x ordered c.read_by.result) (ap order_of same ∙ asked_as_written o can) c.read_by.ensures.exact
