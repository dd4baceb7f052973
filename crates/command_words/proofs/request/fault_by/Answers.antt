use Rattle.std.proofs.Common.{◌≡◌, ◌∙◌, ap, false, inr, sym}
use Rattle.std.proofs.lemmas.Result.{IfOk-weaker}
use Rattle.clap.specs.Values.{kind_of}
use Rattle.command_words.specs.Faults.{IsFaultBy, is_help, is_memory}
use Rattle.command_words.proofs.Getters.{help_for, memory_or, refusal_for, refused_by}
use Rattle.command_words.proofs.request.fault_by.Goals as goal

pub returns-then-is_help-clause-memory : goal.returns-then-is_help-clause-memory
returns-then-is_help-clause-memory c =
    let other : is_memory (kind_of c.args.error) ≡ false = ap is_memory (sym c.kind-kind.ensures) ∙ sym c.is_memory.ensures ∙ c.if-is_memory.false in
    λ m. absurd (memory_or c.args.error other m)

pub returns-then-is_help-clause-fault : goal.returns-then-is_help-clause-fault
returns-then-is_help-clause-fault c =
    let other : is_memory (kind_of c.args.error) ≡ false = ap is_memory (sym c.kind-kind.ensures) ∙ sym c.is_memory.ensures ∙ c.if-is_memory.false in
    λ kinds found h. help_for kinds found c.args.error h (memory_or c.args.error other) (ap is_help (sym c.kind-kind.ensures) ∙ sym c.is_help.ensures ∙ c.if-is_help.true)

pub returns-clause-memory : goal.returns-clause-memory
returns-clause-memory c =
    let other : is_memory (kind_of c.args.error) ≡ false = ap is_memory (sym c.kind-kind.ensures) ∙ sym c.is_memory.ensures ∙ c.if-is_memory.false in
    λ m. absurd (memory_or c.args.error other m)

pub returns-clause-fault : goal.returns-clause-fault
returns-clause-fault c =
    let other : is_memory (kind_of c.args.error) ≡ false = ap is_memory (sym c.kind-kind.ensures) ∙ sym c.is_memory.ensures ∙ c.if-is_memory.false in
    λ kinds found h. IfOk-weaker c.refusal.result _ (IsFaultBy kinds found) (λ f r. refusal_for kinds found f r
    (inr (refused_by kinds c.args.error h (memory_or c.args.error other) (ap is_help (sym c.kind-kind.ensures) ∙ sym c.is_help.ensures ∙ c.if-is_help.false)))) c.refusal.ensures
