use Rattle.std.proofs.Common.{[], ap, map, subst, ◌≡◌, ◌∙◌}
use Rattle.std.specs.Option.{option_and_then}
use Rattle.std.specs.String.{string_bytes}
use Rattle.clap.specs.Kinds.{HasKind}
use Rattle.clap.specs.Simple.{App, is_simple, subcommand_of, subcommand_rows_of}
use Rattle.clap.specs.Faults.{fault_of, is_simple_and_free}
use Rattle.command_words.specs.Asked.{kinds_of, ordered_in}
use Rattle.command_words.specs.CommandLine.{program_app}
use Rattle.command_words.proofs.Apps.{program_free, program_simple}
use Rattle.command_words.proofs.Getters.{refused_for}
use Rattle.command_words.proofs.request.matches_in.Goals as goal

pub returns-in_ok-fault_by-in-Err : goal.returns-in_ok-fault_by-in-Err
returns-in_ok-fault_by-in-Err c =
    let words = map string_bytes c.args.words.now in
    let kinds = c.in-Err.ensures.kinds (ap is_simple_and_free c.requires.app ∙ program_free) in
    let kind = subst (λ (a : App). HasKind (fault_of a words) c.in-Err.error) c.requires.app kinds in (
      refused_for (kinds_of words) (option_and_then ordered_in (subcommand_of program_app words)) c.in-Err.error _ kind c.in_ok-fault_by-in-Err.ensures.memory,
      c.in_ok-fault_by-in-Err.ensures.fault (kinds_of words) (subcommand_of program_app words) kind,
    )

pub returns-in-Ok : goal.returns-in-Ok
returns-in-Ok c =
    let words = map string_bytes c.args.words.now in
    let free = c.in-Ok.ensures.kinds (ap is_simple_and_free c.requires.app ∙ program_free) in
    let found = c.in-Ok.ensures.ok.2 (ap is_simple c.requires.app ∙ program_simple) in
    (subst (λ (a : App). fault_of a words ≡ []) c.requires.app free, subst (λ (a : App). subcommand_rows_of c.in-Ok.matches ≡ subcommand_of a words) c.requires.app found.1)
