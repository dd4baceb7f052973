use Rattle.command_words.specs.CommandLine.{file_rule, quiet_rule}
use Rattle.command_words.proofs.file_usage.simplify.Goals as goal

pub returns : goal.returns
returns c = λ keep.
    let one = c.with_common-command.ensures _ (c.with_reducing.ensures _ c.command.ensures keep) in
    let two = c.with_argument.ensures _ quiet_rule one c.quiet.ensures in
    c.with_argument-2.ensures _ file_rule two c.file.ensures
