use Rattle.command_words.specs.CommandLine.{crossings_rule, file_rule}
use Rattle.command_words.proofs.file_usage.stat.Goals as goal

pub returns : goal.returns
returns c =
    let one = c.with_argument-command.ensures _ crossings_rule c.command.ensures c.crossings.ensures in
    c.with_argument.ensures _ file_rule (c.with_common.ensures _ one) c.file.ensures
